-- The formulas on one byte: what a mix of bytes keeps, and a byte over nothing.
use Rattle.std.proofs.Common.{◌≡◌, ℕ, ◌+◌, ◌-◌, ◌*◌, ◌/◌, ◌<◌, ◌≤◌, sym, ap, ◌∙◌, arith, mul-add, zero-mul, mul-le-mul_right, div-mul-le_self}
use Rattle.std.proofs.lemmas.Nat.{le-div, div-mul-add}
use Rattle.pixel_math.specs.Arithmetic.{over_byte, mix_byte}

-- a greater number has no smaller quotient
pub div-le-div : (m n k : ℕ) → 0 < k → m ≤ n → m / k ≤ n / k
div-le-div m n k h le = le-div (m / k) n k h (omega (arith, div-mul-le_self m k))

-- greater bytes are no smaller when mixed
pub mix_byte-le : (v w x y j d : ℕ) → 0 < d → v ≤ w → x ≤ y → mix_byte v x j d ≤ mix_byte w y j d
mix_byte-le v w x y j d pos old new =
    div-le-div _ _ d pos (omega (arith, mul-le-mul_right (d - j) old, mul-le-mul_right j new))

-- a byte mixed with itself is that byte
pub mix_byte-same : (v j d : ℕ) → 0 < d → j ≤ d → mix_byte v v j d ≡ v
mix_byte-same v j d pos le =
    let whole : v * (d - j) + v * j ≡ v * d = sym (mul-add v (d - j) j) ∙ ap (λ k. v * k) (omega arith) in
    rw whole (div-mul-add v d (d / 2) (omega arith))

-- bytes mixed are a byte
pub mix_byte-lt : (v w j d : ℕ) → j < d → v < 256 → w < 256 → mix_byte v w j d < 256
mix_byte-lt v w j d lt old new =
    omega (arith, mix_byte-le v 255 w 255 j d (omega arith) (omega arith) (omega arith), mix_byte-same 255 j d (omega arith) (omega arith))

-- a byte over nothing stays as it is
pub over_byte_nothing : (s a : ℕ) → over_byte s 0 a ≡ s
over_byte_nothing s a = rw (zero-mul (255 - a)) (omega arith)
