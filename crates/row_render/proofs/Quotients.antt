-- Quotients that are found by adding.
use Rattle.std.proofs.Common.{◌≡◌, ℕ, ◌+◌, ◌-◌, ◌*◌, ◌/◌, ◌%◌, ◌<◌, ◌≤◌, sym, ap, ◌∙◌, arith}
use Rattle.std.proofs.Math.Nat.{mod-lt}
use Rattle.std.proofs.lemmas.Nat.{div-mul-add, div-add-mod'}
use Rattle.history_model.specs.pictures.Raster.{scaled_to}

-- the quotient of a number whose rest is known
pub quotient_is : (quotient rest divisor number : ℕ) → quotient * divisor + rest ≡ number → rest < divisor → quotient ≡ number / divisor
quotient_is quotient rest divisor number e lt = sym (ap (λ (n : ℕ). n / divisor) (sym e) ∙ div-mul-add quotient divisor rest lt)

-- a number greater by a step: the rest passes the divisor
pub quotient_passes : (column rest divisor number step x : ℕ) → 0 < divisor → column * divisor + rest ≡ number + x * step → rest < divisor →
    divisor ≤ rest + step % divisor →
    ((column + step / divisor + 1) * divisor + (rest + step % divisor - divisor) ≡ number + (x + 1) * step) × (rest + step % divisor - divisor < divisor)
quotient_passes column rest divisor number step x some e lt passes =
    let whole = div-add-mod' step divisor in
    let part : step % divisor < divisor = mod-lt step some in
    let out : (column + step / divisor + 1) * divisor ≡ column * divisor + step / divisor * divisor + divisor = grind arith in
    let more : (x + 1) * step ≡ x * step + step = grind arith in
    (omega (arith, whole, e, passes, out, more), omega (arith, part, lt, passes))

-- or does not
pub quotient_stays : (column rest divisor number step x : ℕ) → 0 < divisor → column * divisor + rest ≡ number + x * step →
    rest + step % divisor < divisor →
    ((column + step / divisor) * divisor + (rest + step % divisor) ≡ number + (x + 1) * step) × (rest + step % divisor < divisor)
quotient_stays column rest divisor number step x some e stays =
    let whole = div-add-mod' step divisor in
    let out : (column + step / divisor) * divisor ≡ column * divisor + step / divisor * divisor = grind arith in
    let more : (x + 1) * step ≡ x * step + step = grind arith in
    (omega (arith, whole, e, out, more), stays)

-- the number of a column of a raster, from the first one on
pub scaled_number : (columns width first i : ℕ) → scaled_to columns width (first + i) ≡ ((2 * first + 1) * columns + i * (2 * columns)) / (2 * width)
scaled_number columns width first i =
    let same : (2 * (first + i) + 1) * columns ≡ (2 * first + 1) * columns + i * (2 * columns) = grind arith in
    ap (λ (n : ℕ). n / (2 * width)) same

-- a picture of the raster's own width
pub scaled_same : (width x : ℕ) → 0 < width → scaled_to width width x ≡ x
scaled_same width x some =
    let number : x * (2 * width) + width ≡ (2 * x + 1) * width = grind arith in
    sym (quotient_is x width (2 * width) ((2 * x + 1) * width) number (omega (arith, some)))
