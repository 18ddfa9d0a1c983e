-- A mix of two bytes is the lesser one and what their difference adds.
use Rattle.std.proofs.Common.{◌≡◌, ℕ, ◌+◌, ◌-◌, ◌*◌, ◌/◌, ◌%◌, ◌<◌, ap, sym, subst, ◌∙◌, arith, inl, inr}
use Rattle.std.proofs.lemmas.Nat.{div-mul-add}
use Rattle.std.proofs.lemmas.Bool.{cases_lt}
use Rattle.pixel_math.specs.Arithmetic.{mix_byte}
use Rattle.lane_blend.specs.Weights.{Mixes, weighed}

-- a whole number of divisors leaves the quotient
whole_apart : (a d x : ℕ) → 0 < d → (a * d + x) / d ≡ a + x / d
whole_apart a d x pos =
    let low : x % d < d = omega arith in
    let split : d * (x / d) + x % d ≡ x = omega arith in
    let same : a * d + x ≡ (a + x / d) * d + x % d = omega arith in
    ap (λ n. n / d) same ∙ div-mul-add (a + x / d) d (x % d) low

-- the common part of two weighed bytes, the second or the first of which is greater by e
common_up : (a e v w c s : ℕ) → v + w ≡ s → a * v + (a + e) * w + c ≡ a * s + (e * w + c)
common_up a e v w c s h = subst (λ (n : ℕ). a * v + (a + e) * w + c ≡ a * n + (e * w + c)) h (omega arith)

common_down : (b e v w c s : ℕ) → v + w ≡ s → (b + e) * v + b * w + c ≡ b * s + (e * v + c)
common_down b e v w c s h = subst (λ (n : ℕ). (b + e) * v + b * w + c ≡ b * n + (e * v + c)) h (omega arith)

-- what a difference adds by a weight is what it adds at the step, from the old byte upwards and downwards
abbrev pub Up : ℕ → ℕ → ℕ → ℕ → ℕ → Type 0
Up j d w c e = (e * w + c) / 65536 ≡ (e * j + d / 2) / d

abbrev pub Down : ℕ → ℕ → ℕ → ℕ → ℕ → Type 0
Down j d v c e = (e * v + c) / 65536 ≡ (e * (d - j) + d / 2) / d

up : (j d v w c a e : ℕ) → j < d → v + w ≡ 65536 → Up j d w c e → weighed v w c a (a + e) ≡ mix_byte a (a + e) j d
up j d v w c a e lt whole h =
    ap (λ n. n / 65536) (common_up a e v w c 65536 whole)
    ∙ whole_apart a 65536 (e * w + c) (omega arith)
    ∙ ap (λ n. a + n) h
    ∙ sym (whole_apart a d (e * j + d / 2) (omega arith))
    ∙ sym (ap (λ n. n / d) (common_up a e (d - j) j (d / 2) d (omega arith)))

down : (j d v w c b e : ℕ) → j < d → v + w ≡ 65536 → Down j d v c e → weighed v w c (b + e) b ≡ mix_byte (b + e) b j d
down j d v w c b e lt whole h =
    ap (λ n. n / 65536) (common_down b e v w c 65536 whole)
    ∙ whole_apart b 65536 (e * v + c) (omega arith)
    ∙ ap (λ n. b + n) h
    ∙ sym (whole_apart b d (e * (d - j) + d / 2) (omega arith))
    ∙ sym (ap (λ n. n / d) (common_down b e (d - j) j (d / 2) d (omega arith)))

-- weights whose differences add what those of the step add mix every two bytes as the step does
pub mixes : (j d v w c : ℕ) → j < d → v + w ≡ 65536 → ((e : ℕ) → e < 256 → Up j d w c e × Down j d v c e) → Mixes j d v w c
mixes j d v w c lt whole h a b la lb = elim (cases_lt a b) [
  | inl below ↦
      let e = b - a in
      let is : a + e ≡ b = omega arith in
      subst (λ (n : ℕ). weighed v w c a n ≡ mix_byte a n j d) is (up j d v w c a e lt whole ((h e (omega arith)).0))
  | inr above ↦
      let e = a - b in
      let is : b + e ≡ a = omega arith in
      subst (λ (n : ℕ). weighed v w c n b ≡ mix_byte n b j d) is (down j d v w c b e lt whole ((h e (omega arith)).1))
]
