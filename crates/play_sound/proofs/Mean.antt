-- The mean of two samples, as the code computes it.
use Rattle.std.proofs.Common.{◌≡◌, ℕ, ◌-◌, ◌*◌, ◌<◌, ◌^◌, sym, subst, ap, ap₂, ◌∙◌, arith, to_z, of_z}
use Rattle.std.specs.Prelude.{ℤ, pos, ◌+ℤ◌, ◌*ℤ◌, int_div, FitsSigned}
use Rattle.std.specs.Int.{w64}
use Rattle.std.proofs.lemmas.Int.{to_z-of_z}
use Rattle.history_model.specs.pictures.Sound.{mixed_sample}
use Rattle.play_sound.specs.inner.Ranges.{IsNear}
use Rattle.play_sound.proofs.Near.{near_fits, near_product, near_quotient, near_sum}

-- a number as the code keeps it, and a product of two of them
abbrev pub kept : ℤ → ℤ
kept z = to_z w64 (of_z w64 z)

abbrev pub kept_product : ℤ → ℤ → ℤ
kept_product a b = kept (kept a *ℤ kept b)

pub product_is : (a b : ℤ) → FitsSigned w64 a → FitsSigned w64 b → FitsSigned w64 (a *ℤ b) → kept_product a b ≡ a *ℤ b
product_is a b f g h =
    (λ i. kept (to_z-of_z w64 a f i *ℤ to_z-of_z w64 b g i)) ∙ to_z-of_z w64 (a *ℤ b) h

-- the sum of two samples, each as often as it counts
abbrev weighed : ℤ → ℤ → ℕ → ℕ → ℤ
weighed old new j d = (old *ℤ pos (d - j)) +ℤ (new *ℤ pos j)

near_weighed : (old new : ℤ) (j d : ℕ) → IsNear 32768 old → IsNear 32768 new → j < d → IsNear (32768 * d) (weighed old new j d)
near_weighed old new j d near_old near_new below =
    let sum = near_sum (old *ℤ pos (d - j)) (new *ℤ pos j) (32768 * (d - j)) (32768 * j)
    (near_product old 32768 (d - j) near_old) (near_product new 32768 j near_new) in
    omega (arith, sum, below)

sum_is : (old new x y : ℤ) (j d : ℕ) → IsNear 32768 old → IsNear 32768 new → j < d → d < 2 ^ 32 → x ≡ pos (d - j) → y ≡ pos j →
    kept_product old x +ℤ kept_product new y ≡ weighed old new j d
sum_is old new x y j d near_old near_new below small x_is y_is =
    let old_fits = near_fits old 32768 (omega arith) near_old in
    let new_fits = near_fits new 32768 (omega arith) near_new in
    let first = product_is old (pos (d - j)) old_fits (near_fits (pos (d - j)) (2 ^ 32) (omega arith) (omega arith))
    (near_fits (old *ℤ pos (d - j)) (32768 * (d - j)) (omega arith) (near_product old 32768 (d - j) near_old)) in
    let second = product_is new (pos j) new_fits (near_fits (pos j) (2 ^ 32) (omega arith) (omega arith))
    (near_fits (new *ℤ pos j) (32768 * j) (omega arith) (near_product new 32768 j near_new)) in
    (λ i. kept_product old (x_is i) +ℤ kept_product new (y_is i)) ∙ ap₂ (λ (a b : ℤ). a +ℤ b) first second

weighed_fits : (old new : ℤ) (j d : ℕ) → IsNear 32768 old → IsNear 32768 new → j < d → d < 2 ^ 32 → FitsSigned w64 (weighed old new j d)
weighed_fits old new j d near_old near_new below small =
    near_fits (weighed old new j d) (32768 * d) (omega arith) (near_weighed old new j d near_old near_new below)

pub sum_fits : (old new x y : ℤ) (j d : ℕ) → IsNear 32768 old → IsNear 32768 new → j < d → d < 2 ^ 32 → x ≡ pos (d - j) → y ≡ pos j →
    FitsSigned w64 (kept_product old x +ℤ kept_product new y)
sum_fits old new x y j d near_old near_new below small x_is y_is =
    subst (FitsSigned w64) (sym (sum_is old new x y j d near_old near_new below small x_is y_is))
    (weighed_fits old new j d near_old near_new below small)

-- the mean is near, as its samples are
pub mean_near : (old new : ℤ) (j d : ℕ) → IsNear 32768 old → IsNear 32768 new → j < d → IsNear 32768 (mixed_sample old new j d)
mean_near old new j d near_old near_new below =
    near_quotient (weighed old new j d) 32768 d (omega (arith, below)) (near_weighed old new j d near_old near_new below)

mean_fits : (old new : ℤ) (j d : ℕ) → IsNear 32768 old → IsNear 32768 new → j < d → FitsSigned w64 (mixed_sample old new j d)
mean_fits old new j d near_old near_new below =
    near_fits (mixed_sample old new j d) 32768 (omega arith) (mean_near old new j d near_old near_new below)

-- the quotient of the code
pub quotient_is : (old new x y z : ℤ) (j d : ℕ) → IsNear 32768 old → IsNear 32768 new → j < d → d < 2 ^ 32 →
    x ≡ pos (d - j) → y ≡ pos j → z ≡ pos d →
    int_div (kept (kept_product old x +ℤ kept_product new y)) (kept z) ≡ mixed_sample old new j d
quotient_is old new x y z j d near_old near_new below small x_is y_is z_is =
    let sum = sum_is old new x y j d near_old near_new below small x_is y_is in
    let d_fits = near_fits (pos d) (2 ^ 32) (omega arith) (omega arith) in
    (λ i. int_div (kept (sum i)) (kept (z_is i)))
    ∙ ap₂ int_div (to_z-of_z w64 (weighed old new j d) (weighed_fits old new j d near_old near_new below small)) (to_z-of_z w64 (pos d) d_fits)

pub quotient_fits : (old new x y z : ℤ) (j d : ℕ) → IsNear 32768 old → IsNear 32768 new → j < d → d < 2 ^ 32 →
    x ≡ pos (d - j) → y ≡ pos j → z ≡ pos d →
    FitsSigned w64 (int_div (kept (kept_product old x +ℤ kept_product new y)) (kept z))
quotient_fits old new x y z j d near_old near_new below small x_is y_is z_is =
    subst (FitsSigned w64) (sym (quotient_is old new x y z j d near_old near_new below small x_is y_is z_is))
    (mean_fits old new j d near_old near_new below)

pub mean_is : (old new x y z : ℤ) (j d : ℕ) → IsNear 32768 old → IsNear 32768 new → j < d → d < 2 ^ 32 →
    x ≡ pos (d - j) → y ≡ pos j → z ≡ pos d →
    kept (int_div (kept (kept_product old x +ℤ kept_product new y)) (kept z)) ≡ mixed_sample old new j d
mean_is old new x y z j d near_old near_new below small x_is y_is z_is =
    ap kept (quotient_is old new x y z j d near_old near_new below small x_is y_is z_is)
    ∙ to_z-of_z w64 (mixed_sample old new j d) (mean_fits old new j d near_old near_new below)
