-- The samples of layers: their volumes, and their sums.
use Rattle.std.proofs.Common.{◌≡◌, ℕ, ◌+◌, ◌*◌, ◌<◌, ◌≤◌, Bool, true, false, List, [], ◌∷◌, ◌++◌, sym, subst, ap, ◌∙◌, arith}
use Rattle.std.specs.Prelude.{ℤ, pos, negsuc, ◌+ℤ◌, ◌*ℤ◌, ◌≤ℤ◌, int_div, FitsSigned}
use Rattle.std.specs.Int.{w64}
use Rattle.std.proofs.lemmas.Bool.{le-ltb, lt-ltb}
use Rattle.std.proofs.lemmas.Int.{ints, to_z-of_z}
use Rattle.play_types.specs.declared.drawn.Drawn.{Drawn}
use Rattle.play_types.specs.declared.drawn.Still.{Still}
use Rattle.history_model.specs.pictures.Sound.{layer_sample, mixed_sample, sample_sum}
use Rattle.play_sound.specs.inner.Ranges.{IsNear}
use Rattle.play_sound.specs.inner.Rows.{at_volume}
use Rattle.play_sound.proofs.Near.{near_fits, near_product, near_quotient, near_sum}
use Rattle.play_sound.proofs.Mean.{kept, kept_product, product_is}

-- a volume is a number from 0 to 1,000,000,000
near_volume : (v : ℤ) → pos 0 ≤ℤ v → v ≤ℤ pos 1000000000 → IsNear 1000000000 v
near_volume (pos n) h k = omega (arith, ints)
near_volume (negsuc n) h k = absurd (omega (arith, ints))

-- a sample by a volume
near_played : (t v : ℤ) → IsNear 32768 t → pos 0 ≤ℤ v → v ≤ℤ pos 1000000000 → IsNear (32768000 * 1000000) (t *ℤ v)
near_played t (pos n) near h k =
    let few = near_volume (pos n) h k in
    let product = near_product t 32768 n near in
    omega (arith, few, product)
near_played t (negsuc n) near h k = absurd (omega (arith, ints))

played_fits : (t v : ℤ) → IsNear 32768 t → pos 0 ≤ℤ v → v ≤ℤ pos 1000000000 → FitsSigned w64 (t *ℤ v)
played_fits t v near h k = near_fits (t *ℤ v) (32768000 * 1000000) (omega arith) (near_played t v near h k)

t_fits : (t : ℤ) → IsNear 32768 t → FitsSigned w64 t
t_fits t near = near_fits t 32768 (omega arith) near

v_fits : (v : ℤ) → pos 0 ≤ℤ v → v ≤ℤ pos 1000000000 → FitsSigned w64 v
v_fits v h k = near_fits v 1000000000 (omega arith) (near_volume v h k)

pub volume_is : (v : ℤ) → pos 0 ≤ℤ v → v ≤ℤ pos 1000000000 → kept v ≡ v
volume_is v h k = to_z-of_z w64 v (v_fits v h k)

pub product_fits : (t v : ℤ) → IsNear 32768 t → pos 0 ≤ℤ v → v ≤ℤ pos 1000000000 → FitsSigned w64 (kept t *ℤ kept v)
product_fits t v near h k =
    subst (FitsSigned w64)
    (sym (λ i. to_z-of_z w64 t (t_fits t near) i *ℤ to_z-of_z w64 v (v_fits v h k) i))
    (played_fits t v near h k)

pub played_near : (t v : ℤ) → IsNear 32768 t → pos 0 ≤ℤ v → v ≤ℤ pos 1000000000 → IsNear 32768000 (int_div (t *ℤ v) (pos 1000000))
played_near t v near h k = near_quotient (t *ℤ v) 32768000 1000000 (omega arith) (near_played t v near h k)

pub played_is : (t v : ℤ) → IsNear 32768 t → pos 0 ≤ℤ v → v ≤ℤ pos 1000000000 →
    kept (int_div (kept_product t v) (pos 1000000)) ≡ int_div (t *ℤ v) (pos 1000000)
played_is t v near h k =
    ap (λ (a : ℤ). kept (int_div a (pos 1000000))) (product_is t v (t_fits t near) (v_fits v h k) (played_fits t v near h k))
    ∙ to_z-of_z w64 (int_div (t *ℤ v) (pos 1000000)) (near_fits (int_div (t *ℤ v) (pos 1000000)) 32768000 (omega arith) (played_near t v near h k))

-- one layer more
from_left : (a : ℤ) → a +ℤ pos 0 ≡ pos 0 +ℤ a
from_left a = omega (arith, ints)

regrouped : (a b c : ℤ) → a +ℤ (b +ℤ c) ≡ (a +ℤ b) +ℤ c
regrouped a b c = omega (arith, ints)

pub sum_more : (f : Still → ℤ) (layers : List Drawn) (layer : Drawn) →
    sample_sum f (layers ++ layer ∷ []) ≡ sample_sum f layers +ℤ layer_sample f layer
sum_more f [] layer = from_left (layer_sample f layer)
sum_more f (first ∷ layers) layer =
    ap (λ (rest : ℤ). layer_sample f first +ℤ rest) (sum_more f layers layer)
    ∙ regrouped (layer_sample f first) (sample_sum f layers) (layer_sample f layer)

-- sums of samples that are near
pub near_total : (s t : ℤ) (n : ℕ) → IsNear (32768000 * n) s → IsNear 32768000 t → IsNear (32768000 * (n + 1)) (s +ℤ t)
near_total s t n near here =
    let sum = near_sum s t (32768000 * n) 32768000 near here in
    omega (arith, sum)

-- a layer's sample while its transition runs, and once it is over
abbrev before_volume : (f : Still → ℤ) (layer : Drawn) → Bool → ℤ
before_volume f layer runs = elim runs [
  | true ↦ mixed_sample (f layer.old) (f layer.still) layer.step layer.trans.duration
  | false ↦ f layer.still
]

pub sample_over : (f : Still → ℤ) (layer : Drawn) → layer.trans.duration ≤ layer.step → layer_sample f layer ≡ at_volume (f layer.still) layer.volume
sample_over f layer over =
    ap (λ (b : Bool). at_volume (before_volume f layer b) layer.volume) (le-ltb layer.step layer.trans.duration over)

pub sample_running : (f : Still → ℤ) (layer : Drawn) → layer.step < layer.trans.duration →
    layer_sample f layer ≡ at_volume (mixed_sample (f layer.old) (f layer.still) layer.step layer.trans.duration) layer.volume
sample_running f layer runs =
    ap (λ (b : Bool). at_volume (before_volume f layer b) layer.volume) (lt-ltb layer.step layer.trans.duration runs)
