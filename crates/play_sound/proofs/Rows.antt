-- Rows of samples by place, and the bytes of the sounds that give them.
use Rattle.std.proofs.Common.{◌≡◌, ℕ, ◌+◌, ◌*◌, ◌/◌, ◌%◌, ◌<◌, List, [], ◌∷◌, ◌++◌, length, drop, get_or, replicate, slice_index, sym, ap, ◌∙◌, subst, arith, to_z}
use Rattle.std.specs.Prelude.{ℤ, pos, ◌+ℤ◌}
use Rattle.std.specs.Int.{w16}
use Rattle.std.proofs.lemmas.List.{get_or-drop, get_or-replicate, length-replicate}
use Rattle.play_types.specs.Setting.{number_at}
use Rattle.play_types.specs.declared.drawn.Drawn.{Drawn}
use Rattle.history_model.specs.pictures.Media.{sample_of_bytes}
use Rattle.history_model.specs.pictures.Sound.{layer_sample, sample_sum, still_sample}
use Rattle.play_sound.specs.Sounds.{Sounds}
use Rattle.play_sound.specs.inner.Ranges.{IsNear}
use Rattle.play_sound.specs.inner.Rows.{AreAdded, AreSums, still_at}
use Rattle.play_sound.proofs.Layers.{near_total, sum_more}

-- a sample of the bytes from a place on
pub sample_from : (sound : List ℕ) (start at p : ℕ) → p ≡ start + at → sample_of_bytes (drop start sound) at ≡ sample_of_bytes sound p
sample_from sound start at p is =
    let low : get_or (drop start sound) at 0 ≡ get_or sound p 0 = get_or-drop start sound at 0 ∙ ap (slice_index sound) (sym is) in
    let high : get_or (drop start sound) (at + 1) 0 ≡ get_or sound (p + 1) 0 =
    get_or-drop start sound (at + 1) 0 ∙ ap (slice_index sound) (omega (arith, is)) in
    (λ i. to_z w16 (low i + 256 * high i))

-- sums of samples that are added are equal if the samples are
pub same_added : (f g : ℕ → ℤ) (before after : List ℤ) → ((i : ℕ) → f i ≡ g i) → AreAdded f before after → AreAdded g before after
same_added f g before after same h = record {
  len = h.len;
  sums = λ i lt. h.sums i lt ∙ ap (λ (m : ℤ). number_at before i +ℤ m) (same i);
  near = λ i lt. near_same i (h.near i lt);
}
  where
    near_same : (i : ℕ) → IsNear 32768000 (f i) → IsNear 32768000 (g i)
    near_same i near = subst (IsNear 32768000) (same i) near

-- the sums of the samples of layers, of which there are n
pub record AreLayerSums (sounds : Sounds) (first : ℕ) (layers : List Drawn) (n : ℕ) (list : List ℤ) : Type 0 where
  pub len : length list ≡ 128
  pub sums : (i : ℕ) → i < 128 → number_at list i ≡ sample_sum (still_at sounds first i) layers
  pub near : AreSums n list

-- one layer more
pub layer_more : (sounds : Sounds) (first : ℕ) (layers : List Drawn) (layer : Drawn) (n : ℕ) (old new : List ℤ) →
    AreLayerSums sounds first layers n old → AreAdded (λ i. layer_sample (still_at sounds first i) layer) old new →
    AreLayerSums sounds first (layers ++ layer ∷ []) (n + 1) new
layer_more sounds first layers layer n old new h added =
    let len = h.len in
    let same = added.len in
    record {
      len = same ∙ len;
      sums = λ i lt.
          added.sums i (omega (arith, len, lt))
          ∙ ap (λ (s : ℤ). s +ℤ layer_sample (still_at sounds first i) layer) (h.sums i lt)
          ∙ sym (sum_more (still_at sounds first i) layers layer);
      near = λ i lt.
          (let inside : i < length old = omega (arith, same, lt) in
          subst (IsNear (32768000 * (n + 1))) (sym (added.sums i inside))
          (near_total (number_at old i) (layer_sample (still_at sounds first i) layer) n (h.near i inside) (added.near i inside)));
    }

-- no layers
pub no_layers : (sounds : Sounds) (first : ℕ) → AreLayerSums sounds first [] 0 (replicate 128 (pos 0))
no_layers sounds first = record {
  len = length-replicate 128 (pos 0);
  sums = λ i lt. get_or-replicate 128 i (pos 0) (pos 0) lt;
  near = λ i lt.
      (let inside : i < 128 = omega (arith, lt, length-replicate 128 (pos 0)) in
      subst (IsNear (32768000 * 0)) (sym (get_or-replicate 128 i (pos 0) (pos 0) inside)) (omega arith));
}

-- the sum at a place by the pair and the side
pub sum_by_side : (sounds : Sounds) (first pair side : ℕ) (layers : List Drawn) (n : ℕ) (list : List ℤ) → AreLayerSums sounds first layers n list →
    2 * pair + side < 128 → side < 2 →
    number_at list (2 * pair + side) ≡ sample_sum (still_sample sounds.setup sounds.samples (first + pair) side) layers
sum_by_side sounds first pair side layers n list h inside small =
    let pairs : first + (2 * pair + side) / 2 ≡ first + pair = omega (arith, small) in
    let sides : (2 * pair + side) % 2 ≡ side = omega (arith, small) in
    h.sums (2 * pair + side) inside
    ∙ (λ i. sample_sum (still_sample sounds.setup sounds.samples (pairs i) (sides i)) layers)
