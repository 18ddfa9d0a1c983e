-- The invariant of a list of places after a place is put into it.
use Rattle.std.proofs.Common.{◌≡◌, ℕ, ◌+◌, ◌≤◌, true, false, inl, inr, [], ◌∷◌, ◌++◌, length, set, insert, remove, take, drop, map, sym, ap, ◌∙◌, subst, arith, append-nil, length-set}
use Rattle.std.proofs.lemmas.Bool.{cases_order, cond_both}
use Rattle.std.proofs.lemmas.List.{length-map, take_all, drop_all}
use Rattle.std.proofs.lemmas.List.Edits.{length-insert, length-remove}
use Rattle.play_types.specs.declared.place.TheConstants.{MAX_LAYER, MAX_LIVE_LAYERS}
use Rattle.history_model.specs.stage.Life.{Life}
use Rattle.history_model.specs.stage.Live.{is_live}
use Rattle.history_model.specs.stage.Places.{ArePlaces, Places, in_front, one_tick_later, with_place}
use Rattle.history_model.proofs.places.Lists.{ArePlaces-with_place, with_place-at, with_place-before, with_place-behind}
use Rattle.history_model.proofs.places.Commands.{ArePlaces-tick}
use Rattle.stage_core.specs.inner.Found.{AreKept, AreLayers, IsAt, IsGapFor}
use Rattle.stage_core.proofs.Found.{with_place-set, with_place-remove, with_place-insert}

-- the layers stay layers that a channel has
AreLayers-in_front : (layer : ℕ) (life : Life) (more : Places) → layer ≤ MAX_LAYER → AreLayers more → AreLayers (in_front layer life more)
AreLayers-in_front layer life more low kept = cond_both (is_live life) ((layer, life) ∷ more) more AreLayers (λ live. (low, kept)) (λ dead. kept)

AreLayers-with_place : (places : Places) (layer : ℕ) (life : Life) → layer ≤ MAX_LAYER → AreLayers places → AreLayers (with_place places layer life)
AreLayers-with_place [] layer life low kept = AreLayers-in_front layer life [] low tt
AreLayers-with_place (place ∷ more) layer life low kept = elim (cases_order place.0 layer) [
  | inl e ↦ subst AreLayers (sym (with_place-at place more layer life e)) (AreLayers-in_front layer life more low kept.1)
  | inr apart ↦ elim apart [
    | inl high ↦ subst AreLayers (sym (with_place-behind place more layer life high)) (kept.0, AreLayers-with_place more layer life low kept.1)
    | inr lower ↦ subst AreLayers (sym (with_place-before place more layer life lower)) (AreLayers-in_front layer life (place ∷ more) low kept)
  ]
]

AreLayers-tick : (places : Places) → AreLayers places → AreLayers (map one_tick_later places)
AreLayers-tick [] kept = tt
AreLayers-tick (place ∷ more) kept = (kept.0, AreLayers-tick more kept.1)

module _ (places : Places) (layer index : ℕ) (life : Life) (low : layer ≤ MAX_LAYER) where
  pub kept-set : (len room : ℕ) → AreKept places len room → is_live life ≡ true → IsAt places layer index →
      AreKept (set places index (layer, life)) len room
  kept-set len room kept live is_at = record {
    rising =
        subst ArePlaces (with_place-set places kept.rising layer index life live is_at) (ArePlaces-with_place places layer life kept.rising);
    layers =
        subst AreLayers (with_place-set places kept.rising layer index life live is_at) (AreLayers-with_place places layer life low kept.layers);
    counted = length-set places index (layer, life) ∙ kept.counted;
    few = kept.few;
    roomy = kept.roomy;
  }

  pub kept-remove : (len room len' room' : ℕ) (now : Places) → AreKept places len room → is_live life ≡ false → IsAt places layer index →
      now ≡ remove places index → len' + 1 ≡ len → room' ≡ room → AreKept now len' room'
  kept-remove len room len' room' now kept dead is_at items count same = record {
    rising =
        subst ArePlaces (with_place-remove places kept.rising layer index life dead is_at ∙ sym items)
        (ArePlaces-with_place places layer life kept.rising);
    layers =
        subst AreLayers (with_place-remove places kept.rising layer index life dead is_at ∙ sym items)
        (AreLayers-with_place places layer life low kept.layers);
    counted =
        let less : length (remove places index) + 1 ≡ length places = length-remove places index is_at.in_range in
        let here : length now ≡ length (remove places index) = ap length items in
        omega (arith, less, here, count, kept.counted);
    few = omega (arith, kept.few, count);
    roomy = omega (arith, kept.roomy, same);
  }

  pub kept-insert : (len room len' room' : ℕ) (now : Places) → AreKept places len room → is_live life ≡ true → IsGapFor places layer index →
      now ≡ insert places index (layer, life) → len' ≡ len + 1 → len ≤ MAX_LIVE_LAYERS + 2 → room ≤ room' → AreKept now len' room'
  kept-insert len room len' room' now kept live gap items count free grows = record {
    rising =
        subst ArePlaces (with_place-insert places layer index life live gap ∙ sym items)
        (ArePlaces-with_place places layer life kept.rising);
    layers =
        subst AreLayers (with_place-insert places layer index life live gap ∙ sym items)
        (AreLayers-with_place places layer life low kept.layers);
    counted =
        let more : length (insert places index (layer, life)) ≡ length places + 1 = length-insert places index (layer, life) gap.in_range in
        let here : length now ≡ length (insert places index (layer, life)) = ap length items in
        omega (arith, more, here, count, kept.counted);
    few = omega (arith, free, count);
    roomy = omega (arith, kept.roomy, grows);
  }

-- one tick later
pub kept-tick : (places now : Places) (len room : ℕ) → AreKept places len room → now ≡ map one_tick_later places →
    AreKept (take len (now ++ drop (length now) places)) len room
kept-tick places now len room kept e =
    let count : length now ≡ length places = ap length e ∙ length-map places one_tick_later in
    let rest : drop (length now) places ≡ [] = ap (λ (n : ℕ). drop n places) count ∙ drop_all (length places) places (omega arith) in
    let whole : take len (now ++ drop (length now) places) ≡ now =
    ap (λ (more : Places). take len (now ++ more)) rest ∙ ap (take len) (append-nil now)
    ∙ take_all len now (omega (arith, count, kept.counted)) in
    record {
      rising = subst ArePlaces (sym (whole ∙ e)) (ArePlaces-tick places kept.rising);
      layers = subst AreLayers (sym (whole ∙ e)) (AreLayers-tick places kept.layers);
      counted = ap length whole ∙ count ∙ kept.counted;
      few = kept.few;
      roomy = kept.roomy;
    }
