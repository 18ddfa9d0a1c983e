-- Channels of which none has too many live places, and what is put at a place and taken back.
use Rattle.std.proofs.Common.{◌≡◌, ℕ, ◌+◌, ◌-◌, ◌<◌, ◌≤◌, eqb, false, inl, inr, [], ◌∷◌, length, get_or, set, refl, sym, ap, ◌∙◌, subst, arith, eq-eqb, ne_eqb, length-set, if◌then◌else◌}
use Rattle.std.proofs.lemmas.Bool.{cases_Bool, cases_eq, cases_order, cond-true, cond-false, cond_both, false≢true, ltb-false}
use Rattle.std.proofs.lemmas.List.{get_or-set_same, get_or-set_other, set-set, set-get_or}
use Rattle.std.proofs.lemmas.List.Edits.{swap_is}
use Rattle.std.proofs.lemmas.List.Elements.{All-from_get_or}
use Rattle.std.proofs.lemmas.List.Folds.{list_any_none, list_any_at}
use Rattle.std.specs.List.{swap}
use Rattle.play_types.specs.Place.{PlaceView}
use Rattle.play_types.specs.Scene.{IsConfigured}
use Rattle.play_types.specs.declared.place.TheConstants.{MAX_LIVE_LAYERS}
use Rattle.history_model.specs.stage.Life.{Life}
use Rattle.history_model.specs.stage.Live.{is_live}
use Rattle.history_model.specs.stage.Places.{ArePlaces, Places, in_front, is_over_limit, standing, with_place}
use Rattle.history_model.proofs.places.Lists.{ArePlaces-with_place, same_places, standing-with_place, with_place-at, with_place-before, with_place-behind}
use Rattle.stage_core.specs.LiveState.{Channels, is_some_over, life_at, places_of, with_exchanged, with_life}
use Rattle.stage_core.proofs.LiveStates.{length-with_life, places_of-with_life}

-- if no channel has too many live places, a given one has not
pub one_within : (channels : Channels) → is_some_over channels ≡ false → (i : ℕ) → i < length channels → is_over_limit (get_or channels i []) ≡ false
one_within channels none i within = elim (cases_Bool (is_over_limit (get_or channels i []))) [
  | inl e ↦ absurd (false≢true (sym none ∙ list_any_at is_over_limit channels i [] within e))
  | inr e ↦ e
]

pub few_at : (channels : Channels) (k : ℕ) → is_some_over channels ≡ false → IsConfigured (length channels) k → length (places_of k channels) ≤ MAX_LIVE_LAYERS
few_at channels k none c =
    ltb-false MAX_LIVE_LAYERS (length (places_of k channels)) (one_within channels none (k - 1) (omega (arith, c.0, c.1)))

-- and none has after one is replaced by one that has not
pub over-set : (channels : Channels) (at : ℕ) (places : Places) → is_some_over channels ≡ false → is_over_limit places ≡ false →
    is_some_over (set channels at places) ≡ false
over-set channels at places none few =
    let count : length (set channels at places) ≡ length channels = length-set channels at places in
    list_any_none is_over_limit (set channels at places) (All-from_get_or (λ (ps : Places). is_over_limit ps ≡ false) (set channels at places) [] (λ i within.
    let low : i < length channels = omega (arith, within, count) in
    elim (cases_eq i at) [
      | inl e ↦
          ap (λ (j : ℕ). is_over_limit (get_or (set channels at places) j [])) e
          ∙ ap is_over_limit (get_or-set_same channels at places [] (omega (arith, low, e))) ∙ few
      | inr apart ↦ ap is_over_limit (get_or-set_other channels at i places [] apart) ∙ one_within channels none i low
    ]))

pub over-swap : (channels : Channels) (i j : ℕ) → i < length channels → j < length channels → is_some_over channels ≡ false → is_some_over (swap channels i j) ≡ false
over-swap channels i j first second none =
    ap is_some_over (sym (swap_is channels i j [] first second))
    ∙ over-set (set channels i (get_or channels j [])) j (get_or channels i [])
    (over-set channels i (get_or channels j []) none (one_within channels none j second)) (one_within channels none i first)

-- a list of places is at most one longer once something is put at a layer
longer : (n : ℕ) (layer : ℕ) (life : Life) (more : Places) → length more ≤ n → length (in_front layer life more) ≤ n + 1
longer n layer life more few =
    cond_both (is_live life) ((layer, life) ∷ more) more (λ (ps : Places). length ps ≤ n + 1) (λ live. omega (arith, few)) (λ dead. omega (arith, few))

pub length-one_more : (places : Places) (layer : ℕ) (life : Life) → length (with_place places layer life) ≤ length places + 1
length-one_more [] layer life = longer 0 layer life [] (omega arith)
length-one_more (place ∷ more) layer life = elim (cases_order place.0 layer) [
  | inl e ↦ subst (λ (ps : Places). length ps ≤ length (place ∷ more) + 1) (sym (with_place-at place more layer life e)) (longer (length (place ∷ more)) layer life more (omega arith))
  | inr apart ↦ elim apart [
    | inl high ↦
        subst (λ (ps : Places). length ps ≤ length (place ∷ more) + 1) (sym (with_place-behind place more layer life high))
        (let rest = length-one_more more layer life in omega (arith, rest))
    | inr low ↦
        subst (λ (ps : Places). length ps ≤ length (place ∷ more) + 1) (sym (with_place-before place more layer life low))
        (longer (length (place ∷ more)) layer life (place ∷ more) (omega arith))
  ]
]

-- what stood at a layer is put back
back_at : (places : Places) (layer : ℕ) (life : Life) → ArePlaces places → with_place (with_place places layer life) layer (standing places layer) ≡ places
back_at places layer life p =
    let now : ArePlaces (with_place places layer life) = ArePlaces-with_place places layer life p in
    same_places (with_place (with_place places layer life) layer (standing places layer)) places
    (ArePlaces-with_place (with_place places layer life) layer (standing places layer) now) p
    (λ n. standing-with_place (with_place places layer life) layer n (standing places layer) now ∙ elim (cases_eq layer n) [
      | inl e ↦ cond-true (eqb layer n) (standing places layer) (standing (with_place places layer life) n) (eq-eqb layer n e) ∙ ap (standing places) e
      | inr apart ↦
          cond-false (eqb layer n) (standing places layer) (standing (with_place places layer life) n) (ne_eqb layer n apart)
          ∙ standing-with_place places layer n life p
          ∙ cond-false (eqb layer n) life (standing places n) (ne_eqb layer n apart)
    ])

pub put_back_at : (channels : Channels) (at : PlaceView) (life : Life) → IsConfigured (length channels) at.channel → ArePlaces (places_of at.channel channels) →
    with_life at (life_at at channels) (with_life at life channels) ≡ channels
put_back_at channels at life c p =
    let places : Places = places_of at.channel channels in
    let index : ℕ = at.channel - 1 in
    let here : places_of at.channel (with_life at life channels) ≡ with_place places at.layer life =
    get_or-set_same channels index (with_place places at.layer life) [] (omega (arith, c.0, c.1)) in
    ap (λ (ps : Places). set (with_life at life channels) index (with_place ps at.layer (life_at at channels))) here
    ∙ set-set channels index (with_place places at.layer life) (with_place (with_place places at.layer life) at.layer (standing places at.layer))
    ∙ ap (set channels index) (back_at places at.layer life p)
    ∙ set-get_or channels index []

-- the layer at a place after a layer is put at another place
module _ (channels : Channels) (a b : PlaceView) (first : IsConfigured (length channels) a.channel) (second : IsConfigured (length channels) b.channel)
    (p : ArePlaces (places_of a.channel channels)) where
  pub places_of-middle : places_of b.channel (with_life a (life_at b channels) channels)
      ≡ (if eqb a.channel b.channel then with_place (places_of b.channel channels) a.layer (life_at b channels) else places_of b.channel channels)
  places_of-middle = places_of-with_life channels a (life_at b channels) b.channel first second

  pub life_at-middle : ArePlaces (places_of b.channel channels) → life_at b (with_life a (life_at b channels) channels) ≡ life_at b channels
  life_at-middle q =
      ap (λ (ps : Places). standing ps b.layer) places_of-middle
      ∙ cond_both (eqb a.channel b.channel) (with_place (places_of b.channel channels) a.layer (life_at b channels)) (places_of b.channel channels)
      (λ (ps : Places). standing ps b.layer ≡ life_at b channels)
      (λ same. standing-with_place (places_of b.channel channels) a.layer b.layer (life_at b channels) q
      ∙ cond_both (eqb a.layer b.layer) (life_at b channels) (life_at b channels) (λ (s : Life). s ≡ life_at b channels) (λ e. refl) (λ e. refl))
      (λ other. refl)

  pub ArePlaces-middle : ArePlaces (places_of b.channel channels) → ArePlaces (places_of b.channel (with_life a (life_at b channels) channels))
  ArePlaces-middle q =
      subst ArePlaces (sym places_of-middle)
      (cond_both (eqb a.channel b.channel) (with_place (places_of b.channel channels) a.layer (life_at b channels)) (places_of b.channel channels) ArePlaces
      (λ same. ArePlaces-with_place (places_of b.channel channels) a.layer (life_at b channels) q) (λ other. q))

  pub length-middle : length (places_of b.channel (with_life a (life_at b channels) channels)) ≤ length (places_of b.channel channels) + 1
  length-middle =
      subst (λ (ps : Places). length ps ≤ length (places_of b.channel channels) + 1) (sym places_of-middle)
      (cond_both (eqb a.channel b.channel) (with_place (places_of b.channel channels) a.layer (life_at b channels)) (places_of b.channel channels)
      (λ (ps : Places). length ps ≤ length (places_of b.channel channels) + 1)
      (λ same. length-one_more (places_of b.channel channels) a.layer (life_at b channels)) (λ other. omega arith))

  pub configured-middle : IsConfigured (length (with_life a (life_at b channels) channels)) b.channel
  configured-middle =
      let count : length (with_life a (life_at b channels) channels) ≡ length channels = length-with_life channels a (life_at b channels) in
      (second.0, omega (arith, second.1, count))

  -- an exchange is undone, one place after the other
  half_undone : ArePlaces (places_of b.channel channels) →
      with_life b (life_at b channels) (with_exchanged a b channels) ≡ with_life a (life_at b channels) channels
  half_undone q =
      ap (λ (s : Life). with_life b s (with_life b (life_at a channels) (with_life a (life_at b channels) channels))) (sym (life_at-middle q))
      ∙ put_back_at (with_life a (life_at b channels) channels) b (life_at a channels) configured-middle (ArePlaces-middle q)

  pub undone : ArePlaces (places_of b.channel channels) →
      with_life a (life_at a channels) (with_life b (life_at b channels) (with_exchanged a b channels)) ≡ channels
  undone q = ap (with_life a (life_at a channels)) (half_undone q) ∙ put_back_at channels a (life_at b channels) first p

  pub room_between : is_some_over channels ≡ false → length (places_of b.channel (with_life a (life_at b channels) channels)) ≤ MAX_LIVE_LAYERS + 1
  room_between none =
      let few : length (places_of b.channel channels) ≤ MAX_LIVE_LAYERS = few_at channels b.channel none second in
      let more = length-middle in omega (arith, few, more)

  pub room_at_end : is_some_over channels ≡ false → length (places_of b.channel (with_exchanged a b channels)) ≤ MAX_LIVE_LAYERS + 2
  room_at_end none =
      let between : Channels = with_life a (life_at b channels) channels in
      let places : Places = places_of b.channel between in
      let here : length (places_of b.channel (with_exchanged a b channels)) ≡ length (with_place places b.layer (life_at a channels)) =
      ap length (get_or-set_same between (b.channel - 1) (with_place places b.layer (life_at a channels)) [] (omega (arith, configured-middle.0, configured-middle.1))) in
      let one : length (with_place places b.layer (life_at a channels)) ≤ length places + 1 = length-one_more places b.layer (life_at a channels) in
      let few : length places ≤ MAX_LIVE_LAYERS + 1 = room_between none in
      omega (arith, here, one, few)

-- a channel in which something was put has room for more
pub room_after : (channels : Channels) (at : PlaceView) (life : Life) → IsConfigured (length channels) at.channel → is_some_over channels ≡ false →
    length (places_of at.channel (with_life at life channels)) ≤ MAX_LIVE_LAYERS + 2
room_after channels at life c none =
    let places : Places = places_of at.channel channels in
    let here : length (places_of at.channel (with_life at life channels)) ≡ length (with_place places at.layer life) =
    ap length (get_or-set_same channels (at.channel - 1) (with_place places at.layer life) [] (omega (arith, c.0, c.1))) in
    let one : length (with_place places at.layer life) ≤ length places + 1 = length-one_more places at.layer life in
    let few : length places ≤ MAX_LIVE_LAYERS = few_at channels at.channel none c in
    omega (arith, here, one, few)

-- so has one if half of an exchange is undone
pub room_half_undone : (channels : Channels) (a b : PlaceView) → IsConfigured (length channels) a.channel → IsConfigured (length channels) b.channel →
    ArePlaces (places_of a.channel channels) → ArePlaces (places_of b.channel channels) → is_some_over channels ≡ false →
    length (places_of a.channel (with_life b (life_at b channels) (with_exchanged a b channels))) ≤ MAX_LIVE_LAYERS + 2
room_half_undone channels a b first second p q none =
    subst (λ (after : Channels). length (places_of a.channel after) ≤ MAX_LIVE_LAYERS + 2) (sym (half_undone channels a b first second p q))
    (room_after channels a (life_at b channels) first none)
