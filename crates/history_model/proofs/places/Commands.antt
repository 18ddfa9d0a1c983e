-- What a command on a place and a tick make of the live places.
use Rattle.std.proofs.Common.{◌≡◌, ℕ, ◌+◌, ◌-◌, ◌≤◌, ◌==◌, eqb, Bool, true, false, ◌&&◌, ◌⊎◌, inl, inr, List, [], ◌∷◌, map, refl, sym, ap, ◌∙◌, arith, eq-eqb, ne_eqb, if◌then◌else◌}
use Rattle.std.proofs.lemmas.Bool.{cases_eq, cond-true, cond-false}
use Rattle.play_types.specs.Place.{PlaceView}
use Rattle.play_types.specs.declared.command.Cmd.{Cmd}
use Rattle.history_model.specs.stage.Act.{Act, act_after}
use Rattle.history_model.specs.stage.Trail.{content_origin, acts_on_content, trail}
use Rattle.history_model.specs.stage.Life.{Life, after, effect, empty_place, life}
use Rattle.history_model.specs.stage.Live.{state}
use Rattle.history_model.specs.stage.Places.{Places, AreAbove, ArePlaces, AreBy, changed_at, live_places, one_tick_later, standing, with_place}
use Rattle.history_model.proofs.Lives.{after-add, after-zero}
use Rattle.history_model.proofs.Liveness.{is_live-after}
use Rattle.history_model.proofs.places.Lists.{ArePlaces-with_place, same_places, standing-with_place}
use Rattle.history_model.proofs.places.Layers.{ArePlaces-live, standing-live}

-- a place after one act more, when no tick has passed since
life-chosen : (on : Bool) (cmd : Cmd) (earlier : List Act) (t : ℕ) →
    life (if on then act_after t cmd ∷ earlier else earlier) t ≡ (if on then effect cmd (life earlier t) else life earlier t)
life-chosen true cmd earlier t =
    let none : t - t ≡ 0 = omega arith in ap (after (effect cmd (life earlier t))) none ∙ after-zero (effect cmd (life earlier t))
life-chosen false cmd earlier t = refl

pub state-act : (acts : List Act) (t : ℕ) (cmd : Cmd) (place : PlaceView) → content_origin cmd place ≡ place →
    state (act_after t cmd ∷ acts) t place
    ≡ (if acts_on_content cmd place then effect cmd (state acts t place) else state acts t place)
state-act acts t cmd place still =
    ap (λ (p : PlaceView). life (if acts_on_content cmd place then act_after t cmd ∷ trail acts p else trail acts p) t) still
    ∙ life-chosen (acts_on_content cmd place) cmd (trail acts place) t

-- the acts on a place came by a time by which all acts came
by_chosen : (on : Bool) (t : ℕ) (act : Act) (earlier : List Act) → act.ticks ≤ t → AreBy t earlier →
    AreBy t (if on then act ∷ earlier else earlier)
by_chosen true t act earlier low rest = (low, rest)
by_chosen false t act earlier low rest = rest

AreBy-trail : (acts : List Act) (t : ℕ) (place : PlaceView) → AreBy t acts → AreBy t (trail acts place)
AreBy-trail [] t place by = tt
AreBy-trail (act ∷ before) t place by =
    by_chosen (acts_on_content act.cmd place) t act (trail before (content_origin act.cmd place)) by.0
    (AreBy-trail before t (content_origin act.cmd place) by.1)

-- `n` ticks later a place is its former state after `n` ticks
life-later : (acts : List Act) (t n : ℕ) → AreBy t acts → life acts (t + n) ≡ after (life acts t) n
life-later [] t n by = refl
life-later (act ∷ before) t n by =
    let moved : t + n - act.ticks ≡ (t - act.ticks) + n = omega (arith, by.0) in
    let s : Life = effect act.cmd (life before act.ticks) in
    ap (after s) moved ∙ sym (after-add s (t - act.ticks) n)

pub state-later : (acts : List Act) (t n : ℕ) (place : PlaceView) → AreBy t acts → state acts (t + n) place ≡ after (state acts t place) n
state-later acts t n place by = life-later (trail acts place) t n (AreBy-trail acts t place by)

-- places one tick later are places at the layers that they had
AreAbove-tick : (places : Places) (layer : ℕ) → AreAbove layer places → AreAbove layer (map one_tick_later places)
AreAbove-tick [] layer above = tt
AreAbove-tick (place ∷ more) layer above = (above.0, AreAbove-tick more layer above.1)

pub ArePlaces-tick : (places : Places) → ArePlaces places → ArePlaces (map one_tick_later places)
ArePlaces-tick [] p = tt
ArePlaces-tick (place ∷ more) p = (is_live-after place.1 1 ∙ p.0, AreAbove-tick more place.0 p.1, ArePlaces-tick more p.2)

standing-tick : (places : Places) (n : ℕ) → standing (map one_tick_later places) n ≡ after (standing places n) 1
standing-tick [] n = refl
standing-tick (place ∷ more) n = elim (cases_eq place.0 n) [
  | inl e ↦
      cond-true (eqb place.0 n) (after place.1 1) (standing (map one_tick_later more) n) (eq-eqb place.0 n e)
      ∙ ap (λ (s : Life). after s 1) (sym (cond-true (eqb place.0 n) place.1 (standing more n) (eq-eqb place.0 n e)))
  | inr apart ↦
      cond-false (eqb place.0 n) (after place.1 1) (standing (map one_tick_later more) n) (ne_eqb place.0 n apart)
      ∙ standing-tick more n
      ∙ ap (λ (s : Life). after s 1) (sym (cond-false (eqb place.0 n) place.1 (standing more n) (ne_eqb place.0 n apart)))
]

-- the live places after a tick are those before it one tick later
pub live_places-tick : (acts : List Act) (t channel : ℕ) → AreBy t acts →
    live_places acts (t + 1) channel ≡ map one_tick_later (live_places acts t channel)
live_places-tick acts t channel by =
    let before : Places = live_places acts t channel in
    same_places (live_places acts (t + 1) channel) (map one_tick_later before)
    (ArePlaces-live acts (t + 1) channel) (ArePlaces-tick before (ArePlaces-live acts t channel))
    (λ n.
    standing-live acts (t + 1) channel n ∙ state-later acts t 1 (record { channel = channel; layer = n }) by
    ∙ ap (λ (s : Life). after s 1) (sym (standing-live acts t channel n)) ∙ sym (standing-tick before n))

-- a change at one layer, on the channel of the list or on another
changed_here : (layer n : ℕ) (places : Places) (f : ℕ → Life) (g : Life → Life) → ((k : ℕ) → standing places k ≡ f k) →
    (layer ≡ n) ⊎ (layer ≡ n → ⊥) →
    (if eqb layer n then g (standing places layer) else standing places n) ≡ (if eqb layer n then g (f n) else f n)
changed_here layer n places f g same (inl e) =
    cond-true (eqb layer n) _ _ (eq-eqb layer n e) ∙ ap g (same layer ∙ ap f e) ∙ sym (cond-true (eqb layer n) _ _ (eq-eqb layer n e))
changed_here layer n places f g same (inr apart) =
    cond-false (eqb layer n) _ _ (ne_eqb layer n apart) ∙ same n ∙ sym (cond-false (eqb layer n) _ _ (ne_eqb layer n apart))

standing-changed : (here : Bool) (layer n : ℕ) (places : Places) (f : ℕ → Life) (g : Life → Life) → ArePlaces places →
    ((k : ℕ) → standing places k ≡ f k) →
    standing (if here then with_place places layer (g (standing places layer)) else places) n
    ≡ (if here && eqb layer n then g (f n) else f n)
standing-changed true layer n places f g p same =
    standing-with_place places layer n (g (standing places layer)) p ∙ changed_here layer n places f g same (cases_eq layer n)
standing-changed false layer n places f g p same = same n

-- a channel that is cleared, or another
pub standing-cleared : (here : Bool) (n : ℕ) (places : Places) (f : ℕ → Life) → ((k : ℕ) → standing places k ≡ f k) →
    standing (if here then [] else places) n ≡ (if here then empty_place else f n)
standing-cleared true n places f same = refl
standing-cleared false n places f same = same n

-- two acts on one place
both_acts : (on : Bool) (first second : Life → Life) (s : Life) →
    (if on then second (if on then first s else s) else (if on then first s else s)) ≡ (if on then second (first s) else s)
both_acts true first second s = refl
both_acts false first second s = refl

pub state-play_take : (acts : List Act) (t : ℕ) (at place : PlaceView) (first second : Cmd) →
    content_origin first place ≡ place → content_origin second place ≡ place → acts_on_content first place ≡ acts_on_content second place →
    state (act_after t second ∷ act_after t first ∷ acts) t place
    ≡ (if acts_on_content second place then effect second (effect first (state acts t place)) else state acts t place)
state-play_take acts t at place first second still_first still_second same =
    state-act (act_after t first ∷ acts) t second place still_second
    ∙ ap (λ (s : Life). if acts_on_content second place then effect second s else s)
    (state-act acts t first place still_first
    ∙ ap (λ (on : Bool). if on then effect first (state acts t place) else state acts t place) same)
    ∙ both_acts (acts_on_content second place) (effect first) (effect second) (state acts t place)

-- the lives after a command on a place
module _ (acts : List Act) (t channel : ℕ) where
  pub at_one : (at : PlaceView) (cmd : Cmd) (n : ℕ) →
      standing (changed_at at cmd channel (live_places acts t channel)) n
      ≡ (if (at.channel == channel) && eqb at.layer n then effect cmd (state acts t (record { channel = channel; layer = n })) else state acts t (record { channel = channel; layer = n }))
  at_one at cmd n =
      standing-changed (at.channel == channel) at.layer n (live_places acts t channel) (λ k. state acts t (record { channel = channel; layer = k }))
      (effect cmd) (ArePlaces-live acts t channel) (standing-live acts t channel)

-- the places after a command on a place are a list of places
pub places_chosen : (here : Bool) (changed places : Places) → ArePlaces changed → ArePlaces places → ArePlaces (if here then changed else places)
places_chosen true changed places p q = p
places_chosen false changed places p q = q

pub ArePlaces-changed : (at : PlaceView) (cmd : Cmd) (channel : ℕ) (places : Places) → ArePlaces places → ArePlaces (changed_at at cmd channel places)
ArePlaces-changed at cmd channel places p =
    places_chosen (at.channel == channel) _ places (ArePlaces-with_place places at.layer (effect cmd (standing places at.layer)) p) p
