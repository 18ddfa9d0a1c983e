-- Pasts that a layer represents: after a command, and after ticks.
use Rattle.std.proofs.Common.{◌≡◌, ℕ, zero, suc, ◌+◌, ◌-◌, ◌≤◌, Bool, true, false, List, [], ◌∷◌, refl, sym, ap, ◌∙◌, arith, add-one, if◌then◌else◌}
use Rattle.play_types.specs.Place.{PlaceView}
use Rattle.play_types.specs.declared.command.Cmd.{Cmd}
use Rattle.history_model.specs.stage.Act.{Act}
use Rattle.history_model.specs.stage.Life.{Life, after, effect, life}
use Rattle.history_model.specs.stage.Trail.{acts_along}
use Rattle.history_model.proofs.Lives.{after-add, after-zero}
use Rattle.layer_state.specs.Past.{IsPast, Represents, TakesCommand}
use Rattle.layer_state.specs.Ticks.{ticked}

-- acts that came by now came by any later time too
pub IsPast-later : (acts : List Act) (m n : ℕ) → m ≤ n → IsPast acts m → IsPast acts n
IsPast-later [] m n within past = tt
IsPast-later (act ∷ before) m n within past = (omega (arith, past.0), past.1)

-- the life of a place `n` ticks later
life-later : (acts : List Act) (t n : ℕ) → IsPast acts t → life acts (t + n) ≡ after (life acts t) n
life-later [] t n past = refl
life-later (act ∷ before) t n past =
    let moved : t + n - act.ticks ≡ (t - act.ticks) + n = omega (arith, past.0) in
    let taken : Life = effect act.cmd (life before act.ticks) in
    ap (after taken) moved ∙ sym (after-add taken (t - act.ticks) n)

-- ticks are added to those of a past
pub Represents-after : (n : ℕ) (layer : Life) (acts : List Act) (t : ℕ) →
    Represents layer acts t → Represents (after layer n) acts (t + n)
Represents-after n layer acts t represents =
    let later : t ≤ t + n = omega arith in
    record {
      past = IsPast-later acts t (t + n) later represents.past;
      state = ap (λ (s : Life). after s n) represents.state ∙ sym (life-later acts t n represents.past);
    }

-- a command is put at the end of a past
pub Represents-effect : (cmd : Cmd) (layer : Life) → TakesCommand cmd layer (effect cmd layer)
Represents-effect cmd layer acts t represents =
    let none : t - t ≡ 0 = omega arith in
    let now : t ≤ t = omega arith in
    let taken : Life = effect cmd (life acts t) in
    record {
      past = (now, represents.past);
      state = ap (effect cmd) represents.state ∙ sym (after-zero taken) ∙ sym (ap (after taken) none);
    }

-- ticks one after another are all of them at once
pub ticked-after : (n : ℕ) (layer : Life) → ticked n layer ≡ after layer n
ticked-after zero layer = sym (after-zero layer)
ticked-after (suc n) layer =
    ap (λ (s : Life). after s 1) (ticked-after n layer) ∙ after-add layer n 1 ∙ ap (after layer) (add-one n)

-- an act is put before others, or left out
IsPast-chosen : (chosen : Bool) (act : Act) (others : List Act) (t : ℕ) → act.ticks ≤ t → IsPast others act.ticks →
    IsPast (if chosen then act ∷ others else others) t
IsPast-chosen true act others t within past = (within, past)
IsPast-chosen false act others t within past = IsPast-later others act.ticks t within past

-- acts that are chosen from a past are one
pub IsPast-along : (acts_on : Cmd → PlaceView → Bool) (origin : Cmd → PlaceView → PlaceView) (acts : List Act) (place : PlaceView) (t : ℕ) →
    IsPast acts t → IsPast (acts_along acts_on origin acts place) t
IsPast-along acts_on origin [] place t past = tt
IsPast-along acts_on origin (act ∷ before) place t past =
    IsPast-chosen (acts_on act.cmd place) act (acts_along acts_on origin before (origin act.cmd place)) t past.0
    (IsPast-along acts_on origin before (origin act.cmd place) act.ticks past.1)
