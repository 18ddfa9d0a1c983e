-- What a mixer represents through commands and time, and which commands it can take.
use Rattle.std.proofs.Common.{◌≡◌, ℕ, ◌≤◌, Bool, true, false, ◌||◌, List, [], ◌∷◌, ◌++◌, refl, sym, ap, ◌∙◌, subst, subst₂, arith}
use Rattle.std.proofs.lemmas.Bool.{true≢false}
use Rattle.std.specs.Prelude.{IsTrue, not, OnOk, Ok, Result}
use Rattle.play_types.specs.History.{ticks}
use Rattle.play_types.specs.Place.{PlaceView}
use Rattle.play_types.specs.declared.setting.Prop.{Prop}
use Rattle.history_model.specs.stage.Value.{value, value_at}
use Rattle.play_types.specs.Setting.{SettingView}
use Rattle.play_types.specs.Shape.{shape_of}
use Rattle.play_types.specs.Take.{played}
use Rattle.play_types.specs.declared.shape.CommandShape.{CommandShape}
use Rattle.play_types.specs.declared.shape.CommandShape.TheVariants as shape
use Rattle.play_types.specs.declared.command.Cmd.{Cmd}
use Rattle.play_types.specs.declared.command.Cmd.TheVariants.{LoadBg, Play, PlayTake, SwapLayers, SwapChannels, AddFile, RemoveFile, Value, Info}
use Rattle.play_types.specs.declared.event.Event.{Event}
use Rattle.play_types.specs.declared.event.Event.TheVariants.{Tick}
use Rattle.play_types.proofs.Histories.{ticks-append}
use Rattle.history_model.specs.stage.Act.{Act, act_after, acts_of}
use Rattle.history_model.specs.stage.Acts.{acts}
use Rattle.history_model.specs.stage.StageHistory.{stage_after}
use Rattle.history_model.specs.stage.StageState.{is_refused_by, some_is_refused, stage_state, state_after}
use Rattle.history_model.proofs.stage.Changes.{stage_state-command}
use Rattle.history_model.proofs.stage.Histories.{stage_after-acts}
use Rattle.mixer_state.specs.Mixer.{IsAsBefore, MixerView, values_of}
use Rattle.mixer_state.specs.Past.{Represents, TakesCommand, leaves_mixer}
use Rattle.stage_core.specs.Kept.{IsMixed}
use Rattle.stage_core.specs.inner.Settled.{CanTake}

-- what a mixer represents stays
module _ (m : MixerView) (past : List Act) (t : ℕ) (h : Represents m past t) where
  -- when time passes
  pub later_on : (u : ℕ) → t ≤ u → Represents m past u
  later_on u more = record {
    latest = omega (arith, more, h.latest);
    values = λ place prop at c low. h.values place prop at c (omega (arith, low, more));
    waiting = h.waiting;
  }

  -- and when memory is taken for it
  with_spare : (spare : ℕ) → Represents (record m { spare = spare }) past t
  unfolding values_of
  with_spare spare = record { latest = h.latest; values = h.values; waiting = h.waiting }

  pub as_before : (after : MixerView) → IsAsBefore m after → Represents after past t
  as_before after same = subst (λ (one : MixerView). Represents one past t) (sym same) (with_spare after.spare)

-- whether a command of a shape changes no mixer value and no waiting setting
abbrev pub shape_leaves_mixer : CommandShape → Bool
shape_leaves_mixer (shape.SwapLayers a b transforms) = not transforms
shape_leaves_mixer (shape.SwapChannels a b transforms) = not transforms
shape_leaves_mixer (shape.Set setting) = false
shape_leaves_mixer (shape.CommitMixer channel) = false
shape_leaves_mixer (shape.Reset target) = false
shape_leaves_mixer other = true

leaves_mixer-shape : (cmd : Cmd) → leaves_mixer cmd ≡ shape_leaves_mixer (shape_of cmd)
leaves_mixer-shape (SwapLayers a b transforms) = refl
leaves_mixer-shape (SwapChannels a b transforms) = refl
leaves_mixer-shape cmd = refl

-- what a mixer represents stays through a command that changes no value and no waiting setting
module _ (leaves : (cmd : Cmd) (t : ℕ) (m : MixerView) → IsTrue (leaves_mixer cmd) → TakesCommand cmd t m m) (m : MixerView) (t : ℕ) where
  stays_through : (cmd : Cmd) → IsTrue (leaves_mixer cmd) → (past : List Act) → Represents m past t → Represents m (acts_of t cmd ++ past) t
  stays_through (PlayTake at take) e past h =
      leaves (Play at) t m refl (act_after t (LoadBg at (played take)) ∷ past) (leaves (LoadBg at (played take)) t m refl past h)
  stays_through (AddFile channel name) e past h = h
  stays_through (RemoveFile channel) e past h = h
  stays_through (Value at prop) e past h = h
  stays_through Info e past h = h
  stays_through cmd e past h = leaves cmd t m e past h

  -- by its shape
  pub stays_through_shape : (cmd : Cmd) (found : CommandShape) → found ≡ shape_of cmd → IsTrue (shape_leaves_mixer found) →
      (past : List Act) → Represents m past t → Represents m (acts_of t cmd ++ past) t
  stays_through_shape cmd found same e = stays_through cmd (leaves_mixer-shape cmd ∙ sym (ap shape_leaves_mixer same) ∙ e)

-- a value that was taken out of a result was there
module _ {X F : Type 0} where
  pub when_ok : (found : Result X F) (taken : X) (P : Type 0) → found ≡ Ok taken → OnOk found P → P
  when_ok found taken P e h = subst (λ (one : Result X F). OnOk one P) e h

-- of two tests none of which holds
left_false : (a b : Bool) → (a || b) ≡ false → a ≡ false
left_false true b e = absurd (true≢false e)
left_false false b e = refl

right_false : (a b : Bool) → (a || b) ≡ false → b ≡ false
right_false true b e = absurd (true≢false e)
right_false false b e = e

-- the first of some commands, and those after it
module _ (cmd : Cmd) (cmds : List Cmd) (t : ℕ) (m : MixerView) (h : CanTake (cmd ∷ cmds) t m) where
  pub CanTake-first : CanTake (cmd ∷ []) t m
  CanTake-first = record {
    acts = h.acts;
    past = h.past;
    taken =
        ap (λ (b : Bool). b || false)
        (left_false (is_refused_by cmd (stage_state h.acts t)) (some_is_refused cmds (state_after cmd (stage_state h.acts t))) h.taken);
  }

  pub CanTake-rest : (after : MixerView) →
      ((earlier : List Act) → Represents m earlier t → Represents after (acts_of t cmd ++ earlier) t) → CanTake cmds t after
  CanTake-rest after past = record {
    acts = acts_of t cmd ++ h.acts;
    past = past h.acts h.past;
    taken =
        ap (some_is_refused cmds) (stage_state-command h.acts t cmd)
        ∙ right_false (is_refused_by cmd (stage_state h.acts t)) (some_is_refused cmds (state_after cmd (stage_state h.acts t))) h.taken;
  }

-- the mark of a setting
pub marked : (setting : SettingView) (mark : Bool) → setting.deferred ≡ mark → record setting { deferred = mark } ≡ setting
marked setting mark e = λ i. record setting { deferred = sym e i }

-- the mixer of a stage through its events
module _ (n : ℕ) (events : List Event) (m : MixerView) (h : IsMixed n events m) where
  pub IsMixed-as_before : (after : MixerView) → IsAsBefore m after → IsMixed n events after
  IsMixed-as_before after same = record {
    count = ap (λ (one : MixerView). one.channels) same ∙ h.count;
    past = as_before m (acts events) (ticks events) h.past after same;
  }

  pub can_take : (cmd : Cmd) → is_refused_by cmd (stage_after events) ≡ false → CanTake (cmd ∷ []) (ticks events) m
  can_take cmd e = record {
    acts = acts events;
    past = h.past;
    taken = ap (λ (b : Bool). b || false) (ap (is_refused_by cmd) (sym (stage_after-acts events)) ∙ e);
  }

  pub can_take_all : (cmds : List Cmd) → some_is_refused cmds (stage_after events) ≡ false → CanTake cmds (ticks events) m
  can_take_all cmds e = record {
    acts = acts events;
    past = h.past;
    taken = ap (some_is_refused cmds) (sym (stage_after-acts events)) ∙ e;
  }

-- the value that a query asks for
pub value-acts : (events : List Event) (place : PlaceView) (prop : Prop) (t : ℕ) → value events place prop t ≡ value_at (acts events) place prop t
unfolding value acts
value-acts events place prop t = refl

-- after an event that is no tick
pub IsMixed-event : (n : ℕ) (events : List Event) (event : Event) (m : MixerView) (past : List Act) → ticks (event ∷ []) ≡ 0 → m.channels ≡ n →
    acts (events ++ event ∷ []) ≡ past → Represents m past (ticks events) → IsMixed n (events ++ event ∷ []) m
IsMixed-event n events event m past none count same represents = record {
  count = count;
  past =
      subst₂ (Represents m) (sym same)
      (let added = ticks-append events (event ∷ []) in let now : ticks events ≡ ticks (events ++ event ∷ []) = omega (arith, added, none) in now) represents;
}

pub IsMixed-tick : (n : ℕ) (events : List Event) (m : MixerView) → acts (events ++ Tick ∷ []) ≡ acts events → IsMixed n events m →
    IsMixed n (events ++ Tick ∷ []) m
IsMixed-tick n events m same h = record {
  count = h.count;
  past =
      subst (λ (past : List Act). Represents m past (ticks (events ++ Tick ∷ []))) (sym same)
      (later_on m (acts events) (ticks events) h.past (ticks (events ++ Tick ∷ [])) (let added = ticks-append events (Tick ∷ []) in omega (arith, added)));
}
