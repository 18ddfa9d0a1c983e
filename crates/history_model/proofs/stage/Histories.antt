-- The stage after one event more of a history, and what that event adds to the acts.
use Rattle.std.proofs.Common.{◌≡◌, ℕ, ◌+◌, ◌≤◌, Bool, true, false, List, [], ◌∷◌, ◌++◌, reverse, length, map, refl, sym, ap, ap₂, ◌∙◌, subst, arith, is_none, unwrap_or, if◌then◌else◌}
use Rattle.std.proofs.lemmas.List.{length-map}
use Rattle.std.specs.Prelude.{Option, Some, None}
use Rattle.play_types.specs.History.{ticks}
use Rattle.play_types.specs.Setting.{SettingView}
use Rattle.play_types.specs.declared.place.TheConstants.{MAX_LIVE_LAYERS}
use Rattle.play_types.specs.declared.command.Cmd.{Cmd}
use Rattle.play_types.specs.declared.event.Tag.{Tag}
use Rattle.play_types.specs.declared.event.Event.{Event}
use Rattle.play_types.specs.declared.event.Event.TheVariants.{Do, Batch, Tick, Stop}
use Rattle.play_types.proofs.Histories.{ticks-append}
use Rattle.history_model.specs.stage.Act.{Act, acts_of}
use Rattle.history_model.specs.stage.Acts.{acts, acts_back, is_over, is_refused, with_command, with_commands}
use Rattle.history_model.specs.stage.Live.{live_layers, state}
use Rattle.history_model.specs.stage.Places.{AreBy, ArePlaces, Places, one_tick_later, place_at, places, standing}
use Rattle.history_model.specs.stage.Resolved.{waiting_settings}
use Rattle.history_model.specs.stage.WaitingList.{waiting_after}
use Rattle.history_model.specs.stage.StageHistory.{stage_after, waiting}
use Rattle.history_model.specs.stage.StageState.{IsWithinLimits, StageState, acts_after_all, empty_stage, is_refused_by, live_after, names_channel, some_is_refused, stage_state, state_after, state_after_all, state_one_tick_later}
use Rattle.history_model.proofs.Events.{ticks-reverse}
use Rattle.history_model.proofs.Frames.{acts-one_more}
use Rattle.history_model.proofs.Liveness.{acts-tick, live_layers-ticks}
use Rattle.history_model.proofs.places.Layers.{ArePlaces-live, standing-live}
use Rattle.history_model.proofs.places.Limits.{AreBy-later, AreBy-more}
use Rattle.history_model.proofs.stage.Changes.{live_after-other, stage_state-command, stage_state-commands, stage_state-tick, waiting_settings-more}
use Rattle.history_model.proofs.stage.Refusals.{IsWithinLimits-commands, IsWithinLimits-more, is_over-within, with_command-state, with_commands-state}

-- acts none of which is later than now, with each channel within its limits
record AreAllowed (acts : List Act) (t : ℕ) : Type 0 where
  by : AreBy t acts
  within : IsWithinLimits (stage_state acts t)

-- after a command or a batch, refused or not, the acts are again allowed
pub AreBy-all : (acts : List Act) (t : ℕ) (cmds : List Cmd) → AreBy t acts → AreBy t (acts_after_all t cmds acts)
AreBy-all acts t [] by = by
AreBy-all acts t (cmd ∷ cmds) by = AreBy-all (acts_of t cmd ++ acts) t cmds (AreBy-more acts t cmd (omega arith) by)

allowed_or_kept : (acts more : List Act) (t : ℕ) (refused : Bool) → AreAllowed acts t → (refused ≡ false → AreAllowed more t) →
    AreAllowed (unwrap_or (if refused then None else Some more) acts) t
allowed_or_kept acts more t true h after = h
allowed_or_kept acts more t false h after = after refl

AreAllowed-command : (acts : List Act) (t : ℕ) (cmd : Cmd) → AreAllowed acts t → AreAllowed (unwrap_or (with_command acts t cmd) acts) t
AreAllowed-command acts t cmd h =
    subst (λ (found : Option (List Act)). AreAllowed (unwrap_or found acts) t) (sym (with_command-state acts t cmd h.within))
    (allowed_or_kept acts (acts_of t cmd ++ acts) t (is_refused_by cmd (stage_state acts t)) h
    (λ kept. record {
      by = AreBy-more acts t cmd (omega arith) h.by;
      within = IsWithinLimits-more acts t cmd h.within kept;
    }))

AreAllowed-batch : (acts : List Act) (t : ℕ) (cmds : List Cmd) → AreAllowed acts t → AreAllowed (unwrap_or (with_commands acts t cmds) acts) t
AreAllowed-batch acts t cmds h =
    subst (λ (found : Option (List Act)). AreAllowed (unwrap_or found acts) t) (sym (with_commands-state acts t cmds h.within))
    (allowed_or_kept acts (acts_after_all t cmds acts) t (some_is_refused cmds (stage_state acts t)) h
    (λ kept. record {
      by = AreBy-all acts t cmds h.by;
      within = subst IsWithinLimits (sym (stage_state-commands acts t cmds)) (IsWithinLimits-commands acts t cmds h.within kept);
    }))

-- after a tick the acts are again allowed
AreAllowed-tick : (acts : List Act) (t : ℕ) → AreAllowed acts t → AreAllowed acts (1 + t)
AreAllowed-tick acts t h = record {
  by = AreBy-later acts t (1 + t) (omega arith) h.by;
  within = record {
    places = λ channel.
        subst (λ (n : ℕ). n ≤ MAX_LIVE_LAYERS)
        (length-map (live_layers acts t channel) (place_at acts t channel)
        ∙ ap length (live_layers-ticks acts t (1 + t) channel)
        ∙ sym (length-map (live_layers acts (1 + t) channel) (place_at acts (1 + t) channel)))
        (h.within.places channel);
    waiting = h.within.waiting;
  };
}

-- the acts of a history are allowed
AreAllowed-back : (back : List Event) → AreAllowed (acts_back back) (ticks back)
AreAllowed-back [] = record { by = tt; within = record { places = λ channel. omega arith; waiting = λ channel. omega arith } }
AreAllowed-back (Do tag cmd ∷ before) = AreAllowed-command (acts_back before) (ticks before) cmd (AreAllowed-back before)
AreAllowed-back (Batch tag cmds ∷ before) = AreAllowed-batch (acts_back before) (ticks before) cmds (AreAllowed-back before)
AreAllowed-back (Tick ∷ before) = AreAllowed-tick (acts_back before) (ticks before) (AreAllowed-back before)
AreAllowed-back (Stop tag ∷ before) = AreAllowed-back before

AreAllowed-acts : (history : List Event) → AreAllowed (acts history) (ticks history)
unfolding acts
AreAllowed-acts history = subst (AreAllowed (acts_back (reverse history))) (ticks-reverse history) (AreAllowed-back (reverse history))

pub AreBy-acts : (history : List Event) → AreBy (ticks history) (acts history)
AreBy-acts history = (AreAllowed-acts history).by

-- the stage after a history, by its acts
pub stage_after-acts : (history : List Event) → stage_after history ≡ stage_state (acts history) (ticks history)
unfolding places waiting
stage_after-acts history = refl

pub stage_after-start : stage_after [] ≡ empty_stage
unfolding places waiting acts
stage_after-start = refl

pub ArePlaces-places : (history : List Event) (channel : ℕ) → ArePlaces (places history channel)
unfolding places
ArePlaces-places history channel = ArePlaces-live (acts history) (ticks history) channel

pub standing-places : (history : List Event) (channel layer : ℕ) →
    standing (places history channel) layer ≡ state (acts history) (ticks history) (record { channel = channel; layer = layer })
unfolding places
standing-places history channel layer = standing-live (acts history) (ticks history) channel layer

pub IsWithinLimits-history : (history : List Event) → IsWithinLimits (stage_after history)
unfolding places waiting
IsWithinLimits-history history = (AreAllowed-acts history).within

pub is_over-history : (history : List Event) (channel : ℕ) → is_over (acts history) (ticks history) channel ≡ false
is_over-history history channel = is_over-within (acts history) (ticks history) (AreAllowed-acts history).within channel

pub waiting-acts : (history : List Event) (channel : ℕ) → waiting history channel ≡ waiting_settings (acts history) channel
unfolding waiting
waiting-acts history channel = refl

-- what is refused after a history
none_if : (refused : Bool) (more : List Act) → is_none (if refused then None else Some more) ≡ refused
none_if true more = refl
none_if false more = refl

pub is_refused-command : (history : List Event) (tag : Tag) (cmd : Cmd) → is_refused history (Do tag cmd) ≡ is_refused_by cmd (stage_after history)
unfolding is_refused places waiting
is_refused-command history tag cmd =
    ap is_none (with_command-state (acts history) (ticks history) cmd (AreAllowed-acts history).within)
    ∙ none_if (is_refused_by cmd (stage_state (acts history) (ticks history))) (acts_of (ticks history) cmd ++ acts history)

pub is_refused-batch : (history : List Event) (tag : Tag) (cmds : List Cmd) →
    is_refused history (Batch tag cmds) ≡ some_is_refused cmds (stage_after history)
unfolding is_refused places waiting
is_refused-batch history tag cmds =
    ap is_none (with_commands-state (acts history) (ticks history) cmds (AreAllowed-acts history).within)
    ∙ none_if (some_is_refused cmds (stage_state (acts history) (ticks history))) (acts_after_all (ticks history) cmds (acts history))

-- the acts after one event more
kept_or_more : (refused : Bool) (more acts : List Act) → unwrap_or (if refused then None else Some more) acts ≡ (if refused then acts else more)
kept_or_more true more acts = refl
kept_or_more false more acts = refl

pub acts-command : (history : List Event) (tag : Tag) (cmd : Cmd) →
    acts (history ++ Do tag cmd ∷ [])
    ≡ (if is_refused_by cmd (stage_after history) then acts history else acts_of (ticks history) cmd ++ acts history)
unfolding places waiting
acts-command history tag cmd =
    acts-one_more history (Do tag cmd)
    ∙ ap (λ (found : Option (List Act)). unwrap_or found (acts history))
    (with_command-state (acts history) (ticks history) cmd (AreAllowed-acts history).within)
    ∙ kept_or_more (is_refused_by cmd (stage_state (acts history) (ticks history))) (acts_of (ticks history) cmd ++ acts history) (acts history)

pub acts-batch : (history : List Event) (tag : Tag) (cmds : List Cmd) →
    acts (history ++ Batch tag cmds ∷ [])
    ≡ (if some_is_refused cmds (stage_after history) then acts history else acts_after_all (ticks history) cmds (acts history))
unfolding places waiting
acts-batch history tag cmds =
    acts-one_more history (Batch tag cmds)
    ∙ ap (λ (found : Option (List Act)). unwrap_or found (acts history))
    (with_commands-state (acts history) (ticks history) cmds (AreAllowed-acts history).within)
    ∙ kept_or_more (some_is_refused cmds (stage_state (acts history) (ticks history))) (acts_after_all (ticks history) cmds (acts history))
    (acts history)

pub acts-stop : (history : List Event) (tag : Tag) → acts (history ++ Stop tag ∷ []) ≡ acts history
acts-stop history tag = acts-one_more history (Stop tag)

-- the stage after one event more
no_tick_more : (t : ℕ) → t + 0 ≡ t
no_tick_more t = omega arith

stage_after-event : (history : List Event) (event : Event) →
    stage_after (history ++ event ∷ []) ≡ stage_state (acts (history ++ event ∷ [])) (ticks history + ticks (event ∷ []))
unfolding places waiting
stage_after-event history event = ap (stage_state (acts (history ++ event ∷ []))) (ticks-append history (event ∷ []))

state_chosen : (refused : Bool) (past more : List Act) (t : ℕ) (after : StageState) → stage_state more t ≡ after →
    stage_state (if refused then past else more) t ≡ (if refused then stage_state past t else after)
state_chosen true past more t after e = refl
state_chosen false past more t after e = e

pub stage_after-command : (history : List Event) (tag : Tag) (cmd : Cmd) →
    stage_after (history ++ Do tag cmd ∷ [])
    ≡ (if is_refused_by cmd (stage_after history) then stage_after history else state_after cmd (stage_after history))
unfolding places waiting
stage_after-command history tag cmd =
    stage_after-event history (Do tag cmd)
    ∙ ap₂ stage_state (acts-command history tag cmd) (no_tick_more (ticks history))
    ∙ state_chosen (is_refused_by cmd (stage_state (acts history) (ticks history))) (acts history) (acts_of (ticks history) cmd ++ acts history)
    (ticks history) (state_after cmd (stage_state (acts history) (ticks history)))
    (stage_state-command (acts history) (ticks history) cmd)

pub stage_after-batch : (history : List Event) (tag : Tag) (cmds : List Cmd) →
    stage_after (history ++ Batch tag cmds ∷ [])
    ≡ (if some_is_refused cmds (stage_after history) then stage_after history else state_after_all cmds (stage_after history))
unfolding places waiting
stage_after-batch history tag cmds =
    stage_after-event history (Batch tag cmds)
    ∙ ap₂ stage_state (acts-batch history tag cmds) (no_tick_more (ticks history))
    ∙ state_chosen (some_is_refused cmds (stage_state (acts history) (ticks history))) (acts history)
    (acts_after_all (ticks history) cmds (acts history)) (ticks history) (state_after_all cmds (stage_state (acts history) (ticks history)))
    (stage_state-commands (acts history) (ticks history) cmds)

pub stage_after-tick : (history : List Event) → stage_after (history ++ Tick ∷ []) ≡ state_one_tick_later (stage_after history)
unfolding places waiting
stage_after-tick history =
    stage_after-event history Tick
    ∙ ap (λ (past : List Act). stage_state past (ticks history + 1)) (acts-tick history)
    ∙ stage_state-tick (acts history) (ticks history) (AreAllowed-acts history).by

pub stage_after-stop : (history : List Event) (tag : Tag) → stage_after (history ++ Stop tag ∷ []) ≡ stage_after history
unfolding places waiting
stage_after-stop history tag =
    stage_after-event history (Stop tag) ∙ ap₂ stage_state (acts-stop history tag) (no_tick_more (ticks history))

-- the places and the waiting settings of a channel after one event more
places_chosen_by : (refused : Bool) (before after : StageState) (channel : ℕ) →
    (if refused then before else after).places channel ≡ (if refused then before.places channel else after.places channel)
places_chosen_by true before after channel = refl
places_chosen_by false before after channel = refl

pub places-command : (history : List Event) (tag : Tag) (cmd : Cmd) (channel : ℕ) →
    places (history ++ Do tag cmd ∷ []) channel
    ≡ (if is_refused_by cmd (stage_after history) then places history channel else live_after cmd (places history) channel)
places-command history tag cmd channel =
    ap (λ (s : StageState). s.places channel) (stage_after-command history tag cmd)
    ∙ places_chosen_by (is_refused_by cmd (stage_after history)) (stage_after history) (state_after cmd (stage_after history)) channel

pub places-batch : (history : List Event) (tag : Tag) (cmds : List Cmd) (channel : ℕ) →
    places (history ++ Batch tag cmds ∷ []) channel
    ≡ (if some_is_refused cmds (stage_after history) then places history channel else (state_after_all cmds (stage_after history)).places channel)
places-batch history tag cmds channel =
    ap (λ (s : StageState). s.places channel) (stage_after-batch history tag cmds)
    ∙ places_chosen_by (some_is_refused cmds (stage_after history)) (stage_after history) (state_after_all cmds (stage_after history)) channel

pub places-tick : (history : List Event) (channel : ℕ) → places (history ++ Tick ∷ []) channel ≡ map one_tick_later (places history channel)
places-tick history channel = ap (λ (s : StageState). s.places channel) (stage_after-tick history)

pub places-stop : (history : List Event) (tag : Tag) (channel : ℕ) → places (history ++ Stop tag ∷ []) channel ≡ places history channel
places-stop history tag channel = ap (λ (s : StageState). s.places channel) (stage_after-stop history tag)

either_way : (refused : Bool) (one : Places) → (if refused then one else one) ≡ one
either_way true one = refl
either_way false one = refl

pub places-other : (history : List Event) (tag : Tag) (cmd : Cmd) (channel : ℕ) → names_channel cmd channel ≡ false →
    places (history ++ Do tag cmd ∷ []) channel ≡ places history channel
places-other history tag cmd channel apart =
    places-command history tag cmd channel
    ∙ ap (λ (after : Places). if is_refused_by cmd (stage_after history) then places history channel else after)
    (live_after-other (places history) channel cmd apart)
    ∙ either_way (is_refused_by cmd (stage_after history)) (places history channel)

waiting_chosen : (refused : Bool) (past more : List Act) (channel : ℕ) (after : List SettingView) → waiting_settings more channel ≡ after →
    waiting_settings (if refused then past else more) channel ≡ (if refused then waiting_settings past channel else after)
waiting_chosen true past more channel after e = refl
waiting_chosen false past more channel after e = e

pub waiting-command : (history : List Event) (tag : Tag) (cmd : Cmd) (channel : ℕ) →
    waiting (history ++ Do tag cmd ∷ []) channel
    ≡ (if is_refused_by cmd (stage_after history) then waiting history channel else waiting_after cmd channel (waiting history channel))
unfolding waiting
waiting-command history tag cmd channel =
    ap (λ (past : List Act). waiting_settings past channel) (acts-command history tag cmd)
    ∙ waiting_chosen (is_refused_by cmd (stage_after history)) (acts history) (acts_of (ticks history) cmd ++ acts history) channel
    (waiting_after cmd channel (waiting_settings (acts history) channel)) (waiting_settings-more (acts history) (ticks history) cmd channel)
