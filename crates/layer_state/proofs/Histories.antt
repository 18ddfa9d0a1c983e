-- The acts of a history are a past.
use Rattle.std.proofs.Common.{ℕ, ◌≤◌, Bool, true, false, List, [], ◌∷◌, ◌++◌, reverse, subst, arith, unwrap_or, if◌then◌else◌}
use Rattle.std.specs.Prelude.{Option, Some, None, option_and_then}
use Rattle.std.specs.List.{list_any}
use Rattle.play_types.specs.History.{ticks}
use Rattle.play_types.specs.declared.command.Cmd.{Cmd}
use Rattle.play_types.specs.declared.command.Cmd.TheVariants.{Load, LoadBg, Play, PlayTake, Pause, Resume, StopLayer, ClearLayer, ClearChannel, SwapLayers, SwapChannels, Set, CommitMixer, ResetLayer, ResetChannel, AddFile, RemoveFile, Value, Info}
use Rattle.play_types.specs.declared.event.Event.{Event}
use Rattle.play_types.specs.declared.event.Event.TheVariants.{Do, Batch, Tick, Stop}
use Rattle.history_model.specs.stage.Act.{Act, acts_of}
use Rattle.history_model.specs.stage.Acts.{acts, acts_back, channels, is_over, with_command, with_commands, with_event}
use Rattle.history_model.proofs.Events.{ticks-reverse}
use Rattle.layer_state.specs.Past.{IsPast}
use Rattle.layer_state.proofs.Pasts.{IsPast-later}

-- the acts of a command, put at the end of a past, are a past
acts_of-past : (cmd : Cmd) (before : List Act) (t : ℕ) → t ≤ t → IsPast before t → IsPast (acts_of t cmd ++ before) t
acts_of-past (Load place take) before t now past = (now, past)
acts_of-past (LoadBg place take) before t now past = (now, past)
acts_of-past (Play place) before t now past = (now, past)
acts_of-past (PlayTake place take) before t now past = (now, (now, past))
acts_of-past (Pause place) before t now past = (now, past)
acts_of-past (Resume place) before t now past = (now, past)
acts_of-past (StopLayer place) before t now past = (now, past)
acts_of-past (ClearLayer place) before t now past = (now, past)
acts_of-past (ClearChannel channel) before t now past = (now, past)
acts_of-past (SwapLayers a b transforms) before t now past = (now, past)
acts_of-past (SwapChannels a b transforms) before t now past = (now, past)
acts_of-past (Set setting) before t now past = (now, past)
acts_of-past (CommitMixer channel) before t now past = (now, past)
acts_of-past (ResetLayer place) before t now past = (now, past)
acts_of-past (ResetChannel channel) before t now past = (now, past)
acts_of-past (AddFile marked name) before t now past = past
acts_of-past (RemoveFile marked) before t now past = past
acts_of-past (Value place prop) before t now past = past
acts_of-past Info before t now past = past

-- what a command or an event gives, if it is not refused, is a past
IsPastIfAny : Option (List Act) → ℕ → Type 0
IsPastIfAny None t = Unit {0}
IsPastIfAny (Some acts) t = IsPast acts t

not_refused : (refused : Bool) (more : List Act) (t : ℕ) → IsPast more t → IsPastIfAny (if refused then None else Some more) t
unfolding IsPastIfAny
not_refused true more t past = tt
not_refused false more t past = past

with_command-past : (before : List Act) (t : ℕ) (cmd : Cmd) → IsPast before t → IsPastIfAny (with_command before t cmd) t
with_command-past before t cmd past =
    let more : List Act = acts_of t cmd ++ before in
    not_refused (list_any (is_over more t) (channels more)) more t
    (acts_of-past cmd before t (let now : t ≤ t = omega arith in now) past)

and_then-past : (found : Option (List Act)) (next : List Act → Option (List Act)) (t : ℕ) → IsPastIfAny found t →
    ((more : List Act) → IsPast more t → IsPastIfAny (next more) t) → IsPastIfAny (option_and_then next found) t
unfolding IsPastIfAny
and_then-past None next t past goes_on = tt
and_then-past (Some more) next t past goes_on = goes_on more past

with_commands-past : (cmds : List Cmd) (before : List Act) (t : ℕ) → IsPast before t → IsPastIfAny (with_commands before t cmds) t
unfolding IsPastIfAny
with_commands-past [] before t past = past
with_commands-past (cmd ∷ cmds) before t past =
    and_then-past (with_command before t cmd) (λ more. with_commands more t cmds) t
    (with_command-past before t cmd past) (λ more. with_commands-past cmds more t)

with_event-past : (event : Event) (before : List Act) (t : ℕ) → IsPast before t → IsPastIfAny (with_event before t event) t
unfolding IsPastIfAny
with_event-past (Do tag cmd) before t past = with_command-past before t cmd past
with_event-past (Batch tag cmds) before t past = with_commands-past cmds before t past
with_event-past Tick before t past = past
with_event-past (Stop tag) before t past = past

unwrapped-past : (found : Option (List Act)) (before : List Act) (t : ℕ) → IsPastIfAny found t → IsPast before t →
    IsPast (unwrap_or found before) t
unfolding IsPastIfAny
unwrapped-past None before t found past = past
unwrapped-past (Some more) before t found past = found

-- an event counts no tick or one
ticks-later : (event : Event) (before : List Event) → ticks before ≤ ticks (event ∷ before)
ticks-later (Do tag cmd) before = omega arith
ticks-later (Batch tag cmds) before = omega arith
ticks-later Tick before = omega arith
ticks-later (Stop tag) before = omega arith

acts_back-past : (back : List Event) → IsPast (acts_back back) (ticks back)
acts_back-past [] = tt
acts_back-past (event ∷ before) =
    let earlier : IsPast (acts_back before) (ticks before) = acts_back-past before in
    let now : List Act = unwrap_or (with_event (acts_back before) (ticks before) event) (acts_back before) in
    IsPast-later now (ticks before) (ticks (event ∷ before)) (ticks-later event before)
    (unwrapped-past (with_event (acts_back before) (ticks before) event) (acts_back before) (ticks before)
    (with_event-past event (acts_back before) (ticks before) earlier) earlier)

pub acts-past : (history : List Event) → IsPast (acts history) (ticks history)
unfolding acts
acts-past history =
    subst (λ (t : ℕ). IsPast (acts_back (reverse history)) t) (ticks-reverse history) (acts_back-past (reverse history))
