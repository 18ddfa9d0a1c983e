-- What a finder knows of a history.
use Rattle.std.specs.Prelude.{◌≡◌, ◌≤◌, ℕ, Bool, true, false, List, Option, Some, None, unwrap_or}
use Rattle.play_types.specs.History.{ticks}
use Rattle.play_types.specs.declared.answer.Answer.{Answer}
use Rattle.play_types.specs.declared.answer.Answer.TheVariants as answer
use Rattle.play_types.specs.declared.event.Event.{Event}
use Rattle.history_model.specs.recordings.Film.{Begun, accepted_commands, begun_in}

-- the name that is looked for, the number of ticks so far, and the first recording of the name, if one has begun
pub record FinderView : Type 0 where
  pub name : List ℕ
  pub ticks : ℕ
  pub begun : Option Begun

-- a recording does not begin after its end, or after the ticks so far while it runs
abbrev pub HasBegun : ℕ → Begun → Type 0
HasBegun ticks begun = begun.first ≤ unwrap_or begun.end ticks

abbrev pub IsInTime : ℕ → Option Begun → Type 0
IsInTime ticks None = Unit {0}
IsInTime ticks (Some begun) = HasBegun ticks begun

-- a finder has the number of ticks of these events, and the first recording of its name in them
pub record Represents (finder : FinderView) (events : List Event) : Type 0 where
  pub ticks : finder.ticks ≡ ticks events
  pub begun : finder.begun ≡ begun_in finder.name (accepted_commands events)

-- whether an answer refuses its event
abbrev pub is_refusal : Answer → Bool
is_refusal answer.Done = false
is_refusal (answer.Value micros) = false
is_refusal (answer.Info statuses) = false
is_refusal answer.Refused = true
