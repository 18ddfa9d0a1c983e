-- The first tick whose frames a film needs.
use Rattle.std.specs.Prelude.{◌≡◌, ◌≤◌, ℕ, ◌-◌, min, true, if◌then◌else◌, List, [], ◌∷◌, ◌++◌}
use Rattle.play_types.specs.History.{ticks}
use Rattle.play_types.specs.declared.event.Event.{Event}
use Rattle.play_types.specs.declared.event.Event.TheVariants.{Do, Batch, Tick, Stop}
use Rattle.history_model.specs.recordings.Film.{Span}
use Rattle.needed_frames.specs.Depth.{depth}
use Rattle.play_recorder.specs.Recording.{is_recorded}

-- the least of a number and, if an event after a history is a recorded tick, of the number of ticks before the first one whose frames it
-- needs
abbrev pub least_at : Span → List Event → Event → ℕ → ℕ
least_at span past (Do tag cmd) least = least
least_at span past (Batch tag cmds) least = least
least_at span past Tick least =
    if is_recorded span (ticks past) then min (ticks past - depth past span.channel) least else least
least_at span past (Stop tag) least = least

-- the least of a number and of these numbers for the events that follow a history
abbrev pub least_needed : Span → List Event → List Event → ℕ → ℕ
least_needed span past [] least = least
least_needed span past (event ∷ later) least =
    least_at span past event (least_needed span (past ++ event ∷ []) later least)

-- the number of ticks of a history before the first one whose frames a film needs: its own first tick, or an earlier one
abbrev pub first_needed : Span → List Event → ℕ
first_needed span history = least_needed span [] history span.first

-- if an event after a history is a recorded tick, the frames that it needs are not among those of the first `skipped` ticks
abbrev pub NeedsNoneOf : ℕ → Span → List Event → Event → Type 0
NeedsNoneOf skipped span past (Do tag cmd) = Unit {0}
NeedsNoneOf skipped span past (Batch tag cmds) = Unit {0}
NeedsNoneOf skipped span past Tick = is_recorded span (ticks past) ≡ true → skipped ≤ ticks past - depth past span.channel
NeedsNoneOf skipped span past (Stop tag) = Unit {0}
