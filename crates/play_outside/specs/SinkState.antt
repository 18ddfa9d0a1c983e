-- What contracts see of a sink.
use Rattle.std.specs.Prelude.{ℕ, Option, Some, None, List, ◌++◌}
use Rattle.play_outside.specs.Faults.{one_more}
use Rattle.play_outside.specs.Reading.{Reading}

-- the bytes that were taken, if the sink exposes them, how many of its calls failed, its mark, and the bytes that it had
-- taken when a write last failed, if a write has failed and the sink exposes them; then, of a link, its reads, if it
-- exposes them, and how many of its reads found nothing yet. A sink that is no link has no reads, and 0 of them found
-- nothing yet
pub record SinkState : Type 0 where
  pub taken : Option (List ℕ)
  pub faults : ℕ
  pub mark : ℕ
  pub at_fault : Option (List ℕ)
  pub reading : Option Reading
  pub idle : ℕ

-- what was taken, with more bytes at its end
abbrev pub more_taken : Option (List ℕ) → List ℕ → Option (List ℕ)
more_taken None bytes = None
more_taken (Some before) bytes = Some (before ++ bytes)

-- the sink after it took more bytes, without a fault
abbrev pub after_taking : SinkState → List ℕ → SinkState
after_taking state bytes = record state { taken = more_taken state.taken bytes }

-- the sink after one write failed, of which it took nothing
abbrev pub after_fault : SinkState → SinkState
after_fault state = record state { faults = one_more state.faults; at_fault = state.taken }
