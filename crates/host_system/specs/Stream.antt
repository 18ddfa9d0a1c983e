-- What writes do to a stream whose bytes are known.
use Rattle.std.specs.Prelude.{ℕ, List, Option, take}
use Rattle.std.specs.Io.KnownBytes.{Appends, Keeps}
use Rattle.play_outside.specs.declared.sink.WriteStep.{WriteStep}
use Rattle.play_outside.specs.declared.sink.WriteStep.TheVariants.{Took, Failed}

-- a write appended the first `count` bytes of the piece to the stream, or failed and appended nothing
abbrev pub AddsTo : WriteStep → List ℕ → Option (List ℕ) → Option (List ℕ) → Type 0
AddsTo (Took count) piece before after = Appends before after (take count piece)
AddsTo Failed piece before after = Keeps before after
