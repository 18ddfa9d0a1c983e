-- What reads do to a stream whose bytes are known.
use Rattle.std.specs.Prelude.{ℕ, List, Option, take}
use Rattle.std.specs.Io.KnownBytes.{Consumes, IsAtEnd, Keeps}
use Rattle.play_outside.specs.declared.source.ReadStep.{ReadStep}
use Rattle.play_outside.specs.declared.source.ReadStep.TheVariants.{Got, End, Failed}

-- a read returned the next bytes of the stream, or found its end, or failed and consumed nothing
abbrev pub GivesFrom : ReadStep → List ℕ → Option (List ℕ) → Option (List ℕ) → Type 0
GivesFrom (Got count) buffer before after = Consumes before after (take count buffer)
GivesFrom End buffer before after = Keeps before after × IsAtEnd after
GivesFrom Failed buffer before after = Keeps before after
