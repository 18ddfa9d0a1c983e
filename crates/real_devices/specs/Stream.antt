-- What reads and writes do to a stream whose bytes are known.
use Rattle.std.specs.Prelude.{ℕ, List, Option, Some, None, take}
use Rattle.std.specs.Io.KnownBytes.{Appends, Consumes, IsAtEnd, Keeps}
use Rattle.play_outside.specs.declared.link.LinkStep.{LinkStep}
use Rattle.play_outside.specs.declared.link.LinkStep.TheVariants as read
use Rattle.play_outside.specs.declared.source.ReadStep.{ReadStep}
use Rattle.play_outside.specs.declared.source.ReadStep.TheVariants as source
use Rattle.play_outside.specs.declared.sink.WriteStep.{WriteStep}
use Rattle.play_outside.specs.declared.sink.WriteStep.TheVariants as write

-- a read returned the next bytes of the stream, or found its end, or consumed nothing
abbrev pub GivesFrom : LinkStep → List ℕ → Option (List ℕ) → Option (List ℕ) → Type 0
GivesFrom (read.Got count) buffer before after = Consumes before after (take count buffer)
GivesFrom read.End buffer before after = Keeps before after × IsAtEnd after
GivesFrom read.Again buffer before after = Keeps before after
GivesFrom read.Failed buffer before after = Keeps before after

-- a read of a source returned the next bytes of the stream, or found its end, or failed and consumed nothing
abbrev pub ReadsFrom : ReadStep → List ℕ → Option (List ℕ) → Option (List ℕ) → Type 0
ReadsFrom (source.Got count) buffer before after = Consumes before after (take count buffer)
ReadsFrom source.End buffer before after = Keeps before after × IsAtEnd after
ReadsFrom source.Failed buffer before after = Keeps before after

-- a write appended the first `count` bytes of the piece to the stream, or failed and appended nothing
abbrev pub AddsTo : WriteStep → List ℕ → Option (List ℕ) → Option (List ℕ) → Type 0
AddsTo (write.Took count) piece before after = Appends before after (take count piece)
AddsTo write.Failed piece before after = Keeps before after

-- the contents of a file, if they are known; `None` if there is no file
abbrev pub contents_of : {W : Type 0} → (W → Option (List ℕ)) → Option W → Option (List ℕ)
contents_of contents None = None
contents_of contents (Some file) = contents file
