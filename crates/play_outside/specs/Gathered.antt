-- What a writer that gathers small pieces does.
use Rattle.std.specs.Prelude.{◌≡◌, ℕ, List, [], ◌++◌}
use Rattle.play_outside.specs.SinkState.{SinkState, after_taking}
use Rattle.play_outside.specs.Sink.{Fails}
use Rattle.play_outside.specs.declared.sink.Sent.{Sent}
use Rattle.play_outside.specs.declared.sink.Sent.TheVariants.{All, Failed}

-- of the text a prefix was taken, without a fault, and all of the rest waits to be written
pub record Gathered (text waiting : List ℕ) (before after : SinkState) : Type 0 where
  pub out : List ℕ
  pub parts : text ≡ out ++ waiting
  pub taken : after ≡ after_taking before out

-- the text was taken in part and waits in part, or a write failed after a prefix of it, and then nothing waits
abbrev pub Adds : Sent → List ℕ → List ℕ → SinkState → SinkState → Type 0
Adds All text waiting before after = Gathered text waiting before after
Adds Failed text waiting before after = Fails text before after × (waiting ≡ [])
