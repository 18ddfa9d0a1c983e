-- What a write does.
use Rattle.std.specs.Prelude.{◌≡◌, ℕ, ◌<◌, ◌≤◌, List, length, take}
use Rattle.std.specs.declared.ops.ControlFlow.{ControlFlow}
use Rattle.std.specs.declared.ops.ControlFlow.TheVariants.{Continue, Break}
use Rattle.play_outside.specs.SinkState.{SinkState, after_taking, after_fault}
use Rattle.play_outside.specs.declared.sink.WriteStep.{WriteStep}
use Rattle.play_outside.specs.declared.sink.WriteStep.TheVariants.{Took, Failed}
use Rattle.play_outside.specs.declared.sink.Sent.{Sent}
use Rattle.play_outside.specs.declared.sink.Sent.TheVariants as sent
use Rattle.play_outside.specs.declared.sink.WriteFailed.{WriteFailed}

-- the sink took a prefix of the bytes, but not all of them; then one write failed, and it took nothing after that
pub record Fails (bytes : List ℕ) (before after : SinkState) : Type 0 where
  pub count : ℕ
  pub some_left : count < length bytes
  pub stopped : after ≡ after_fault (after_taking before (take count bytes))

-- a write took a prefix of the piece, or failed and took nothing
abbrev pub Writes : WriteStep → List ℕ → SinkState → SinkState → Type 0
Writes (Took count) piece before after = (0 < count) × (count ≤ length piece) × (after ≡ after_taking before (take count piece))
Writes Failed piece before after = after ≡ after_fault before

-- all bytes were taken in order, or a write failed after a prefix of them
abbrev pub Sends : Sent → List ℕ → SinkState → SinkState → Type 0
Sends sent.All bytes before after = after ≡ after_taking before bytes
Sends sent.Failed bytes before after = Fails bytes before after

-- what a `?` was given: `All` if it went on, and `Failed` if it returned
abbrev pub sent_from : {T : Type 0} → ControlFlow WriteFailed T → Sent
sent_from (Continue output) = sent.All
sent_from (Break failed) = sent.Failed
