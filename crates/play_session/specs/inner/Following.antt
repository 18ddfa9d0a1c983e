-- The effect on a session of a line that was read.
use Rattle.std.specs.Prelude.{◌≡◌, ℕ, Option, Some, None, Result, Ok, Err, List}
use Rattle.play_types.specs.declared.reply.Reply.TheVariants as reply
use Rattle.play_session.specs.inner.BatchState.{BatchState, after_meaning, step_for}
use Rattle.play_session.specs.Step.{viewed}
use Rattle.play_session.specs.inner.Meaning.{meaning_view}
use Rattle.play_session.specs.SessionState.{SessionState}
use Rattle.play_session.specs.declared.meaning.ReadLine.{ReadLine}
use Rattle.play_session.specs.declared.step.Step.{Step}
use Rattle.play_session.specs.declared.step.Step.TheVariants as step

-- the batch of a session
abbrev pub batch_of : SessionState → BatchState
batch_of session = record { is_open = session.batch_open; commands = session.batch }

-- the token of a line that was read, if it has one
abbrev pub token_read : {E : Type 0} → Result ReadLine E → Option (List ℕ)
token_read (Ok read) = read.token
token_read (Err fault) = None

-- the step and the batch after it are those of the meaning; a line that was not read because memory ran out is given up, and
-- leaves the batch as it was
abbrev pub Follows : {E : Type 0} → Result ReadLine E → Step → BatchState → BatchState → Type 0
Follows (Ok read) result before after =
    (viewed result after.commands ≡ Some (step_for before (meaning_view read.meaning))) × (after ≡ after_meaning before (meaning_view read.meaning))
Follows (Err fault) result before after = (result ≡ step.Local reply.NoMemory) × (after ≡ before)
