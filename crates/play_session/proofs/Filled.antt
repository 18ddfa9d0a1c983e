-- A batch that the stage is asked for has a command.
use Rattle.std.proofs.Common.{◌≡◌, ◌≢◌, ◌<◌, List, [], ◌∷◌, length, ap, sym, ◌∙◌, subst, arith}
use Rattle.std.specs.Prelude.{Result, Ok, Err}
use Rattle.std.proofs.lemmas.Option.{same_Some}
use Rattle.play_types.specs.declared.command.Cmd.{Cmd}
use Rattle.play_types.specs.declared.reply.Reply.TheVariants as reply
use Rattle.history_model.specs.sessions.Line.{LineMeaning, Blank, Wrong, Asks}
use Rattle.history_model.specs.sessions.Session.{IsFilledStep}
use Rattle.history_model.specs.sessions.Session as model
use Rattle.history_model.proofs.EachAsk.{asked-holds}
use Rattle.history_model.proofs.Filled.{commit-filled}
use Rattle.play_session.specs.inner.BatchState.{BatchState, step_for}
use Rattle.play_session.specs.Step.{viewed}
use Rattle.play_session.specs.inner.Meaning.{meaning_view}
use Rattle.play_session.specs.inner.Following.{Follows}
use Rattle.play_session.specs.declared.meaning.ReadLine.{ReadLine}
use Rattle.play_session.specs.declared.step.Step.{Step}
use Rattle.play_session.specs.declared.step.Step.TheVariants as step

step_filled : (batch : BatchState) (meant : LineMeaning) → IsFilledStep (step_for batch meant)
step_filled batch Blank = tt
step_filled batch (Wrong answer) = tt
step_filled batch (Asks line) =
    asked-holds IsFilledStep
    (record { done = λ command. tt; refused = λ command. tt; cls = tt; version = tt; kill = tt; ended = tt })
    batch.is_open batch.commands line (commit-filled batch.commands) (λ command same. tt)

some_command : (asked : List Cmd) → 0 < length asked → asked ≢ []
some_command [] some = λ none. omega (arith, some)
some_command (command ∷ commands) some = λ none. cc

-- the batch of a step that asks for it is not empty
pub followed_filled : {E : Type 0} (read : Result ReadLine E) (found : Step) (before after : BatchState) → Follows read found before after → found ≡ step.AskBatch → after.commands ≢ []
followed_filled (Ok read) found before after follows is =
    let given = ap (λ (f : Step). viewed f after.commands) (sym is) ∙ follows.0 in
    some_command after.commands
    (subst IsFilledStep (sym (same_Some (model.AskBatch after.commands) (step_for before (meaning_view read.meaning)) given)) (step_filled before (meaning_view read.meaning)))
followed_filled (Err fault) found before after follows is = let differ : step.AskBatch ≡ step.Local reply.NoMemory = sym is ∙ follows.0 in cc
