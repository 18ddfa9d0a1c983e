-- A step fits the configuration, whatever batch is open, and so does the batch after it.
use Rattle.std.proofs.Common.{◌≡◌, Bool, true, false, List, [], ◌∷◌, ◌++◌, ℕ, length, subst, sym}
use Rattle.std.specs.Prelude.{Some, Result, Ok, Err, IfOk, if◌then◌else◌, nat_lt}
use Rattle.std.proofs.lemmas.List.Elements.{All-nil, All-cons, All-append}
use Rattle.std.proofs.lemmas.Option.{same_Some}
use Rattle.amcp_text.specs.Lines.{Line}
use Rattle.play_types.specs.Config.{ConfigView}
use Rattle.play_types.specs.Media.{MediaNameView}
use Rattle.play_types.specs.Commands.{is_query}
use Rattle.play_types.specs.declared.command.Cmd.{Cmd}
use Rattle.play_types.specs.declared.command.TheConstants.{MAX_BATCH_COMMANDS}
use Rattle.play_types.specs.declared.parsed.Parsed.{Parsed}
use Rattle.play_types.specs.declared.parsed.Parsed.TheVariants as asked
use Rattle.history_model.specs.commands.Channels.{IsAimed, AreAimed}
use Rattle.history_model.specs.commands.Command.{parsed}
use Rattle.history_model.specs.sessions.Line.{LineMeaning, Blank, Wrong, Asks, line_meaning}
use Rattle.history_model.specs.sessions.Session as model
use Rattle.history_model.proofs.Aiming.{command_is_aimed}
use Rattle.history_model.proofs.Asking.{IsGiven, IsMeant, asked_given, line_meant}
use Rattle.play_session.specs.inner.BatchState.{BatchState, after_inside, after_meaning, after_outside, step_for, with_command}
use Rattle.play_session.specs.Step.{viewed}
use Rattle.play_session.specs.inner.Meaning.{meaning_view}
use Rattle.play_session.specs.SessionState.{SessionState}
use Rattle.play_session.specs.inner.Following.{Follows, batch_of}
use Rattle.play_session.specs.declared.meaning.ReadLine.{ReadLine}
use Rattle.play_session.specs.Session.{Fits}
use Rattle.play_session.specs.declared.step.Step.{Step}
use Rattle.play_session.specs.declared.step.Step.TheVariants as step

-- the step of a line is one that the definition gives
step_given : (config : ConfigView) (media : List MediaNameView) (batch : BatchState) (meant : LineMeaning) → IsMeant config media meant → IsGiven config media (step_for batch meant)
step_given config media batch Blank is = tt
step_given config media batch (Wrong answer) is = is
step_given config media batch (Asks asked) is = asked_given config media batch.is_open batch.commands is.0 asked is.1

-- a step that the definition gives fits
given_fits : (config : ConfigView) (media : List MediaNameView) (found : Step) (commands : List Cmd) (given : model.Step) → viewed found commands ≡ Some given → IsGiven config media given → Fits config found
given_fits config media (step.Local answer) commands given is fits = subst (IsGiven config media) (sym (same_Some (model.Local answer) given is)) fits
given_fits config media (step.Ask command) commands given is fits =
    let words = subst (IsGiven config media) (sym (same_Some (model.Ask command) given is)) fits in
    command_is_aimed config media words.0 command words.1
given_fits config media step.AskBatch commands given is fits = tt
given_fits config media step.Kill commands given is fits = tt
given_fits config media step.Bye commands given is fits = tt
given_fits config media step.Skip commands given is fits = tt
given_fits config media step.NeedMore commands given is fits = tt

-- the step of a line fits
pub line_fits : (config : ConfigView) (media : List MediaNameView) (batch : BatchState) (line : Line) (found : Step) (commands : List Cmd)
    → viewed found commands ≡ Some (step_for batch (line_meaning config media line)) → Fits config found
line_fits config media batch line found commands is =
    given_fits config media found commands (step_for batch (line_meaning config media line)) is
    (step_given config media batch (line_meaning config media line) (line_meant config media line))

-- what follows a line fits, whether the line was read or given up
pub followed_fits : {E : Type 0} (config : ConfigView) (media : List MediaNameView) (line : Line) (read : Result ReadLine E) (found : Step) (before after : SessionState)
    → IfOk read (λ (r : ReadLine). meaning_view r.meaning ≡ line_meaning config media line) → Follows read found (batch_of before) (batch_of after) → Fits config found
followed_fits config media line (Ok read) found before after meant follows =
    line_fits config media (batch_of before) line found after.batch (rw meant at follows.0)
followed_fits config media line (Err fault) found before after meant follows = subst (Fits config) (sym follows.0) tt

-- each channel that a command of the batch names is a configured one, after one more command
with_command_aimed : (config : ConfigView) (commands : List Cmd) (command : Cmd) → AreAimed config commands → IsAimed config command → AreAimed config (with_command commands command)
with_command_aimed config commands command before aimed = by_query (is_query command) (nat_lt (length commands) MAX_BATCH_COMMANDS)
  where
    by_query : (query room : Bool) → AreAimed config (if query then commands else if room then commands ++ command ∷ [] else commands)
    by_query true room = before
    by_query false true = All-append (IsAimed config) commands (command ∷ []) before (All-cons (IsAimed config) command [] aimed (All-nil (IsAimed config)))
    by_query false false = before

-- the same after one more ask, if a batch is open
inside_aimed : (config : ConfigView) (media : List MediaNameView) (batch : BatchState) (words : List (List ℕ)) (found : Parsed)
    → parsed config media words ≡ Ok found → AreAimed config batch.commands → AreAimed config (after_inside batch found).commands
inside_aimed config media batch words (asked.Stage command) is before =
    with_command_aimed config batch.commands command before (command_is_aimed config media words command is)
inside_aimed config media batch words asked.Begin is before = before
inside_aimed config media batch words asked.Commit is before = before
inside_aimed config media batch words asked.Discard is before = before
inside_aimed config media batch words asked.Cls is before = before
inside_aimed config media batch words asked.Version is before = before
inside_aimed config media batch words asked.Bye is before = before
inside_aimed config media batch words asked.Kill is before = before

-- and if none is open
outside_aimed : (config : ConfigView) (batch : BatchState) (found : Parsed) → AreAimed config batch.commands → AreAimed config (after_outside batch found).commands
outside_aimed config batch (asked.Stage command) before = before
outside_aimed config batch asked.Begin before = All-nil (IsAimed config)
outside_aimed config batch asked.Commit before = before
outside_aimed config batch asked.Discard before = before
outside_aimed config batch asked.Cls before = before
outside_aimed config batch asked.Version before = before
outside_aimed config batch asked.Bye before = before
outside_aimed config batch asked.Kill before = before

-- and after what a line means
after_meaning_aimed : (config : ConfigView) (media : List MediaNameView) (batch : BatchState) (meant : LineMeaning) → IsMeant config media meant
    → AreAimed config batch.commands → AreAimed config (after_meaning batch meant).commands
after_meaning_aimed config media batch Blank is before = before
after_meaning_aimed config media batch (Wrong answer) is before = before
after_meaning_aimed config media batch (Asks found) is before = by_open batch.is_open
  where
    by_open : (b : Bool) → AreAimed config (if b then after_inside batch found else after_outside batch found).commands
    by_open true = inside_aimed config media batch is.0 found is.1 before
    by_open false = outside_aimed config batch found before

-- the commands of the batch name only configured channels after a line, whether the line was read or given up
pub followed_aimed : {E : Type 0} (config : ConfigView) (media : List MediaNameView) (line : Line) (read : Result ReadLine E) (found : Step) (before after : SessionState)
    → IfOk read (λ (r : ReadLine). meaning_view r.meaning ≡ line_meaning config media line) → Follows read found (batch_of before) (batch_of after)
    → AreAimed config before.batch → AreAimed config after.batch
followed_aimed config media line (Ok read) found before after meant follows aimed =
    subst (λ (batch : BatchState). AreAimed config batch.commands) (sym (rw meant at follows.1))
    (after_meaning_aimed config media (batch_of before) (line_meaning config media line) (line_meant config media line) aimed)
followed_aimed config media line (Err fault) found before after meant follows aimed =
    subst (λ (batch : BatchState). AreAimed config batch.commands) (sym follows.1) aimed
