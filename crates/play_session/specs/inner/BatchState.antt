-- The batch of a connection, and the effect of a line on it.
use Rattle.std.specs.Prelude.{nat_lt, Bool, true, false, if◌then◌else◌, List, [], ◌∷◌, ◌++◌, length}
use Rattle.play_types.specs.declared.command.Cmd.{Cmd}
use Rattle.play_types.specs.declared.command.TheConstants.{MAX_BATCH_COMMANDS}
use Rattle.play_types.specs.declared.parsed.Parsed.{Parsed}
use Rattle.play_types.specs.declared.parsed.Parsed.TheVariants.{Stage, Begin, Commit, Discard, Cls, Version, Bye, Kill}
use Rattle.history_model.specs.sessions.Line.{LineMeaning, Blank, Wrong, Asks}
use Rattle.history_model.specs.sessions.Session.{step_inside, step_outside}
use Rattle.play_types.specs.Commands.{is_query}
use Rattle.history_model.specs.sessions.Session as model

-- whether a batch is open, and its commands or those of the batch before it
pub record BatchState : Type 0 where
  pub is_open : Bool
  pub commands : List Cmd

-- the commands of an open batch after one more: a query is never added, nor is any if there is no room
abbrev pub with_command : List Cmd → Cmd → List Cmd
with_command commands command =
    if is_query command then commands
    else if nat_lt (length commands) MAX_BATCH_COMMANDS then commands ++ command ∷ []
    else commands

-- BEGIN opens an empty batch
abbrev pub after_outside : BatchState → Parsed → BatchState
after_outside batch (Stage command) = batch
after_outside batch Begin = record { is_open = true; commands = [] }
after_outside batch Commit = batch
after_outside batch Discard = batch
after_outside batch Cls = batch
after_outside batch Version = batch
after_outside batch Bye = batch
after_outside batch Kill = batch

-- a command is added to the open batch, and COMMIT and DISCARD close it
abbrev pub after_inside : BatchState → Parsed → BatchState
after_inside batch (Stage command) = record { is_open = batch.is_open; commands = with_command batch.commands command }
after_inside batch Begin = batch
after_inside batch Commit = record { is_open = false; commands = batch.commands }
after_inside batch Discard = record { is_open = false; commands = batch.commands }
after_inside batch Cls = batch
after_inside batch Version = batch
after_inside batch Bye = batch
after_inside batch Kill = batch

-- the batch after a line of this meaning
abbrev pub after_meaning : BatchState → LineMeaning → BatchState
after_meaning batch Blank = batch
after_meaning batch (Wrong reply) = batch
after_meaning batch (Asks asked) = if batch.is_open then after_inside batch asked else after_outside batch asked

-- the step of a line of this meaning
abbrev pub step_for : BatchState → LineMeaning → model.Step
step_for batch Blank = model.Skip
step_for batch (Wrong reply) = model.Local reply
step_for batch (Asks asked) = if batch.is_open then step_inside batch.commands asked else step_outside asked
