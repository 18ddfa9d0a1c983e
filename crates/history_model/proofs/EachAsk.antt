-- A claim about the step of what a line asks for, by the claim about replies without the stage, commands and batches.
use Rattle.std.proofs.Common.{◌≡◌, Bool, true, false, List, length, refl}
use Rattle.std.specs.Prelude.{nat_lt, if◌then◌else◌}
use Rattle.play_types.specs.Commands.{command_name, is_query}
use Rattle.play_types.specs.declared.command.Cmd.{Cmd}
use Rattle.play_types.specs.declared.command.TheConstants.{MAX_BATCH_COMMANDS}
use Rattle.play_types.specs.declared.parsed.Parsed.{Parsed}
use Rattle.play_types.specs.declared.parsed.Parsed.TheVariants.{Stage, Begin, Commit, Discard, Cls, Version, Bye, Kill}
use Rattle.play_types.specs.declared.reply.Name.{Name}
use Rattle.play_types.specs.declared.reply.Name.TheVariants as name
use Rattle.play_types.specs.declared.reply.Reply.TheVariants as reply
use Rattle.history_model.specs.sessions.Session.{Step, Local, Ask, KillServer, EndConnection, step_commit, step_inside, step_outside, step_waiting}

-- it holds of each step without the stage
pub record HoldsAlone (Holds : Step → Type 0) : Type 0 where
  pub done : (command : Name) → Holds (Local (reply.Done command))
  pub refused : (command : Name) → Holds (Local (reply.Refused 403 command))
  pub cls : Holds (Local reply.Cls)
  pub version : Holds (Local reply.Version)
  pub kill : Holds KillServer
  pub ended : Holds EndConnection

module _ (Holds : Step → Type 0) (alone : HoldsAlone Holds) where
  -- a command for the open batch
  waiting-holds : (commands : List Cmd) (command : Cmd) → Holds (step_waiting commands command)
  waiting-holds commands command = by_query (is_query command) (nat_lt (length commands) MAX_BATCH_COMMANDS)
    where
      by_query : (query room : Bool) → Holds
          (if query then Local (reply.Refused 403 (command_name command))
          else if room then Local (reply.Done (command_name command))
          else Local (reply.Refused 403 (command_name command)))
      by_query true room = alone.refused (command_name command)
      by_query false true = alone.done (command_name command)
      by_query false false = alone.refused (command_name command)

  inside-holds : (commands : List Cmd) (asked : Parsed) → Holds (step_commit commands) → Holds (step_inside commands asked)
  inside-holds commands (Stage command) commit = waiting-holds commands command
  inside-holds commands Begin commit = alone.refused name.Begin
  inside-holds commands Commit commit = commit
  inside-holds commands Discard commit = alone.done name.Discard
  inside-holds commands Cls commit = alone.refused name.Cls
  inside-holds commands Version commit = alone.refused name.Version
  inside-holds commands Bye commit = alone.refused name.Bye
  inside-holds commands Kill commit = alone.refused name.Kill

  outside-holds : (asked : Parsed) → ((command : Cmd) → asked ≡ Stage command → Holds (Ask command)) → Holds (step_outside asked)
  outside-holds (Stage command) ask = ask command refl
  outside-holds Begin ask = alone.done name.Begin
  outside-holds Commit ask = alone.refused name.Commit
  outside-holds Discard ask = alone.refused name.Discard
  outside-holds Cls ask = alone.cls
  outside-holds Version ask = alone.version
  outside-holds Bye ask = alone.ended
  outside-holds Kill ask = alone.kill

  -- what a line asks for, while this batch is open or none is
  pub asked-holds : (open_now : Bool) (commands : List Cmd) (asked : Parsed) → Holds (step_commit commands)
      → ((command : Cmd) → asked ≡ Stage command → Holds (Ask command)) → Holds (if open_now then step_inside commands asked else step_outside asked)
  asked-holds true commands asked commit ask = inside-holds commands asked commit
  asked-holds false commands asked commit ask = outside-holds asked ask
