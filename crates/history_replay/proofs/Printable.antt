-- Commands whose printed form fits a line, and events of such commands.
use Rattle.std.proofs.Common.{◌≡◌, ◌≤◌, ◌⊎◌, false, List, length}
use Rattle.std.specs.Prelude.{All, get_or}
use Rattle.play_types.specs.Commands.{is_query}
use Rattle.play_types.specs.declared.command.Cmd.{Cmd}
use Rattle.play_types.specs.declared.command.TheConstants.{MAX_BATCH_COMMANDS}
use Rattle.play_types.specs.declared.event.Event.{Event}
use Rattle.play_types.specs.declared.event.Event.TheVariants.{Do, Batch, Tick, Stop}
use Rattle.history_model.specs.scripts.History.{Playout, server}
use Rattle.history_replay.specs.Replay.{IsAskedFor, IsConnection, IsWritten, NamesShortClip, NamesShortClips}

-- words ask for the command, and the clip that it names has a short name
pub record IsPrintable (playout : Playout) (cmd : Cmd) : Type 0 where
  pub by : IsAskedFor playout cmd
  pub short : NamesShortClip playout.names cmd

-- such a command may be in a batch
pub record IsPrintableInBatch (playout : Playout) (cmd : Cmd) : Type 0 where
  pub asked : IsPrintable playout cmd
  pub acts : is_query cmd ≡ false

-- an event of such commands
abbrev pub IsPlayable : Playout → Event → Type 0
IsPlayable playout (Do tag cmd) = IsConnection tag × IsPrintable playout cmd
IsPlayable playout (Batch tag cmds) =
    IsConnection tag × (length cmds ≤ MAX_BATCH_COMMANDS) × All (IsPrintableInBatch playout) cmds
IsPlayable playout Tick = Unit {0}
IsPlayable playout (Stop tag) = (tag ≡ server) ⊎ IsConnection tag

one_playable : (playout : Playout) (event : Event) → IsWritten playout event → NamesShortClips playout.names event → IsPlayable playout event
one_playable playout (Do tag cmd) written named = (written.0, record { by = written.1; short = named })
one_playable playout (Batch tag cmds) written named = (
  written.0,
  written.1,
  λ k d inside. record {
    asked = record { by = (written.2 k d inside).asked; short = named k d inside };
    acts = (written.2 k d inside).acts;
  },
)
one_playable playout Tick written named = tt
one_playable playout (Stop tag) written named = written

pub all_playable : (playout : Playout) (history : List Event) → All (IsWritten playout) history → All (NamesShortClips playout.names) history →
    All (IsPlayable playout) history
all_playable playout history written named = λ k d inside. one_playable playout (get_or history k d) (written k d inside) (named k d inside)
