-- Histories whose text plays them again, and how their text is played.
use Rattle.std.specs.Prelude.{◌≡◌, ℕ, ◌≤◌, ◌⊎◌, true, false, Ok, List, length, map, flat_map, encode_utf8_all, All}
use Rattle.std.specs.Str.{all_scalars}
use Rattle.std.specs.Str.Lines.{lines}
use Rattle.amcp_text.specs.Escapes.{escaped}
use Rattle.play_types.specs.Commands.{is_query}
use Rattle.play_types.specs.Config.{IsConfig}
use Rattle.play_types.specs.Shape.{shape_of}
use Rattle.play_types.specs.declared.shape.CommandShape.TheVariants as shape
use Rattle.play_types.specs.declared.take.Spec.{Spec}
use Rattle.play_types.specs.declared.take.Spec.TheVariants.{Clip, Colour, RouteChannel, RouteLayer}
use Rattle.history_model.specs.text.Commands.{clip_name_at}
use Rattle.play_types.specs.History.{IsHistory, held}
use Rattle.play_types.specs.Media.{IsMediaName, MediaNameView}
use Rattle.play_types.specs.declared.command.Cmd.{Cmd}
use Rattle.play_types.specs.declared.command.TheConstants.{MAX_BATCH_COMMANDS}
use Rattle.play_types.specs.declared.event.Event.{Event}
use Rattle.play_types.specs.declared.event.Event.TheVariants.{Do, Batch, Tick, Stop}
use Rattle.play_types.specs.declared.event.Tag.{Tag}
use Rattle.play_types.specs.declared.parsed.Parsed.TheVariants.{Stage}
use Rattle.history_model.specs.commands.Command.{parsed}
use Rattle.history_model.specs.declared.limits.TheConstants.{MAX_SESSION, MAX_WORKER}
use Rattle.history_model.specs.scripts.History.{Playout, server}
use Rattle.history_model.specs.scripts.Line.{ScriptLine, Comment, Ticks, Said, Rejected, meaning}
use Rattle.history_model.specs.scripts.Line as line
use Rattle.history_model.specs.sessions.Session.{Step, Local, Ask, AskBatch, KillServer, EndConnection, Skip}
use Rattle.history_replay.specs.declared.limits.TheConstants.{MAX_PRINTED_NAME_BYTES}

-- a connection that a line of a script can name
pub record IsConnection (tag : Tag) : Type 0 where
  pub some_worker : 1 ≤ tag.worker
  pub worker : tag.worker ≤ MAX_WORKER
  pub some_session : 1 ≤ tag.session
  pub session : tag.session ≤ MAX_SESSION

-- a command that some words ask for
pub record IsAskedFor (playout : Playout) (cmd : Cmd) : Type 0 where
  pub words : List (List ℕ)
  pub ask : parsed playout.config playout.names words ≡ Ok (Stage cmd)

-- a command that may be in a batch
pub record IsBatchedCommand (playout : Playout) (cmd : Cmd) : Type 0 where
  pub asked : IsAskedFor playout cmd
  pub acts : is_query cmd ≡ false

-- an event that connections of this configuration and media table can make, or that the server makes itself
abbrev pub IsWritten : Playout → Event → Type 0
IsWritten playout (Do tag cmd) = IsConnection tag × IsAskedFor playout cmd
IsWritten playout (Batch tag cmds) =
    IsConnection tag × (length cmds ≤ MAX_BATCH_COMMANDS) × All (IsBatchedCommand playout) cmds
IsWritten playout Tick = Unit {0}
IsWritten playout (Stop tag) = (tag ≡ server) ⊎ IsConnection tag

-- the name of a clip is a text
abbrev pub IsTextName : MediaNameView → Type 0
IsTextName clip = all_scalars clip.name ≡ true

-- a name that is short enough for each command that plays its clip
abbrev pub IsShortName : List ℕ → Type 0
IsShortName name = length (encode_utf8_all (flat_map escaped name)) ≤ MAX_PRINTED_NAME_BYTES

-- the clip that a producer plays has a short name
abbrev pub HasShortName : List MediaNameView → Spec → Type 0
HasShortName media (Clip id) = IsShortName (clip_name_at media id)
HasShortName media (Colour value) = Unit {0}
HasShortName media (RouteChannel channel) = Unit {0}
HasShortName media (RouteLayer place) = Unit {0}

-- the clip that a command names has a short name
abbrev pub NamesShortClip : List MediaNameView → Cmd → Type 0
NamesShortClip media cmd = elim (shape_of cmd) [
  | shape.Take place take ↦ HasShortName media take.spec
  | shape.Change place ↦ Unit {0}
  | shape.ClearChannel channel ↦ Unit {0}
  | shape.SwapLayers a b transforms ↦ Unit {0}
  | shape.SwapChannels a b transforms ↦ Unit {0}
  | shape.Set setting ↦ Unit {0}
  | shape.CommitMixer channel ↦ Unit {0}
  | shape.Reset target ↦ Unit {0}
  | shape.Record mark ↦ Unit {0}
  | shape.Ask query ↦ Unit {0}
]

-- each clip that an event names has a short name
abbrev pub NamesShortClips : List MediaNameView → Event → Type 0
NamesShortClips media (Do tag cmd) = NamesShortClip media cmd
NamesShortClips media (Batch tag cmds) = All (NamesShortClip media) cmds
NamesShortClips media Tick = Unit {0}
NamesShortClips media (Stop tag) = Unit {0}

-- what a history is played on
pub record IsPlayout (playout : Playout) : Type 0 where
  -- the configuration is in its ranges
  pub config : IsConfig playout.config
  -- the names of the media table are in their ranges
  pub names : All IsMediaName playout.names
  -- and each of them is a text
  pub texts : All IsTextName playout.names

-- a history that a server can have written
pub record IsReplayable (playout : Playout) (history : List Event) : Type 0 where
  -- it is played on the configuration and the names that it was made with
  pub on : IsPlayout playout
  -- no batch is empty, and nothing follows a stop
  pub whole : IsHistory history
  -- each event is one that a script can ask for
  pub written : All (IsWritten playout) history
  -- each clip that it names has a name that can be printed in a line
  pub named : All (NamesShortClips playout.names) history
  -- the journal has room for each command
  pub within : held history ≤ playout.config.journal_limit

-- the script of a text: the meanings of its lines
abbrev pub script_of : List ℕ → List ScriptLine
script_of text = map meaning (lines text)

-- a line that a script may have
abbrev pub IsAccepted : ScriptLine → Type 0
IsAccepted Comment = Unit {0}
IsAccepted (Ticks count) = Unit {0}
IsAccepted (Said tag text) = Unit {0}
IsAccepted line.Stop = Unit {0}
IsAccepted Rejected = ⊥

-- the connection of a line that has one is in range
abbrev pub NamesConnection : ScriptLine → Type 0
NamesConnection Comment = Unit {0}
NamesConnection (Ticks count) = Unit {0}
NamesConnection (Said tag text) = IsConnection tag
NamesConnection line.Stop = Unit {0}
NamesConnection Rejected = Unit {0}

-- a step that asks the stage for nothing, for a command that some words ask for, or for a batch of such commands
abbrev pub IsWrittenStep : Playout → Step → Type 0
IsWrittenStep playout (Local answer) = Unit {0}
IsWrittenStep playout (Ask command) = IsAskedFor playout command
IsWrittenStep playout (AskBatch commands) = (length commands ≤ MAX_BATCH_COMMANDS) × All (IsBatchedCommand playout) commands
IsWrittenStep playout KillServer = Unit {0}
IsWrittenStep playout EndConnection = Unit {0}
IsWrittenStep playout Skip = Unit {0}
