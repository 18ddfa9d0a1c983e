-- What a run begins with.
use Rattle.std.specs.Prelude.{◌≡◌, Bool, None, List, All, length, map}
use Rattle.play_types.specs.Config.{ConfigView}
use Rattle.play_types.specs.History.{stop_at}
use Rattle.clip_format.specs.Table.{Entry}
use Rattle.history_model.specs.scripts.History.{channel_size}
use Rattle.history_replay.specs.Replay.{IsWritten}
use Rattle.band_render.specs.Rendered.{sizes}
use Rattle.stage_core.specs.Stage.{StageView}
use Rattle.play_ticker.specs.Frames.{AreLast}
use Rattle.server_run.specs.Run.{Program, playout_of}
use Rattle.server_run.specs.declared.beginning.Beginning.{Beginning}

-- what a run on this configuration and these clips is played on if it begins with this stage
abbrev pub program_from : ConfigView → List Entry → StageView → Program
program_from config media stage = record { config = config; media = media; given = stage.journal.events }

-- a run on this configuration and these clips can begin with a stage: the stage was made for the configuration, and its events are such
-- as a script can ask for, and hold no stop
pub record MayGoOn (config : ConfigView) (media : List Entry) (stage : StageView) : Type 0 where
  pub limit : stage.journal.limit ≡ config.journal_limit
  pub channels : stage.channels ≡ length config.channels
  pub written : (digests : Bool) → All (IsWritten (playout_of (program_from config media stage) digests)) stage.journal.events
  pub running : stop_at stage.journal.events ≡ None

-- a run on this configuration and these clips can begin with it: with the stage, and with the frames of the last tick of its events
pub record IsBeginning (config : ConfigView) (media : List Entry) (beginning : Beginning) : Type 0 where
  pub stage : MayGoOn config media beginning.stage
  pub frames : sizes beginning.renderer ≡ map channel_size config.channels
  pub last : AreLast beginning.stage.journal.events media beginning.renderer
