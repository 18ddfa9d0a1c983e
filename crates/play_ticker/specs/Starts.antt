-- What the ticks of a stage start with.
use Rattle.std.specs.Prelude.{◌≡◌, ℕ, ◌≤◌, List, [], length}
use Rattle.play_types.specs.History.{ticks}
use Rattle.play_types.specs.declared.event.TheConstants.{MAX_TICKS}
use Rattle.clip_format.specs.Table.{Entry}
use Rattle.play_scene.specs.Frames.{FrameView}
use Rattle.stage_lock.specs.Views.{PassView, SharedView}
use Rattle.play_ticker.specs.Frames.{AreLast}

-- a pass may make the ticks of a stage
pub record MayTick (stage : SharedView) (pass : PassView) : Type 0 where
  -- the pass is one of this stage
  pub of : pass.stage ≡ stage
  -- it has number 0
  pub first : pass.number ≡ 0
  -- it has made no events
  pub made : pass.made ≡ []
  -- the events that the stage was given have at most the maximum number of ticks of a history
  pub few : ticks stage.sizes.given ≤ MAX_TICKS

-- a pass may make the ticks of a stage, and they may be rendered from these clips, after these frames, and written to this number of outputs
pub record MayTickAll (stage : SharedView) (entries : List Entry) (pass : PassView) (frames : List FrameView) (outputs : ℕ) : Type 0 where
  -- the pass may make the ticks of the stage
  pub tick : MayTick stage pass
  -- each channel of the stage has a frame
  pub renderer : length frames ≡ stage.sizes.channels
  -- the frames are those of the last tick among the events that the stage was given, and blank if there is none
  pub last : AreLast stage.sizes.given entries frames
  -- each channel of the stage has an output
  pub outs : outputs ≡ stage.sizes.channels
