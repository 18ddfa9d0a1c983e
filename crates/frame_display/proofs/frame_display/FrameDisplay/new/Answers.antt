use Rattle.frame_display.proofs.Rendering.{nothing_shown}
use Rattle.frame_display.proofs.frame_display.FrameDisplay.new.Goals as goal

pub returns-clause-frames : goal.returns-clause-frames
returns-clause-frames g c = nothing_shown c.args.setup.now _ c.in_ok-renderer.ensures
