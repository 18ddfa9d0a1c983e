use Rattle.history_model.proofs.Frames.{last_pixel-tick, last_sample-tick}
use Rattle.history_model.proofs.laws.frames.last_frame_after_a_tick.Goals as goal

pub returns-clause-pixel : goal.returns-clause-pixel
returns-clause-pixel c = last_pixel-tick

pub returns-clause-sample : goal.returns-clause-sample
returns-clause-sample c = last_sample-tick
