use Rattle.needed_frames.proofs.Whole.{later_pixel, later_sample}
use Rattle.needed_frames.proofs.laws.later_frames_are_whole.Goals as goal

pub returns-clause-pixel : goal.returns-clause-pixel
returns-clause-pixel c setup from past later channel x y early = later_pixel setup from past later early channel x y

pub returns-clause-sample : goal.returns-clause-sample
returns-clause-sample c setup from past later channel pair side early = later_sample setup from past later early channel pair side
