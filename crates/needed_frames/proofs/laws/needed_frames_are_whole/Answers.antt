use Rattle.needed_frames.proofs.Whole.{whole_pixel, whole_sample}
use Rattle.needed_frames.proofs.laws.needed_frames_are_whole.Goals as goal

pub returns-clause-pixel : goal.returns-clause-pixel
returns-clause-pixel c setup from history channel x y h = whole_pixel setup from history channel x y h

pub returns-clause-sample : goal.returns-clause-sample
returns-clause-sample c setup from history channel pair side h = whole_sample setup from history channel pair side h
