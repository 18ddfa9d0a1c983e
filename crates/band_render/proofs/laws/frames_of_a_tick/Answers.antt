use Rattle.band_render.proofs.Ticks.{frame_of_tick}
use Rattle.band_render.proofs.laws.frames_of_a_tick.Goals as goal

pub returns : goal.returns
returns c = frame_of_tick
