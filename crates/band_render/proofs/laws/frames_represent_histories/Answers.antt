use Rattle.band_render.proofs.Ticks.{represents-first, represents-other, represents-tick}
use Rattle.band_render.proofs.laws.frames_represent_histories.Goals as goal

pub returns-clause-first : goal.returns-clause-first
returns-clause-first c = represents-first

pub returns-clause-tick : goal.returns-clause-tick
returns-clause-tick c = represents-tick

pub returns-clause-other : goal.returns-clause-other
returns-clause-other c = represents-other
