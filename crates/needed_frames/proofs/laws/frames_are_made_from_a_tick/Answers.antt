use Rattle.needed_frames.proofs.Rendering.{from-first, from-other, from-skipped, from-tick}
use Rattle.needed_frames.proofs.laws.frames_are_made_from_a_tick.Goals as goal

pub returns-clause-first : goal.returns-clause-first
returns-clause-first c = from-first

pub returns-clause-other : goal.returns-clause-other
returns-clause-other c setup from history event entries frames other is = from-other setup from history entries event frames other is

pub returns-clause-skipped : goal.returns-clause-skipped
returns-clause-skipped c setup from history entries frames early is = from-skipped setup from history entries frames early is

pub returns-clause-tick : goal.returns-clause-tick
returns-clause-tick c setup from history entries prev next late is made = from-tick setup from history entries prev next late is made
