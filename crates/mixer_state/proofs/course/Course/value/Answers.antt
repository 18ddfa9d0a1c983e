use Rattle.std.proofs.Common.{sym, subst}
use Rattle.mixer_state.specs.Ranges.{AreNumbers}
use Rattle.mixer_state.proofs.Ways.{AreNumbers-course}
use Rattle.mixer_state.proofs.course.Course.value.Goals as goal

pub returns-clause-range : goal.returns-clause-range
returns-clause-range c =
    subst (AreNumbers c.args.prop) (sym c.at.ensures) (AreNumbers-course c.args.prop c.args.ticks c.args.ticks c.args.self.now c.requires)
