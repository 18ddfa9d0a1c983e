use Rattle.std.proofs.Common.{sym, subst}
use Rattle.play_types.specs.declared.setting.Prop.{Prop}
use Rattle.mixer_state.specs.Ranges.{AreCourses, IsCourse}
use Rattle.mixer_state.proofs.Ways.{AreCourses-with}
use Rattle.mixer_state.proofs.courses.Courses.after.Goals as goal

pub returns-clause-range : goal.returns-clause-range
returns-clause-range c =
    subst (AreCourses c.args.ticks) (sym c.with.ensures)
    (AreCourses-with c.args.ticks c.prop-prop.result c.set_out-course.result c.args.self
    (subst (λ (prop : Prop). IsCourse prop c.args.ticks c.set_out-course.result) (sym c.prop-prop.ensures) c.set_out-course.ensures.range)
    c.requires)
