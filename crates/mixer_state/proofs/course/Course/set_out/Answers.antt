use Rattle.std.proofs.Common.{rules, ◌≡◌, ℤ, List, length, sym, ap, ◌∙◌, subst, arith}
use Rattle.play_types.specs.Setting.{SettingView}
use Rattle.mixer_state.specs.Ranges.{AreNumbers}
use Rattle.mixer_state.proofs.Numbers.{AreNumbers-setting}
use Rattle.mixer_state.proofs.Ways.{AreNumbers-course}
use Rattle.mixer_state.proofs.course.Course.set_out.Goals as goal

pub returns-clause-range : goal.returns-clause-range
returns-clause-range c =
    let setting : SettingView = c.args.setting.now in
    let count : length c.values.result ≡ 4 = search rules in
    let four : length setting.values ≡ 4 = ap (λ (xs : List ℤ). length xs) (sym c.values.ensures.value) ∙ count in
    record {
      started = omega arith;
      from = subst (AreNumbers setting.prop) (sym c.at.ensures)
          (AreNumbers-course setting.prop c.args.ticks c.args.ticks c.args.self.now c.requires);
      to = subst (AreNumbers setting.prop) (sym c.values.ensures.value) (AreNumbers-setting setting c.values.ensures.range four);
      duration = rw c.duration.ensures.value c.values.ensures.range.duration;
    }
