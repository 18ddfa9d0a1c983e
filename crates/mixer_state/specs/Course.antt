-- Courses: numbers that go from old values to new ones over some ticks.
use Rattle.std.specs.Prelude.{ℕ, ◌-◌, List, ℤ}
use Rattle.play_types.specs.Setting.{SettingView}
use Rattle.play_types.specs.declared.transition.Curve.TheVariants.{Linear}
use Rattle.history_model.specs.stage.Value.{all_along}
use Rattle.mixer_state.specs.declared.course.Course.{Course}

-- numbers that stay where they are
abbrev pub standing : List ℤ → Course
standing values = record { from = values; to = values; start = 0; duration = 0; curve = Linear }

-- the numbers after `t` ticks
abbrev pub numbers_at : Course → ℕ → List ℤ
numbers_at course t = all_along course.curve course.from course.to (t - course.start) course.duration

-- the course that a setting starts after `ticks` ticks: from the numbers at that time to those of the setting
abbrev pub set_out : ℕ → SettingView → Course → Course
set_out ticks setting course = record {
  from = numbers_at course ticks;
  to = setting.values;
  start = ticks;
  duration = setting.duration;
  curve = setting.curve;
}
