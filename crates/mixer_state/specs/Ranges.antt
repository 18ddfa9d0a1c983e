-- The ranges of the numbers of a property.
use Rattle.std.specs.Prelude.{◌≡◌, ℕ, ◌≤◌, List, ℤ, length, All}
use Rattle.play_types.specs.Place.{PlaceView}
use Rattle.play_types.specs.Setting.{AreValues, IsWide, duration_of}
use Rattle.play_types.specs.declared.setting.Prop.{Prop}
use Rattle.mixer_state.specs.declared.course.Course.{Course}
use Rattle.mixer_state.specs.declared.courses.Courses.{Courses}
use Rattle.mixer_state.specs.Entries.{Table, course_at, course_of}

-- four numbers in the range of a property: those that it does not use are within minus 1000 to 1000 too
pub record AreNumbers (prop : Prop) (values : List ℤ) : Type 0 where
  pub four : length values ≡ 4
  pub wide : All IsWide values
  pub in_range : AreValues prop values

-- a course between such numbers that started after at most `ticks` ticks: the numbers of a keyer change at once
pub record IsCourse (prop : Prop) (ticks : ℕ) (course : Course) : Type 0 where
  pub started : course.start ≤ ticks
  pub from : AreNumbers prop course.from
  pub to : AreNumbers prop course.to
  pub duration : duration_of prop course.duration ≡ course.duration

-- such courses, of each property
abbrev pub AreCourses : ℕ → Courses → Type 0
AreCourses ticks courses = (prop : Prop) → IsCourse prop ticks (course_of courses prop)

-- such courses, of each place
abbrev pub AreRunning : ℕ → Table → Type 0
AreRunning ticks table = (place : PlaceView) (prop : Prop) → IsCourse prop ticks (course_at table place prop)
