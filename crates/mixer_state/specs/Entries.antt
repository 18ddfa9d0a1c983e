-- How the values of a mixer are kept: for each place that has an entry, the course of each property.
use Rattle.std.specs.Prelude.{ℕ, true, List, [], ◌∷◌, map, reverse, Option, Some, None, nat_eq, slice_index_or}
use Rattle.std.specs.Map.{lookup}
use Rattle.play_types.specs.Place.{PlaceView}
use Rattle.play_types.specs.Setting.{SettingView}
use Rattle.play_types.specs.declared.setting.Prop.{Prop}
use Rattle.play_types.specs.declared.setting.Prop.TheVariants.{Opacity, Fill, Clip, Volume, Keyer}
use Rattle.history_model.specs.stage.Value.{default_of}
use Rattle.mixer_state.specs.declared.course.Course.{Course}
use Rattle.mixer_state.specs.declared.courses.Courses.{Courses}
use Rattle.mixer_state.specs.Course.{standing}

-- the course of a property
abbrev pub course_of : Courses → Prop → Course
course_of courses Opacity = courses.opacity
course_of courses Fill = courses.fill
course_of courses Clip = courses.clip
course_of courses Volume = courses.volume
course_of courses Keyer = courses.keyer

-- the courses with this one for a property
abbrev pub with_course : Prop → Course → Courses → Courses
with_course Opacity course courses = record courses { opacity = course }
with_course Fill course courses = record courses { fill = course }
with_course Clip course courses = record courses { clip = course }
with_course Volume course courses = record courses { volume = course }
with_course Keyer course courses = record courses { keyer = course }

-- all properties stay at their defaults
abbrev pub all_standing : Courses
all_standing = record {
  opacity = standing (default_of Opacity);
  fill = standing (default_of Fill);
  clip = standing (default_of Clip);
  volume = standing (default_of Volume);
  keyer = standing (default_of Keyer);
}

-- the courses of an entry: without one all properties stay at their defaults
abbrev pub courses_or : Option Courses → Courses
courses_or None = all_standing
courses_or (Some courses) = courses

-- for each channel the layers that have an entry, each with its courses
abbrev pub Entries : Type 0
Entries = List (List (ℕ × Courses))

-- the entry of a layer, if it has one
abbrev pub layer_in : List (ℕ × Courses) → ℕ → Option Courses
layer_in layers = λ layer. lookup (nat_eq layer) layers

-- the layers of a channel that have an entry: channels count from 1
abbrev pub channel_in : Entries → ℕ → List (ℕ × Courses)
channel_in entries channel = slice_index_or ([] ∷ entries) channel []

-- the entry of each place, if it has one
abbrev pub Table : Type 0
Table = PlaceView → Option Courses

-- the entries by their places
abbrev pub table_of : Entries → Table
table_of entries = λ place. layer_in (channel_in entries place.channel) place.layer

-- the course of a property of a place
abbrev pub course_at : Table → PlaceView → Prop → Course
course_at table place prop = course_of (courses_or (table place)) prop

-- a setting, marked as deferred
abbrev pub deferred_setting : SettingView → SettingView
deferred_setting setting = record setting { deferred = true }

-- the settings that wait on each channel, the last one first and marked as deferred, from lists in the order in which they came
abbrev pub waiting_lists : List (List SettingView) → List (List SettingView)
waiting_lists lists = map (λ settings. map deferred_setting (reverse settings)) lists
