-- What becomes of the entries of places.
use Rattle.std.specs.Prelude.{ℕ, ◌&&◌, ◌==◌, List, Option, Some, None, fold, if◌then◌else◌}
use Rattle.play_types.specs.Place.{PlaceView}
use Rattle.play_types.specs.Setting.{SettingView, is_same_prop}
use Rattle.play_types.specs.declared.setting.Prop.{Prop}
use Rattle.history_model.specs.stage.Trail.{same_place}
use Rattle.mixer_state.specs.declared.course.Course.{Course}
use Rattle.mixer_state.specs.declared.courses.Courses.{Courses}
use Rattle.mixer_state.specs.Course.{set_out}
use Rattle.mixer_state.specs.Entries.{Table, course_of, courses_or, with_course}

-- the entries with this one for a place, or with none
abbrev pub with_entry : PlaceView → Option Courses → Table → Table
with_entry place entry table = λ other. if same_place place other then entry else table other

-- the entries without those of a channel
abbrev pub without_channel : ℕ → Table → Table
without_channel channel table = λ other. if channel == other.channel then None else table other

-- the courses of a place, one of which a setting sets out anew after `ticks` ticks
abbrev pub courses_after : ℕ → SettingView → Courses → Courses
courses_after ticks setting courses =
    with_course setting.prop (set_out ticks setting (course_of courses setting.prop)) courses

-- the entries after a setting that takes place after `ticks` ticks
abbrev pub with_setting : ℕ → Table → SettingView → Table
with_setting ticks table setting =
    with_entry setting.place (Some (courses_after ticks setting (courses_or (table setting.place)))) table

-- the entries after settings that take place one after another after `ticks` ticks
abbrev pub with_settings : ℕ → Table → List SettingView → Table
with_settings ticks table settings = fold (with_setting ticks) table settings

-- the course of a property of a place after a setting
abbrev pub course_after : ℕ → PlaceView → Prop → Course → SettingView → Course
course_after ticks place prop course setting =
    if same_place setting.place place && is_same_prop setting.prop prop then set_out ticks setting course else course
