-- Courses of properties, and the ranges that they keep to.
use Rattle.std.proofs.Common.{◌≡◌, ℕ, ◌-◌, ◌≤◌, ◌==◌, inl, inr, refl, sym, ap, ◌∙◌, subst, arith, if◌then◌else◌}
use Rattle.std.specs.Prelude.{None, Option}
use Rattle.std.proofs.lemmas.Bool.{cases_Bool, cond-true, cond-false}
use Rattle.play_types.specs.Place.{PlaceView}
use Rattle.play_types.specs.Setting.{SettingView, duration_of, is_same_prop}
use Rattle.play_types.specs.declared.setting.Prop.{Prop}
use Rattle.play_types.specs.declared.setting.Prop.TheVariants.{Opacity, Fill, Clip, Volume, Keyer}
use Rattle.play_types.specs.declared.transition.Curve.TheVariants.{Linear}
use Rattle.history_model.specs.stage.Trail.{same_place}
use Rattle.history_model.specs.stage.Value.{default_of}
use Rattle.mixer_state.specs.declared.course.Course.{Course}
use Rattle.mixer_state.specs.declared.courses.Courses.{Courses}
use Rattle.mixer_state.specs.Course.{numbers_at, set_out, standing}
use Rattle.mixer_state.specs.Entries.{Table, all_standing, course_at, course_of, courses_or, with_course}
use Rattle.mixer_state.specs.inner.Changes.{courses_after, with_entry, without_channel}
use Rattle.mixer_state.specs.Ranges.{AreCourses, AreNumbers, AreRunning, IsCourse}
use Rattle.mixer_state.proofs.Exchanged.{same_prop-true}
use Rattle.mixer_state.proofs.Numbers.{AreNumbers-all_along, AreNumbers-default, all_along-once}

-- numbers that stay are where they are
pub numbers_at-default : (prop : Prop) (t : ℕ) → numbers_at (standing (default_of prop)) t ≡ default_of prop
numbers_at-default prop t = all_along-once Linear (default_of prop) (default_of prop) (t - 0) refl

-- the numbers of a course are in the range of the property
pub AreNumbers-course : (prop : Prop) (ticks t : ℕ) (course : Course) → IsCourse prop ticks course → AreNumbers prop (numbers_at course t)
AreNumbers-course prop ticks t course is_course =
    AreNumbers-all_along course.curve prop course.from course.to (t - course.start) course.duration is_course.from is_course.to is_course.duration

pub IsCourse-standing : (prop : Prop) (ticks : ℕ) → IsCourse prop ticks (standing (default_of prop))
IsCourse-standing prop ticks = record {
  started = omega arith;
  from = AreNumbers-default prop;
  to = AreNumbers-default prop;
  duration = none prop;
}
  where
    none : (p : Prop) → duration_of p 0 ≡ 0
    none Opacity = refl
    none Fill = refl
    none Clip = refl
    none Volume = refl
    none Keyer = refl

pub IsCourse-later : (prop : Prop) (ticks later : ℕ) (course : Course) → ticks ≤ later → IsCourse prop ticks course → IsCourse prop later course
IsCourse-later prop ticks later course h is_course = record {
  started = omega (arith, h, is_course.started);
  from = is_course.from;
  to = is_course.to;
  duration = is_course.duration;
}

pub AreRunning-later : (ticks later : ℕ) (table : Table) → ticks ≤ later → AreRunning ticks table → AreRunning later table
AreRunning-later ticks later table h running place prop = IsCourse-later prop ticks later (course_at table place prop) h (running place prop)

-- a property of a place without an entry stays at its default
pub course_of-standing : (prop : Prop) → course_of all_standing prop ≡ standing (default_of prop)
course_of-standing Opacity = refl
course_of-standing Fill = refl
course_of-standing Clip = refl
course_of-standing Volume = refl
course_of-standing Keyer = refl

pub AreCourses-standing : (ticks : ℕ) → AreCourses ticks all_standing
AreCourses-standing ticks prop = subst (IsCourse prop ticks) (sym (course_of-standing prop)) (IsCourse-standing prop ticks)

-- the course of a property, once one is replaced
pub course_of-with : (other prop : Prop) (course : Course) (courses : Courses) →
    course_of (with_course other course courses) prop ≡ (if is_same_prop other prop then course else course_of courses prop)
course_of-with Opacity Opacity course courses = refl
course_of-with Fill Fill course courses = refl
course_of-with Clip Clip course courses = refl
course_of-with Volume Volume course courses = refl
course_of-with Keyer Keyer course courses = refl
course_of-with other prop course courses = refl

pub AreCourses-with : (ticks : ℕ) (other : Prop) (course : Course) (courses : Courses) → IsCourse other ticks course → AreCourses ticks courses →
    AreCourses ticks (with_course other course courses)
AreCourses-with ticks other course courses is_course are prop =
    elim (cases_Bool (is_same_prop other prop)) [
      | inl e ↦
          subst (IsCourse prop ticks)
          (sym (course_of-with other prop course courses ∙ cond-true (is_same_prop other prop) course (course_of courses prop) e))
          (subst (λ (p : Prop). IsCourse p ticks course) (same_prop-true other prop e) is_course)
      | inr n ↦
          subst (IsCourse prop ticks)
          (sym (course_of-with other prop course courses ∙ cond-false (is_same_prop other prop) course (course_of courses prop) n))
          (are prop)
    ]

-- the course of a property after a setting
pub course_of-after : (ticks : ℕ) (setting : SettingView) (courses : Courses) (prop : Prop) →
    course_of (courses_after ticks setting courses) prop
    ≡ (if is_same_prop setting.prop prop then set_out ticks setting (course_of courses prop) else course_of courses prop)
course_of-after ticks setting courses prop =
    course_of-with setting.prop prop (set_out ticks setting (course_of courses setting.prop)) courses
    ∙ elim (cases_Bool (is_same_prop setting.prop prop)) [
      | inl e ↦
          ap (λ (p : Prop). if is_same_prop setting.prop prop then set_out ticks setting (course_of courses p) else course_of courses prop)
          (same_prop-true setting.prop prop e)
      | inr n ↦
          cond-false (is_same_prop setting.prop prop) _ (course_of courses prop) n
          ∙ sym (cond-false (is_same_prop setting.prop prop) _ (course_of courses prop) n)
    ]

-- the entries, once that of a place is replaced
pub AreRunning-with : (ticks : ℕ) (place : PlaceView) (entry : Option Courses) (table : Table) → AreCourses ticks (courses_or entry) → AreRunning ticks table →
    AreRunning ticks (with_entry place entry table)
AreRunning-with ticks place entry table are running other prop =
    elim (cases_Bool (same_place place other)) [
      | inl e ↦
          subst (λ (found : Option Courses). IsCourse prop ticks (course_of (courses_or found) prop))
          (sym (cond-true (same_place place other) entry (table other) e)) (are prop)
      | inr n ↦
          subst (λ (found : Option Courses). IsCourse prop ticks (course_of (courses_or found) prop))
          (sym (cond-false (same_place place other) entry (table other) n)) (running other prop)
    ]

-- and once those of a channel are removed
pub AreRunning-without : (ticks channel : ℕ) (table : Table) → AreRunning ticks table → AreRunning ticks (without_channel channel table)
AreRunning-without ticks channel table running other prop =
    elim (cases_Bool (channel == other.channel)) [
      | inl e ↦
          subst (λ (found : Option Courses). IsCourse prop ticks (course_of (courses_or found) prop))
          (sym (cond-true (channel == other.channel) None (table other) e)) (AreCourses-standing ticks prop)
      | inr n ↦
          subst (λ (found : Option Courses). IsCourse prop ticks (course_of (courses_or found) prop))
          (sym (cond-false (channel == other.channel) None (table other) n)) (running other prop)
    ]

-- and once entries are exchanged
pub AreRunning-moved : (ticks : ℕ) (before after : Table) (from : PlaceView → PlaceView) → ((place : PlaceView) → after place ≡ before (from place)) →
    AreRunning ticks before → AreRunning ticks after
AreRunning-moved ticks before after from moved running place prop =
    subst (λ (found : Option Courses). IsCourse prop ticks (course_of (courses_or found) prop)) (sym (moved place)) (running (from place) prop)
