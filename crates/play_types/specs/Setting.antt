-- What contracts see of a setting.
use Rattle.std.specs.Prelude.{◌≡◌, ℕ, ◌==◌, ◌≤◌, ◌⊎◌, Bool, ℤ, pos, neg_ℤ, ◌≤ℤ◌, List, [], ◌∷◌, slice_index_or}
use Rattle.play_types.specs.Place.{PlaceView}
use Rattle.play_types.specs.declared.transition.Curve.{Curve}
use Rattle.play_types.specs.declared.transition.Curve.TheVariants.{Linear}
use Rattle.play_types.specs.declared.transition.TheConstants.{MAX_DURATION}
use Rattle.play_types.specs.declared.setting.TheConstants.{MICROS_PER_UNIT, MAX_MICROS}
use Rattle.play_types.specs.declared.setting.Prop.{Prop}
use Rattle.play_types.specs.declared.setting.Prop.TheVariants.{Opacity, Fill, Clip, Volume, Keyer}

-- the number of a property, by which properties are compared
abbrev pub prop_number : Prop → ℕ
prop_number Opacity = 0
prop_number Fill = 1
prop_number Clip = 2
prop_number Volume = 3
prop_number Keyer = 4

-- whether two properties are equal
abbrev pub is_same_prop : Prop → Prop → Bool
is_same_prop one other = prop_number one == prop_number other

-- a mixer value that is to be reached in `duration` ticks, its numbers in millionths
pub record SettingView : Type 0 where
  pub place : PlaceView
  pub prop : Prop
  pub values : List ℤ
  pub duration : ℕ
  pub curve : Curve
  pub deferred : Bool

-- the number at position `at` of a list, or 0 behind its end
abbrev pub number_at : List ℤ → ℕ → ℤ
number_at values at = slice_index_or values at (pos 0)

-- a number from `low` to `high`, both included
abbrev pub IsWithin : ℤ → ℤ → ℤ → Type 0
IsWithin low high value = (low ≤ℤ value) × (value ≤ℤ high)

-- minus 1000 to 1000, in millionths
abbrev pub IsWide : ℤ → Type 0
IsWide value = IsWithin (neg_ℤ MAX_MICROS) MAX_MICROS value

-- the numbers that the property uses are in its range
abbrev pub AreValues : Prop → List ℤ → Type 0
AreValues Opacity values = IsWithin (pos 0) MICROS_PER_UNIT (number_at values 0)
AreValues Volume values = IsWithin (pos 0) MAX_MICROS (number_at values 0)
AreValues Fill values =
    IsWide (number_at values 0) × IsWide (number_at values 1) × IsWide (number_at values 2) × IsWide (number_at values 3)
AreValues Clip values =
    IsWide (number_at values 0) × IsWide (number_at values 1) × IsWide (number_at values 2) × IsWide (number_at values 3)
AreValues Keyer values = (number_at values 0 ≡ pos 0) ⊎ (number_at values 0 ≡ MICROS_PER_UNIT)

-- the numbers that are kept: those that the property does not use are 0
abbrev pub values_of : Prop → List ℤ → List ℤ
values_of Opacity values = number_at values 0 ∷ pos 0 ∷ pos 0 ∷ pos 0 ∷ []
values_of Volume values = number_at values 0 ∷ pos 0 ∷ pos 0 ∷ pos 0 ∷ []
values_of Fill values = values
values_of Clip values = values
values_of Keyer values = number_at values 0 ∷ pos 0 ∷ pos 0 ∷ pos 0 ∷ []

-- the duration that is kept, in ticks: a keyer changes at once
abbrev pub duration_of : Prop → ℕ → ℕ
duration_of Opacity duration = duration
duration_of Volume duration = duration
duration_of Fill duration = duration
duration_of Clip duration = duration
duration_of Keyer duration = 0

-- the curve that is kept: a keyer has none, and keeps the linear one
abbrev pub kept_curve : Prop → Curve → Curve
kept_curve Opacity curve = curve
kept_curve Volume curve = curve
kept_curve Fill curve = curve
kept_curve Clip curve = curve
kept_curve Keyer curve = Linear

-- the setting made of these parts, without what its property does not use
abbrev pub setting_of : PlaceView → Prop → List ℤ → ℕ → Curve → Bool → SettingView
setting_of place prop values duration curve deferred =
    record { place = place; prop = prop; values = values_of prop values; duration = duration_of prop duration; curve = kept_curve prop curve; deferred = deferred }

-- the numbers and the duration are in range, and what the property does not use is 0
pub record IsSetting (setting : SettingView) : Type 0 where
  pub short : setting.duration ≤ MAX_DURATION
  pub in_range : AreValues setting.prop setting.values
  pub values : values_of setting.prop setting.values ≡ setting.values
  pub duration : duration_of setting.prop setting.duration ≡ setting.duration
  pub curve : kept_curve setting.prop setting.curve ≡ setting.curve
