-- Mixer values.
use Rattle.std.specs.Prelude.{ℕ, ◌-◌, List, [], ◌∷◌, ℤ, pos, reverse, Option, Some, None, if◌then◌else◌}
use Rattle.play_types.specs.Place.{PlaceView}
use Rattle.play_types.specs.Curve.{along}
use Rattle.play_types.specs.Setting.{is_same_prop}
use Rattle.play_types.specs.declared.transition.Curve.{Curve}
use Rattle.play_types.specs.declared.transition.Curve.TheVariants.{Linear}
use Rattle.play_types.specs.declared.setting.TheConstants.{MICROS_PER_UNIT}
use Rattle.play_types.specs.declared.setting.Prop.{Prop}
use Rattle.play_types.specs.declared.setting.Prop.TheVariants.{Opacity, Fill, Clip, Volume, Keyer}
use Rattle.play_types.specs.Shape.{shape_of}
use Rattle.play_types.specs.declared.command.Cmd.{Cmd}
use Rattle.play_types.specs.declared.shape.CommandShape.TheVariants as shape
use Rattle.play_types.specs.declared.event.Event.{Event}
use Rattle.history_model.specs.stage.Act.{Act}
use Rattle.history_model.specs.stage.Trail.{tuning}
use Rattle.history_model.specs.stage.Resolved.{resolved_acts}
use Rattle.history_model.specs.stage.Acts.{acts_back}

-- four numbers in millionths
abbrev pub four : ℤ → ℤ → ℤ → ℤ → List ℤ
four a b c d = a ∷ b ∷ c ∷ d ∷ []

-- the value of a property without any setting, in millionths: the numbers that it does not use are 0
abbrev pub default_of : Prop → List ℤ
default_of Opacity = four MICROS_PER_UNIT (pos 0) (pos 0) (pos 0)
default_of Fill = four (pos 0) (pos 0) MICROS_PER_UNIT MICROS_PER_UNIT
default_of Clip = four (pos 0) (pos 0) MICROS_PER_UNIT MICROS_PER_UNIT
default_of Volume = four MICROS_PER_UNIT (pos 0) (pos 0) (pos 0)
default_of Keyer = four (pos 0) (pos 0) (pos 0) (pos 0)

-- the values to be reached, in how many ticks, and along which curve
pub record Aim : Type 0 where
  pub values : List ℤ
  pub duration : ℕ
  pub curve : Curve

-- what a command sets a property to: a reset sets the default at once
abbrev pub aim_of : Cmd → Prop → Option Aim
aim_of cmd prop = elim (shape_of cmd) [
  | shape.Take at take ↦ None
  | shape.Change at ↦ None
  | shape.ClearChannel channel ↦ None
  | shape.SwapLayers a b transforms ↦ None
  | shape.SwapChannels a b transforms ↦ None
  | shape.Set setting ↦ if is_same_prop setting.prop prop then Some (record { values = setting.values; duration = setting.duration; curve = setting.curve }) else None
  | shape.CommitMixer channel ↦ None
  | shape.Reset target ↦ Some (record { values = default_of prop; duration = 0; curve = Linear })
  | shape.Record mark ↦ None
  | shape.Ask query ↦ None
]

-- each number on its way, `ticks` ticks after the start
abbrev pub all_along : Curve → List ℤ → List ℤ → ℕ → ℕ → List ℤ
all_along curve [] to ticks duration = []
all_along curve (from ∷ more) [] ticks duration = []
all_along curve (from ∷ more) (to ∷ others) ticks duration =
    along curve from to ticks duration ∷ all_along curve more others ticks duration

-- the value of a property by the settings and resets of a place, the last one first, after `ticks` ticks
abbrev pub tuned_value : List Act → Prop → ℕ → List ℤ
tuned_value [] prop ticks = default_of prop
tuned_value (act ∷ before) prop ticks = elim (aim_of act.cmd prop) [
  | None ↦ tuned_value before prop ticks
  | Some aim ↦ all_along aim.curve (tuned_value before prop act.ticks) aim.values (ticks - act.ticks) aim.duration
]

-- the value of a property of a place after the acts and `ticks` ticks, in millionths
abbrev pub value_at : List Act → PlaceView → Prop → ℕ → List ℤ
value_at acts place prop ticks = tuned_value (tuning (resolved_acts acts) place) prop ticks

-- the value of a property of a place after a history, when `ticks` ticks have passed, in millionths
unfoldable pub value : List Event → PlaceView → Prop → ℕ → List ℤ
value history place prop ticks = value_at (acts_back (reverse history)) place prop ticks
