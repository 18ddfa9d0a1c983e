-- The ranges of the numbers of a MIXER.
use Rattle.std.specs.Prelude.{◌≡◌, ◌⊎◌, ℤ, pos}
use Rattle.play_types.specs.Setting.{IsWithin, IsWide}
use Rattle.play_types.specs.declared.setting.Prop.{Prop}
use Rattle.play_types.specs.declared.setting.Prop.TheVariants.{Opacity, Fill, Clip, Volume, Keyer}
use Rattle.play_types.specs.declared.setting.TheConstants.{MICROS_PER_UNIT, MAX_MICROS}

-- a number in the range of a property, in millionths
abbrev pub IsNumber : Prop → ℤ → Type 0
IsNumber Opacity number = IsWithin (pos 0) MICROS_PER_UNIT number
IsNumber Volume number = IsWithin (pos 0) MAX_MICROS number
IsNumber Fill number = IsWide number
IsNumber Clip number = IsWide number
IsNumber Keyer number = (number ≡ pos 0) ⊎ (number ≡ MICROS_PER_UNIT)
