-- What contracts see of a mixer.
use Rattle.std.specs.Prelude.{◌≡◌, ℕ, ◌-◌, ◌≤◌, List, [], ℤ, slice_index_or}
use Rattle.play_types.specs.Place.{PlaceView}
use Rattle.play_types.specs.Setting.{SettingView}
use Rattle.play_types.specs.declared.setting.Prop.{Prop}
use Rattle.mixer_state.specs.Course.{numbers_at}
use Rattle.mixer_state.specs.Entries.{Entries, course_at, table_of}

-- the mixer values of all places of a number of channels, and the settings that wait
pub record MixerView : Type 0 where
  -- the channels are 1 to this number
  pub channels : ℕ
  -- how many settings spare memory is reserved for
  pub spare : ℕ
  -- the ticks at the latest set or commit, 0 before the first
  pub latest : ℕ
  -- the places that were set and not reset, with the courses of their properties
  pub tuned : Entries
  -- for each channel the settings that wait, the last one first
  pub waiting : List (List SettingView)

-- the value of a property of a place after `t` ticks, which are not below the latest, in millionths
unfoldable pub values_of : MixerView → PlaceView → Prop → ℕ → List ℤ
values_of mixer place prop t = numbers_at (course_at (table_of mixer.tuned) place prop) t

-- the settings of a channel that wait, the last one first
abbrev pub waiting_on : MixerView → ℕ → List SettingView
waiting_on mixer channel = slice_index_or mixer.waiting (channel - 1) []

-- nothing but the spare memory changed
abbrev pub IsAsBefore : MixerView → MixerView → Type 0
IsAsBefore before after = after ≡ record before { spare = after.spare }

-- a change that uses no memory: the channels and the latest ticks stay, and no spare memory is used
pub record UsesNoMemory (before after : MixerView) : Type 0 where
  pub channels : after.channels ≡ before.channels
  pub latest : after.latest ≡ before.latest
  pub spare : before.spare ≤ after.spare
