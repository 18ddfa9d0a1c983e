-- What a mixer keeps.
use Rattle.std.specs.Prelude.{◌≡◌, ℕ, ◌+◌, List, [], length, All, slice_index_or}
use Rattle.play_types.specs.Setting.{SettingView}
use Rattle.mixer_state.specs.Entries.{table_of}
use Rattle.mixer_state.specs.Found.{PlacesView}
use Rattle.mixer_state.specs.Ranges.{AreRunning}

-- each setting is for a place of this channel
abbrev pub AreOn : ℕ → List SettingView → Type 0
AreOn channel settings = All (λ setting. setting.place.channel ≡ channel) settings

-- each channel has a list of waiting settings, the courses are in range and start no later than the latest ticks, and each list has
-- settings of its channel alone
pub record IsKept (places : PlacesView) (latest : ℕ) (waiting : List (List SettingView)) : Type 0 where
  pub counted : length waiting ≡ places.channels
  pub running : AreRunning latest (table_of places.entries)
  pub on_channels : (at : ℕ) → AreOn (at + 1) (slice_index_or waiting at [])
