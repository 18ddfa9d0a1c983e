-- What contracts see of the answers of the stage.
use Rattle.std.specs.Prelude.{◌≡◌, ℕ, ◌-◌, ◌≤◌, ℤ, pos, List, ◌++◌, take, drop, replicate, All}
use Rattle.play_types.specs.Setting.{IsWide}
use Rattle.play_types.specs.declared.place.TheConstants.{MAX_CHANNELS}
use Rattle.play_types.specs.declared.answer.Status.{Status}
use Rattle.play_types.specs.declared.answer.Status.TheVariants.{Empty}

-- at most four numbers in millionths: the first `count` of the four are in use
pub record MicrosView : Type 0 where
  pub values : List ℤ
  pub count : ℕ

-- the numbers that are kept: those from the count on are 0
abbrev pub micros_of : List ℤ → ℕ → MicrosView
micros_of values count = record { values = take count values ++ replicate (4 - count) (pos 0); count = count }

-- at most four numbers, each within minus 1000 to 1000
abbrev pub AreMicros : List ℤ → ℕ → Type 0
AreMicros values count = (count ≤ 4) × All IsWide (take count values)

-- all four numbers are in range, and those from the count on are 0
pub record IsMicros (values : List ℤ) (count : ℕ) : Type 0 where
  pub few : count ≤ 4
  pub in_range : All IsWide values
  pub unused : drop count values ≡ replicate (4 - count) (pos 0)

-- a status for each channel: the first `count` of the sixteen are in use
pub record StatusListView : Type 0 where
  pub channels : List Status
  pub count : ℕ

-- the statuses that are kept: those from the count on are Empty
abbrev pub status_list_of : List Status → ℕ → StatusListView
status_list_of channels count =
    record { channels = take count channels ++ replicate (MAX_CHANNELS - count) Empty; count = count }

-- at most sixteen channels, and Empty from the count on
pub record IsStatusList (channels : List Status) (count : ℕ) : Type 0 where
  pub few : count ≤ MAX_CHANNELS
  pub unused : drop count channels ≡ replicate (MAX_CHANNELS - count) Empty
