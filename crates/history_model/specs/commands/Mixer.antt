-- The forms of MIXER: position 1 is its place or channel, and position 2 the property, COMMIT or CLEAR.
use Rattle.std.specs.Prelude.{ℕ, ◌+◌, nat_lt, not, ◌&&◌, Bool, if◌then◌else◌, Option, Some, None, Result, Ok, List, [], ◌∷◌, length, ℤ, pos, is_some, option_and_then, unwrap_or, codes}
use Rattle.std.specs.Int.Signed.{le_z}
use Rattle.std.specs.Str.{bytes_eq}
use Rattle.amcp_text.specs.Micros.{micro_of}
use Rattle.play_types.specs.Setting.{SettingView, setting_of}
use Rattle.play_types.specs.Place.{PlaceView}
use Rattle.play_types.specs.Words.{is_word, prop_of}
use Rattle.play_types.specs.declared.setting.Prop.{Prop}
use Rattle.play_types.specs.declared.setting.Prop.TheVariants.{Opacity, Fill, Clip, Volume, Keyer}
use Rattle.play_types.specs.declared.setting.TheConstants.{MICROS_PER_UNIT, MAX_MICROS}
use Rattle.play_types.specs.declared.transition.Curve.{Curve}
use Rattle.play_types.specs.declared.transition.Curve.TheVariants.{Linear}
use Rattle.play_types.specs.declared.transition.TheConstants.{MAX_DURATION}
use Rattle.play_types.specs.declared.command.Cmd.{Cmd}
use Rattle.play_types.specs.declared.command.Cmd.TheVariants as cmd
use Rattle.play_types.specs.declared.parsed.Refusal.{Refusal}
use Rattle.history_model.specs.commands.Line.{Line, ◌>>=◌, curve_at, ended, flag_at, legal, number_at, stands_at, word_at}
use Rattle.history_model.specs.commands.Places.{Area, place_of, area_at}

-- the number, if it is from 0 to `most`, in millionths
abbrev pub up_to : ℤ → ℤ → Option ℤ
up_to most number = if le_z (pos 0) number && le_z number most then Some number else None

-- the value of a word as a number of a property, in millionths. A decimal is within -1000 to 1000
abbrev pub number_of : Prop → List ℕ → Option ℤ
number_of Opacity word = option_and_then (up_to MICROS_PER_UNIT) (micro_of word)
number_of Volume word = option_and_then (up_to MAX_MICROS) (micro_of word)
number_of Fill word = micro_of word
number_of Clip word = micro_of word
number_of Keyer word =
    if bytes_eq word (codes "0") then Some (pos 0)
    else if bytes_eq word (codes "1") then Some MICROS_PER_UNIT
    else None

-- the number of a property at a position
abbrev pub micros_at : Line → ℕ → Prop → Result ℤ Refusal
micros_at line at property = do
  word ← word_at line at
  legal line at (number_of property word)

-- one number, at position 3, and three zeros
abbrev pub one_number : Line → Prop → Result (List ℤ) Refusal
one_number line property = do
  number ← micros_at line 3 property
  Ok (number ∷ pos 0 ∷ pos 0 ∷ pos 0 ∷ [])

-- four numbers, from position 3 on
abbrev pub four_numbers : Line → Prop → Result (List ℤ) Refusal
four_numbers line property = do
  first ← micros_at line 3 property
  second ← micros_at line 4 property
  third ← micros_at line 5 property
  fourth ← micros_at line 6 property
  Ok (first ∷ second ∷ third ∷ fourth ∷ [])

-- the numbers of a property
unfoldable pub numbers_of : Line → Prop → Result (List ℤ) Refusal
numbers_of line Opacity = one_number line Opacity
numbers_of line Fill = four_numbers line Fill
numbers_of line Clip = four_numbers line Clip
numbers_of line Volume = one_number line Volume
numbers_of line Keyer = one_number line Keyer

-- in how many ticks a value is reached, along which curve, and whether the setting is deferred
pub record Timing : Type 0 where
  pub duration : ℕ
  pub curve : Curve
  pub deferred : Bool

-- the timing of a line that has DEFER or no word at a position, and no word after it
abbrev pub deferral_at : Line → ℕ → ℕ → Curve → Result Timing Refusal
deferral_at line at duration curve = do
  deferred ← flag_at line at (codes "DEFER")
  Ok (record { duration = duration; curve = curve; deferred = deferred })

-- whether there is a word at a position that is not DEFER
abbrev pub has_duration : Line → ℕ → Bool
has_duration line at = nat_lt at (length line.words) && not (stands_at line at (codes "DEFER"))

-- the timing after a duration at a position: an optional curve, linear by default, and an optional DEFER
abbrev pub timing_after : Line → ℕ → ℕ → Result Timing Refusal
timing_after line at duration =
    deferral_at line (if is_some (curve_at line (at + 1)) then at + 2 else at + 1) duration (unwrap_or (curve_at line (at + 1)) Linear)

-- the timing from a position on: an optional duration, an optional curve after it, and an optional DEFER
unfoldable pub timing_at : Line → ℕ → Result Timing Refusal
timing_at line at =
    if has_duration line at then
    (do
      duration ← number_at line at 0 MAX_DURATION
      timing_after line at duration)
    else deferral_at line at 0 Linear

-- the timing after the numbers of a property: a keyer has no duration
abbrev pub timing_of : Line → Prop → Result Timing Refusal
timing_of line Opacity = timing_at line 4
timing_of line Fill = timing_at line 7
timing_of line Clip = timing_at line 7
timing_of line Volume = timing_at line 4
timing_of line Keyer = deferral_at line 4 0 Linear

-- the setting of a property to these numbers, with this timing
abbrev pub setting_for : PlaceView → Prop → List ℤ → Timing → SettingView
setting_for place property numbers timing =
    setting_of place property numbers timing.duration timing.curve timing.deferred

-- the query of a property, or its setting if words follow the property
abbrev pub property_command : Line → PlaceView → Prop → Result Cmd Refusal
property_command line place property =
    if nat_lt 3 (length line.words) then
    (do
      numbers ← numbers_of line property
      timing ← timing_of line property
      Ok (cmd.Set (setting_for place property numbers timing)))
    else Ok (cmd.Value place property)

-- the reset of all mixer values of a channel, or of a layer of it
abbrev pub reset : ℕ → Option ℕ → Cmd
reset channel None = cmd.ResetChannel channel
reset channel (Some layer) = cmd.ResetLayer (record { channel = channel; layer = layer })

-- the command of a MIXER with this area at position 1 and this word at 2
abbrev pub mixer_command : Line → Area → List ℕ → Result Cmd Refusal
mixer_command line area word =
    if is_word (codes "COMMIT") word then ended line 3 (cmd.CommitMixer area.channel)
    else if is_word (codes "CLEAR") word then ended line 3 (reset area.channel area.layer)
    else (do
      property ← legal line 2 (prop_of word)
      property_command line (place_of area) property)

-- the command of a MIXER
unfoldable pub mixer : Line → Result Cmd Refusal
mixer line = do
  area ← area_at line 1
  word ← word_at line 2
  mixer_command line area word
