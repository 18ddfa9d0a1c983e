-- Commands as they are printed: a name and words, with one space between them. A client's line of this text asks for the
-- command.
use Rattle.std.specs.Prelude.{ℕ, zero, suc, ◌/◌, ◌%◌, ◌^◌, ℤ, Bool, true, false, if◌then◌else◌, List, [], ◌∷◌, ◌++◌, map, take, flat_map, slice_get, codes, decimal}
use Rattle.std.specs.Option.{option_map_or}
use Rattle.std.specs.Fmt.{digit_glyph}
use Rattle.amcp_text.specs.Micros.{printed_micro}
use Rattle.amcp_text.specs.Escapes.{quoted}
use Rattle.play_types.specs.Place.{PlaceView}
use Rattle.play_types.specs.RecNames.{is_rec_word}
use Rattle.play_types.specs.Media.{MediaNameView}
use Rattle.play_types.specs.Take.{TakeView}
use Rattle.play_types.specs.Transition.{TransView}
use Rattle.play_types.specs.Setting.{SettingView}
use Rattle.play_types.specs.Words.{curve_text, kind_text, name_text, prop_text}
use Rattle.play_types.specs.Commands.{command_name}
use Rattle.play_types.specs.declared.take.Spec.{Spec}
use Rattle.play_types.specs.declared.take.Spec.TheVariants.{Clip, Colour, RouteChannel, RouteLayer}
use Rattle.play_types.specs.declared.transition.Kind.{Kind}
use Rattle.play_types.specs.declared.transition.Kind.TheVariants.{Cut, Mix, Push, Slide, Wipe}
use Rattle.play_types.specs.declared.setting.Prop.{Prop}
use Rattle.play_types.specs.declared.setting.Prop.TheVariants as prop
use Rattle.play_types.specs.Shape.{shape_of}
use Rattle.play_types.specs.declared.command.Cmd.{Cmd}
use Rattle.play_types.specs.declared.shape.CommandShape.TheVariants as shape
use Rattle.play_types.specs.declared.shape.Target.{Target}
use Rattle.play_types.specs.declared.shape.Target.TheVariants as target
use Rattle.play_types.specs.declared.shape.Recording.{Recording}
use Rattle.play_types.specs.declared.shape.Recording.TheVariants as recording
use Rattle.play_types.specs.declared.shape.Query.TheVariants as query
use Rattle.history_model.specs.stage.Answer.{number_count}

-- a word of a printed command: printed as it is, or a name in quotation marks
pub data Word : Type 0 where
  Plain : List ℕ → Word
  Quoted : List ℕ → Word

-- the characters of a word: a name in quotation marks has its escapes
abbrev pub word_text : Word → List ℕ
word_text (Plain word) = word
word_text (Quoted name) = quoted name

-- the word that is read back from the characters of a word
abbrev pub word_meant : Word → List ℕ
word_meant (Plain word) = word
word_meant (Quoted name) = name

-- a number in digits, without leading zeros
abbrev pub number_word : ℕ → Word
number_word number = Plain (decimal number)

-- a channel and a layer of it
abbrev pub place_text : PlaceView → List ℕ
place_text place = decimal place.channel ++ 45 ∷ decimal place.layer

abbrev pub place_word : PlaceView → Word
place_word place = Plain (place_text place)

-- the word of a target: a place, or a channel
abbrev pub target_word : Target → Word
target_word (target.Layer place) = place_word place
target_word (target.Channel channel) = number_word channel

-- this word, if the flag is set
abbrev pub flag_words : Bool → List ℕ → List Word
flag_words true word = Plain word ∷ []
flag_words false word = []

-- the last `count` hexadecimal digits of a number, in capitals
abbrev pub capital_digits : ℕ → ℕ → List ℕ
capital_digits zero number = []
capital_digits (suc count) number = digit_glyph true (number / 16 ^ count % 16) ∷ capital_digits count number

-- the name of a clip, by its position in the media table: no characters if there is no such position
abbrev pub clip_name_at : List MediaNameView → ℕ → List ℕ
clip_name_at media id = option_map_or (λ (clip : MediaNameView). clip.name) (slice_get media id) []

-- the word of a producer: the name of a clip, `#` and the eight digits of a colour 0xAARRGGBB, or a route to a channel or a layer
abbrev pub producer_word : List MediaNameView → Spec → Word
producer_word media (Clip id) = Quoted (clip_name_at media id)
producer_word media (Colour value) = Plain (35 ∷ capital_digits 8 value)
producer_word media (RouteChannel channel) = Plain (codes "route://" ++ decimal channel)
producer_word media (RouteLayer place) = Plain (codes "route://" ++ place_text place)

-- the options of a clip: whether it is looped, its first frame, and how many frames are played
abbrev pub part_words : Spec → TakeView → List Word
part_words (Clip id) take =
    flag_words take.looped (codes "LOOP")
    ++ Plain (codes "SEEK") ∷ number_word take.seek ∷ Plain (codes "LENGTH") ∷ number_word take.length ∷ []
part_words (Colour value) take = []
part_words (RouteChannel channel) take = []
part_words (RouteLayer place) take = []

abbrev pub direction_text : Bool → List ℕ
direction_text true = codes "LEFT"
direction_text false = codes "RIGHT"

-- the words of a transition of this kind: its duration in ticks, its curve and its direction
abbrev pub timed_words : Kind → TransView → List Word
timed_words kind trans =
    Plain (kind_text kind) ∷ number_word trans.duration ∷ Plain (curve_text trans.curve) ∷ Plain (direction_text trans.leftward) ∷ []

-- the words of a transition: none for a cut
abbrev pub transition_words : Kind → TransView → List Word
transition_words Cut trans = []
transition_words Mix trans = timed_words Mix trans
transition_words Push trans = timed_words Push trans
transition_words Slide trans = timed_words Slide trans
transition_words Wipe trans = timed_words Wipe trans

-- a producer and its options
abbrev pub take_words : List MediaNameView → TakeView → List Word
take_words media take =
    producer_word media take.spec
    ∷ part_words take.spec take ++ (transition_words take.trans.kind take.trans ++ flag_words take.auto (codes "AUTO"))

-- a number in millionths
abbrev pub micro_word : ℤ → Word
micro_word value = Plain (printed_micro value)

-- in how many ticks a value is reached, and along which curve: a keyer has neither
abbrev pub timing_words : Prop → SettingView → List Word
timing_words prop.Opacity setting = number_word setting.duration ∷ Plain (curve_text setting.curve) ∷ []
timing_words prop.Fill setting = number_word setting.duration ∷ Plain (curve_text setting.curve) ∷ []
timing_words prop.Clip setting = number_word setting.duration ∷ Plain (curve_text setting.curve) ∷ []
timing_words prop.Volume setting = number_word setting.duration ∷ Plain (curve_text setting.curve) ∷ []
timing_words prop.Keyer setting = []

-- a property, its numbers, its timing, and whether the setting is deferred
abbrev pub setting_words : SettingView → List Word
setting_words setting =
    Plain (prop_text setting.prop) ∷ map micro_word (take (number_count setting.prop) setting.values)
    ++ (timing_words setting.prop setting ++ flag_words setting.deferred (codes "DEFER"))

-- the name of a recording, in quotation marks if it is no word that may name one
abbrev pub recording_word : List ℕ → Word
recording_word name = if is_rec_word name then Plain name else Quoted name

-- the channel of a mark, FILE, and the name of the recording that begins
abbrev pub recording_words : Recording → List Word
recording_words (recording.Begin channel name) = number_word channel ∷ Plain (codes "FILE") ∷ recording_word name ∷ []
recording_words (recording.End channel) = number_word channel ∷ Plain (codes "FILE") ∷ []

-- the words after the name of a command
abbrev pub arguments : List MediaNameView → Cmd → List Word
arguments media cmd = elim (shape_of cmd) [
  | shape.Take place take ↦ place_word place ∷ take_words media take
  | shape.Change place ↦ place_word place ∷ []
  | shape.ClearChannel channel ↦ number_word channel ∷ []
  | shape.SwapLayers one other transforms ↦ place_word one ∷ place_word other ∷ flag_words transforms (codes "TRANSFORMS")
  | shape.SwapChannels one other transforms ↦ number_word one ∷ number_word other ∷ flag_words transforms (codes "TRANSFORMS")
  | shape.Set setting ↦ place_word setting.place ∷ setting_words setting
  | shape.CommitMixer channel ↦ number_word channel ∷ Plain (codes "COMMIT") ∷ []
  | shape.Reset target ↦ target_word target ∷ Plain (codes "CLEAR") ∷ []
  | shape.Record mark ↦ recording_words mark
  | shape.Ask (query.Value place prop) ↦ place_word place ∷ Plain (prop_text prop) ∷ []
  | shape.Ask query.Status ↦ []
]

-- the words of a command, its name first
abbrev pub command_words : List MediaNameView → Cmd → List Word
command_words media cmd = Plain (name_text (command_name cmd)) ∷ arguments media cmd

-- the characters of a command: the name, and each word after a space
unfoldable pub command_text : List MediaNameView → Cmd → List ℕ
command_text media cmd = name_text (command_name cmd) ++ flat_map (λ word. 32 ∷ word_text word) (arguments media cmd)
