-- The producer of LOADBG, LOAD and PLAY, and the take that it makes with the options.
use Rattle.std.specs.Prelude.{ℕ, ◌+◌, ◌-◌, ◌==◌, nat_lt, min, ◌&&◌, Bool, if◌then◌else◌, Option, Some, None, Result, Ok, Err, List, length, drop, take, slice_index, codes}
use Rattle.std.specs.Result.{result_ok}
use Rattle.std.specs.List.{find, list_all, enumerate_from}
use Rattle.std.specs.Char.{is_ascii_hexdigit}
use Rattle.std.specs.Str.Parse.{digits_value}
use Rattle.play_types.specs.Media.{MediaNameView}
use Rattle.play_types.specs.Take.{TakeView, take_of}
use Rattle.play_types.specs.declared.take.Spec.{Spec}
use Rattle.play_types.specs.declared.take.Spec.TheVariants.{Clip, Colour, RouteChannel, RouteLayer}
use Rattle.play_types.specs.declared.parsed.Refusal.{Refusal}
use Rattle.play_types.specs.declared.parsed.Refusal.TheVariants.{NotFound, Unreadable}
use Rattle.play_types.specs.Words.{is_word, is_same_name}
use Rattle.history_model.specs.commands.Line.{Line, ◌>>=◌, legal, word_at}
use Rattle.history_model.specs.commands.Places.{area_of}
use Rattle.history_model.specs.commands.Options.{Options, options_at}

-- a producer, and how many frames its clip has, 0 if it is no clip
pub record Producer : Type 0 where
  pub spec : Spec
  pub frames : ℕ

-- a producer that is no clip
abbrev pub plain : Spec → Producer
plain spec = record { spec = spec; frames = 0 }

-- a word that begins with `#`
abbrev pub is_colour_word : List ℕ → Bool
is_colour_word word = slice_index word 0 == 35

-- the colour 0xAARRGGBB of eight hexadecimal digits, or of six, whose alpha is FF
abbrev pub colour_of_digits : List ℕ → Option ℕ
colour_of_digits digits =
    if list_all is_ascii_hexdigit digits && (length digits == 8) then Some (digits_value 16 digits)
    else if list_all is_ascii_hexdigit digits && (length digits == 6) then Some (0xFF000000 + digits_value 16 digits)
    else None

-- a word that begins with `route://`
abbrev pub is_route_word : List ℕ → Bool
is_route_word word = is_word (codes "ROUTE://") (take 8 word)

-- a route to a channel, or to a layer of it
abbrev pub route_to : ℕ → Option ℕ → Spec
route_to channel None = RouteChannel channel
route_to channel (Some layer) = RouteLayer (record { channel = channel; layer = layer })

-- the colour that a word names
abbrev pub named_colour : List ℕ → Option ℕ
named_colour word =
    if is_word (codes "EMPTY") word then Some 0x00000000
    else if is_word (codes "BLACK") word then Some 0xFF000000
    else if is_word (codes "WHITE") word then Some 0xFFFFFFFF
    else if is_word (codes "RED") word then Some 0xFFFF0000
    else if is_word (codes "GREEN") word then Some 0xFF00FF00
    else if is_word (codes "BLUE") word then Some 0xFF0000FF
    else None

-- the first clip of this name in the media table, with its position there
abbrev pub clip_named : List MediaNameView → List ℕ → Option (ℕ × MediaNameView)
clip_named media word = find (λ entry. is_same_name entry.1.name word) (enumerate_from 0 media)

-- a clip of the media table as a producer: NotFound if there is none, Unreadable if its file is unreadable
abbrev pub clip_producer : Line → Option (ℕ × MediaNameView) → Result Producer Refusal
clip_producer line None = Err (NotFound line.name)
clip_producer line (Some entry) =
    if entry.1.readable then Ok (record { spec = Clip entry.0; frames = entry.1.frames }) else Err (Unreadable line.name)

-- a named colour, or else a clip
abbrev pub named_producer : Line → List ℕ → Option ℕ → Result Producer Refusal
named_producer line word (Some value) = Ok (plain (Colour value))
named_producer line word None = clip_producer line (clip_named line.media word)

-- the producer that the word at a position names
unfoldable pub producer_of : Line → ℕ → List ℕ → Result Producer Refusal
producer_of line at word =
    if is_colour_word word then
    (do
      value ← legal line at (colour_of_digits (drop 1 word))
      Ok (plain (Colour value)))
    else if is_route_word word then
    (do
      area ← legal line at (result_ok (area_of line at (drop 8 word)))
      Ok (plain (route_to area.channel area.layer)))
    else named_producer line word (named_colour word)

-- how many frames of a clip are played, if `rest` are left from the first played frame on: all of them, or at most the given length
abbrev pub played_length : Option ℕ → ℕ → ℕ
played_length None rest = rest
played_length (Some length) rest = min length rest

-- the take of a producer with these options, of which `length` frames are played
abbrev pub take_for : Spec → Options → ℕ → TakeView
take_for spec options length = take_of spec options.looped options.seek length options.transition options.auto

-- the take of a producer with these options, none if it is a clip of `frames` frames and its first frame to play is not one of them
abbrev pub take_with : Options → ℕ → Spec → Option TakeView
take_with options frames (Clip id) =
    if nat_lt options.seek frames
    then Some (take_for (Clip id) options (played_length options.length (frames - options.seek)))
    else None
take_with options frames (Colour value) = Some (take_for (Colour value) options 0)
take_with options frames (RouteChannel channel) = Some (take_for (RouteChannel channel) options 0)
take_with options frames (RouteLayer place) = Some (take_for (RouteLayer place) options 0)

-- the take of the producer at a position: the options, which follow the producer, are checked before it
unfoldable pub take_at : Line → ℕ → Result TakeView Refusal
take_at line at = do
  options ← options_at line (at + 1)
  word ← word_at line at
  producer ← producer_of line at word
  legal line at (take_with options producer.frames producer.spec)
