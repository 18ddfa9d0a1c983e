-- Words for the worked examples: places, takes, events and media that are short to write.
use Rattle.std.specs.Prelude.{ℕ, zero, suc, ◌+◌, ◌/◌, ◌%◌, replicate, Bool, true, false, List, [], ◌∷◌, ℤ, pos, nat_lt, Option, Some, None, flat_map, if◌then◌else◌}
use Rattle.play_types.specs.Place.{PlaceView}
use Rattle.play_types.specs.Take.{TakeView}
use Rattle.play_types.specs.Setting.{SettingView}
use Rattle.play_types.specs.Transition.{TransView, cut}
use Rattle.play_types.specs.ClipFile.{ClipView}
use Rattle.play_types.specs.History.{ticks}
use Rattle.play_types.specs.declared.transition.Kind.{Kind}
use Rattle.play_types.specs.declared.transition.Curve.{Curve}
use Rattle.play_types.specs.declared.transition.Curve.TheVariants.{Linear}
use Rattle.play_types.specs.declared.setting.Prop.{Prop}
use Rattle.play_types.specs.declared.setting.Prop.TheVariants.{Opacity}
use Rattle.play_types.specs.declared.take.Spec.{Spec}
use Rattle.play_types.specs.declared.take.Spec.TheVariants.{Clip, Colour, RouteChannel, RouteLayer}
use Rattle.play_types.specs.declared.command.Cmd.{Cmd}
use Rattle.play_types.specs.declared.command.Cmd.TheVariants.{LoadBg, PlayTake, Set}
use Rattle.play_types.specs.declared.geometry.Geometry.{Geometry}
use Rattle.play_types.specs.declared.event.Event.{Event}
use Rattle.play_types.specs.declared.event.Event.TheVariants.{Do, Batch, Tick}
use Rattle.pixel_math.specs.Pixel.{PixelView, pixel_bytes}
use Rattle.history_model.specs.stage.Act.{Act, act_after}
use Rattle.history_model.specs.pictures.Media.{Setup}
use Rattle.history_model.specs.stage.Life.{Life, Outgoing}
use Rattle.history_model.specs.stage.Live.{state}
use Rattle.history_model.specs.stage.Acts.{acts}
use Rattle.history_model.specs.stage.Answer.{ChannelFrame, row_pixels, channel_frame}
use Rattle.history_model.specs.scripts.Line.{meaning}
use Rattle.history_model.specs.scripts.History.{PlayedLine, Playout, Turn}
use Rattle.history_model.specs.scripts.Output.{plain_config}

-- layer l of channel c
abbrev pub at : ℕ → ℕ → PlaceView
at c l = record { channel = c; layer = l }

-- a command of session 1 of worker 1
abbrev pub ask : Cmd → Event
ask cmd = Do (record { worker = 1; session = 1 }) cmd

-- a batch of session 1 of worker 1
abbrev pub batch : List Cmd → Event
batch cmds = Batch (record { worker = 1; session = 1 }) cmds

-- a transition that goes rightward, or leftward
abbrev pub rightward : Kind → ℕ → TransView
rightward kind duration = record { kind = kind; duration = duration; curve = Linear; leftward = false }

abbrev pub leftward : Kind → ℕ → TransView
leftward kind duration = record { kind = kind; duration = duration; curve = Linear; leftward = true }

-- a transition with another curve
abbrev pub curved : Curve → TransView → TransView
curved curve trans = record trans { curve = curve }

-- a producer that is no clip, with a cut
abbrev pub plain : Spec → TakeView
plain spec = record { spec = spec; looped = false; seek = 0; length = 0; trans = cut; auto = false }

abbrev pub red : TakeView
red = plain (Colour 0xFFFF0000)

abbrev pub blue : TakeView
blue = plain (Colour 0xFF0000FF)

-- a route to a channel, and one to a layer of it
abbrev pub route : ℕ → TakeView
route c = plain (RouteChannel c)

abbrev pub layer_route : ℕ → ℕ → TakeView
layer_route c l = plain (RouteLayer (at c l))

-- the first `length` frames of a clip, with a cut
abbrev pub clip : ℕ → ℕ → TakeView
clip id length = record { spec = Clip id; looped = false; seek = 0; length = length; trans = cut; auto = false }

-- a take that is looped
abbrev pub looped : TakeView → TakeView
looped take = record take { looped = true }

-- a take with a transition, and one that starts by itself
abbrev pub by : TakeView → TransView → TakeView
by take trans = record take { trans = trans }

abbrev pub automatic : TakeView → TakeView
automatic take = record take { auto = true }

abbrev pub plays : PlaceView → TakeView → Event
plays place take = ask (PlayTake place take)

-- a setting to values in millionths, in `duration` ticks
abbrev pub setting : PlaceView → Prop → List ℤ → ℕ → SettingView
setting place prop values duration =
    record { place = place; prop = prop; values = values; duration = duration; curve = Linear; deferred = false }

-- a setting along another curve
abbrev pub set_along : Curve → SettingView → SettingView
set_along curve setting = record setting { curve = curve }

abbrev pub sets : PlaceView → Prop → List ℤ → Event
sets place prop values = ask (Set (setting place prop values 0))

-- a deferred setting to values in millionths, at once when it is committed
abbrev pub deferred : PlaceView → Prop → List ℤ → SettingView
deferred place prop values = record (setting place prop values 0) { deferred = true }

abbrev pub defers : PlaceView → Prop → List ℤ → Event
defers place prop values = ask (Set (deferred place prop values))

-- one number, and four
abbrev pub number : ℤ → List ℤ
number value = value ∷ pos 0 ∷ pos 0 ∷ pos 0 ∷ []

abbrev pub numbers : ℤ → ℤ → ℤ → ℤ → List ℤ
numbers a b c d = a ∷ b ∷ c ∷ d ∷ []

-- `width` columns and one row, with `pairs` pairs of sound
abbrev pub strip : ℕ → ℕ → Geometry
strip width pairs = record { width = width; height = 1; pairs = pairs }

-- the clip of these bytes
abbrev pub film : ℕ → ℕ → ℕ → List ℕ → Option ClipView
film width pairs frames bytes = Some (record { version = 1; geometry = strip width pairs; frames = frames; bytes = bytes })

-- an opaque pixel with only red
abbrev pub reds : List ℕ → List ℕ
reds values = flat_map (λ value. 0 ∷ 0 ∷ value ∷ 255 ∷ []) values

-- a clip of version 2 without sound
abbrev pub straight_film : ℕ → List ℕ → Option ClipView
straight_film width bytes = Some (record { version = 2; geometry = strip width 0; frames = 1; bytes = bytes })

-- the clips of the examples: 0 has four columns, 1 three frames, 2 two columns, 3 one column and two pairs of sound, 4 and 5
-- two columns of half opacity, of which 5 is of version 2
abbrev pub media : List (Option ClipView)
media =
    film 4 0 1 (reds (10 ∷ 20 ∷ 30 ∷ 40 ∷ []))
    ∷ film 1 0 3 (reds (0 ∷ 80 ∷ 160 ∷ []))
    ∷ film 2 0 1 (255 ∷ 255 ∷ 255 ∷ 255 ∷ 128 ∷ 128 ∷ 128 ∷ 255 ∷ [])
    ∷ film 1 2 1 (0 ∷ 0 ∷ 0 ∷ 255 ∷ 0xe8 ∷ 3 ∷ 0x18 ∷ 0xfc ∷ 0xff ∷ 0x7f ∷ 0 ∷ 0x80 ∷ [])
    ∷ film 2 0 1 (0 ∷ 0 ∷ 0x40 ∷ 0x80 ∷ 0 ∷ 0 ∷ 0xff ∷ 0x80 ∷ [])
    ∷ straight_film 2 (0 ∷ 0 ∷ 0x80 ∷ 0x80 ∷ 0 ∷ 0 ∷ 0xff ∷ 0x80 ∷ [])
    ∷ []

-- one channel of one row with `width` columns and no sound, and three channels of one pixel and three pairs
abbrev pub one : ℕ → Setup
one width = record { channels = strip width 0 ∷ []; clips = media }

abbrev pub three : Setup
three = record { channels = strip 1 3 ∷ strip 1 3 ∷ strip 1 3 ∷ []; clips = media }

-- the letter of a hexadecimal digit
abbrev pub hex_digit : ℕ → ℕ
hex_digit digit = if nat_lt digit 10 then 48 + digit else 87 + digit

abbrev pub hex_of : ℕ → List ℕ
hex_of byte = hex_digit (byte / 16) ∷ hex_digit (byte % 16) ∷ []

-- the bytes of row 0 of a channel at the tick after a history, in hexadecimal letters
abbrev pub row_text : Setup → ℕ → List Event → List ℕ
row_text setup channel history =
    flat_map (λ pixel. flat_map hex_of (pixel_bytes pixel)) (row_pixels setup history channel 0)

-- a take put into the background of each of the layers below n of channel 1
abbrev pub loads : ℕ → List Event
loads zero = []
loads (suc n) = ask (LoadBg (at 1 n) red) ∷ loads n

-- `n` deferred settings of channel 1
abbrev pub deferred_acts : ℕ → List Act
deferred_acts zero = []
deferred_acts (suc n) = act_after 0 (Set (deferred (at 1 0) Opacity (number (pos 0)))) ∷ deferred_acts n

-- `n` ticks
abbrev pub ticking : ℕ → List Event
ticking n = replicate n Tick

-- the samples of a channel at the tick after a history
abbrev pub samples_of : Setup → ℕ → List Event → List ℤ
samples_of setup channel history = (channel_frame setup history channel).samples

-- what a place holds after a history
abbrev pub place_after : List Event → PlaceView → Life
place_after history place = state (acts history) (ticks history) place

-- a place with only a foreground, which has no outgoing content and was shown for `shown` ticks: running, or paused
abbrev pub running : TakeView → ℕ → Life
running take shown =
    record { foreground = Some (record { take = take; shown = shown; paused = false; old = None }); background = None }

abbrev pub paused : TakeView → ℕ → Life
paused take shown =
    record { foreground = Some (record { take = take; shown = shown; paused = true; old = None }); background = None }

-- a place with a take in its background
abbrev pub with_background : Life → TakeView → Life
with_background s take = record s { background = Some take }

-- a place whose running foreground replaces outgoing content, and that content
abbrev pub over_old : TakeView → ℕ → Outgoing → Life
over_old take shown old =
    record { foreground = Some (record { take = take; shown = shown; paused = false; old = Some old }); background = None }

abbrev pub old_of : TakeView → ℕ → Bool → Outgoing
old_of take shown paused = record { take = take; shown = shown; paused = paused }

-- what a channel shows
abbrev pub frame_of : List PixelView → List ℤ → ChannelFrame
frame_of pixels samples = record { pixels = pixels; samples = samples }

-- a request of session 1 of worker 1 after these events, with a journal of at most one command, and whether there is no memory
abbrev pub turn_after : List Event → Bool → Turn
turn_after events no_memory = record {
  playout = record { config = record (plain_config 1 1) { journal_limit = 1 }; names = []; clips = []; digests = false };
  events = events;
  tag = record { worker = 1; session = 1 };
  no_memory = no_memory;
}

-- one channel of one pixel without clips, whose frames are written in hexadecimal
abbrev pub one_pixel : Playout
one_pixel = record { config = plain_config 1 1; names = []; clips = []; digests = false }

-- a line of a script, with memory for all of it
abbrev pub played : List ℕ → PlayedLine
played text = record { line = meaning text; given_up = false; no_memory = false }
