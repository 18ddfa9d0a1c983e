-- Words for the worked examples: lines, channels and clips that are short to write.
use Rattle.std.specs.Prelude.{ℕ, ◌==◌, Bool, true, false, Result, Ok, List, [], ◌∷◌, ℤ, codes}
use Prim.Native.String.{String}
use Rattle.std.specs.List.{slice_split}
use Rattle.play_types.specs.Config.{ChannelView, ConfigView}
use Rattle.play_types.specs.Media.{MediaNameView}
use Rattle.play_types.specs.Place.{PlaceView}
use Rattle.play_types.specs.Take.{TakeView}
use Rattle.play_types.specs.Transition.{TransView, cut}
use Rattle.play_types.specs.declared.take.Spec.{Spec}
use Rattle.play_types.specs.declared.take.Spec.TheVariants.{Clip}
use Rattle.play_types.specs.declared.transition.Kind.{Kind}
use Rattle.play_types.specs.declared.transition.Curve.{Curve}
use Rattle.play_types.specs.declared.transition.Curve.TheVariants.{Linear}
use Rattle.play_types.specs.declared.setting.Prop.{Prop}
use Rattle.play_types.specs.declared.command.Cmd.{Cmd}
use Rattle.play_types.specs.declared.command.Cmd.TheVariants.{Set}
use Rattle.play_types.specs.declared.parsed.Parsed.{Parsed}
use Rattle.play_types.specs.declared.parsed.Parsed.TheVariants.{Stage}
use Rattle.play_types.specs.declared.parsed.Refusal.{Refusal}
use Rattle.history_model.specs.commands.Command.{parsed}

abbrev channel : ChannelView
channel = record { width = 1; height = 1; pairs = 0; output = codes "one.raw" }

-- a configuration of two channels
abbrev two : ConfigView
two = record { listen = codes "here"; media = codes "media"; rate = 25; connections = 4; journal_limit = 1000; channels = channel ∷ channel ∷ [] }

-- a clip of three frames, and an unreadable one
abbrev media : List MediaNameView
media =
    record { name = codes "BAD"; readable = false; width = 0; height = 0; frames = 0; pairs = 0 }
    ∷ record { name = codes "THREE"; readable = true; width = 1; height = 1; frames = 3; pairs = 0 } ∷ []

-- the result of a line whose words are separated by single spaces
abbrev pub asks : String → Result Parsed Refusal
asks text = parsed two media (slice_split (λ c. c == 32) (codes text))

-- a command of the stage
abbrev pub does : Cmd → Result Parsed Refusal
does command = Ok (Stage command)

-- layer l of channel c
abbrev pub at : ℕ → ℕ → PlaceView
at c l = record { channel = c; layer = l }

-- a transition that goes rightward, or leftward
abbrev pub rightward : Kind → ℕ → TransView
rightward kind duration = record { kind = kind; duration = duration; curve = Linear; leftward = false }

abbrev pub leftward : Kind → ℕ → TransView
leftward kind duration = record { kind = kind; duration = duration; curve = Linear; leftward = true }

-- a transition with another curve
abbrev pub curved : Curve → TransView → TransView
curved curve trans = record trans { curve = curve }

-- a take whose producer is not a clip
abbrev pub plain : Spec → TransView → Bool → TakeView
plain spec trans auto = record { spec = spec; looped = false; seek = 0; length = 0; trans = trans; auto = auto }

-- `length` frames of the clip THREE from frame `seek` on, with a cut
abbrev pub three : ℕ → ℕ → Bool → TakeView
three seek length looped = record { spec = Clip 1; looped = looped; seek = seek; length = length; trans = cut; auto = false }

-- a setting of layer 3 of channel 1, along a curve and along the linear one
abbrev pub set_along : Curve → Prop → List ℤ → ℕ → Bool → Cmd
set_along curve property values duration deferred =
    Set (record { place = at 1 3; prop = property; values = values; duration = duration; curve = curve; deferred = deferred })

abbrev pub set : Prop → List ℤ → ℕ → Bool → Cmd
set property values duration deferred = set_along Linear property values duration deferred
