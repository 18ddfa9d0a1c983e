-- Words for the worked examples: a configuration, names and documents that are short to write.
use Rattle.std.specs.Prelude.{ℕ, true, List, [], ◌∷◌, codes, None, Option}
use Rattle.json.specs.Print.{print}
use Rattle.play_types.specs.Media.{MediaNameView}
use Rattle.play_types.specs.Take.{TakeView}
use Rattle.play_types.specs.declared.event.Event.{Event}
use Rattle.history_model.specs.Worked.{at, clip}
use Rattle.history_model.specs.scripts.Output.{plain_config}
use Rattle.stage_core.specs.Seen.{seen_layers}
use Rattle.stage_core.specs.declared.seen.LayerView.{LayerView}
use Rattle.view_status.specs.Events.{events_tokens}
use Rattle.view_status.specs.Mixer.{mixer_tokens}
use Rattle.view_status.specs.Status.{SourceView, layer_tokens, status_tokens}
use Rattle.view_status.specs.declared.levels.Levels.{Levels}

-- a clip BARS of 50 frames
abbrev pub bars : List MediaNameView
bars = record { name = codes "BARS"; readable = true; width = 4; height = 2; frames = 50; pairs = 0 } ∷ []

-- frames 10 to 19 of the clip
abbrev pub ten_bars : TakeView
ten_bars = record (clip 0 10) { seek = 10 }

-- the levels of a sound, or of a channel
abbrev pub levels : ℕ → ℕ → Levels
levels left right = record { left = left; right = right }

-- one channel of four columns and two rows, at 25 pulses a second, after a history
abbrev pub source : List Event → SourceView
source history = record { config = plain_config 4 2; names = bars; levels = None; history = history }

-- what is written for such a server, for the first layer of its channel, for a place's mixer properties, and for the events
abbrev pub status_text : Option (List Levels) → List Event → List ℕ
status_text levels history = print (status_tokens (plain_config 4 2) bars levels history)

abbrev pub first_text : List Event → List LayerView → List ℕ
first_text history [] = []
first_text history (layer ∷ layers) = print (layer_tokens (source history) 1 layer)

abbrev pub layer_text : List Event → List ℕ
layer_text history = first_text history (seen_layers history 1)

abbrev pub mixer_text : List Event → List ℕ
mixer_text history = print (mixer_tokens history (at 1 5))

abbrev pub events_text : ℕ → List Event → List ℕ
events_text after history = print (events_tokens bars 25 after history)
