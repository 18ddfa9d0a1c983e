-- Words for the worked examples: two clips, takes of them, layers over one another, and rows of pixels.
use Rattle.std.specs.Prelude.{ℕ, false, List, [], ◌∷◌, Option, Some, None, flat_map, map}
use Rattle.std.specs.List.{range_with_len}
use Rattle.play_types.specs.ClipFile.{ClipView}
use Rattle.play_types.specs.Take.{TakeView}
use Rattle.play_types.specs.Playhead.{head}
use Rattle.play_types.specs.Transition.{cut}
use Rattle.play_types.specs.Setting.{number_at}
use Rattle.play_types.specs.declared.setting.Prop.TheVariants as prop
use Rattle.play_types.specs.declared.drawn.Still.{Still}
use Rattle.play_types.specs.declared.drawn.Still.TheVariants.{Nothing}
use Rattle.play_types.specs.declared.drawn.Drawn.{Drawn}
use Rattle.play_types.specs.declared.geometry.Geometry.{Geometry}
use Rattle.play_types.specs.declared.take.Spec.{Spec}
use Rattle.play_types.specs.declared.take.Spec.TheVariants.{Clip}
use Rattle.history_model.specs.stage.Value.{default_of}
use Rattle.history_model.specs.text.Frames.{frame_bytes}
use Rattle.history_model.specs.pictures.Frame.{scene_pixel}
use Rattle.history_model.specs.pictures.Source.{own_still}
use Rattle.history_model.specs.pictures.Raster.{Pictures, still_pixel}
use Rattle.play_scene.specs.Frames.{FrameView, pixel_in}

-- a raster of one row, without sound
abbrev pub strip : ℕ → Geometry
strip width = record { width = width; height = 1; pairs = 0 }

-- the bytes of opaque pixels that have only red
abbrev pub reds : List ℕ → List ℕ
reds values = flat_map (λ value. 0 ∷ 0 ∷ value ∷ 255 ∷ []) values

-- clip 0 has one frame of four columns, clip 1 has three frames of one pixel, and clip 2 is not readable
abbrev pub media : List (Option ClipView)
media =
    Some (record { version = 1; geometry = strip 4; frames = 1; bytes = reds (10 ∷ 20 ∷ 30 ∷ 40 ∷ []) })
    ∷ Some (record { version = 1; geometry = strip 1; frames = 3; bytes = reds (0 ∷ 80 ∷ 160 ∷ []) })
    ∷ None
    ∷ []

-- a take of a producer, of which `length` frames are played, from the one at `seek` on
abbrev pub played : Spec → ℕ → ℕ → TakeView
played producer seek length =
    record { spec = producer; looped = false; seek = seek; length = length; trans = cut; auto = false }

-- clip 0, and clip 1 from its first frame to its last
abbrev pub bars : TakeView
bars = played (Clip 0) 0 1

abbrev pub steps : TakeView
steps = played (Clip 1) 0 3

-- a layer that shows a still, without a transition and by the default mixer values
abbrev pub layer_of : Still → Drawn
layer_of still = record {
  still = still;
  old = Nothing;
  trans = cut;
  step = 0;
  opacity = number_at (default_of prop.Opacity) 0;
  fill = default_of prop.Fill;
  clip = default_of prop.Clip;
  volume = number_at (default_of prop.Volume) 0;
  keyer = false;
}

-- the frame of channel 1 at the tick before: two columns
abbrev pub frame_before : FrameView
frame_before = record { size = strip 2; bytes = reds (50 ∷ 60 ∷ []); sound = [] }

-- a frame of one column
abbrev pub frame_beside : FrameView
frame_beside = record { size = strip 1; bytes = reds (70 ∷ []); sound = [] }

-- the clips and the frame of channel 1
abbrev pub pictures : Pictures
pictures = record {
  setup = record { channels = strip 2 ∷ []; clips = media };
  frames = λ channel x y. pixel_in frame_before x y;
}

-- the red of each pixel of a raster of `width` columns that shows a take after `ticks` ticks
abbrev pub row_of : TakeView → ℕ → ℕ → List ℕ
row_of take ticks width =
    map (λ x. (still_pixel pictures (strip width) (own_still take.spec (head take ticks)) x 0).r) (range_with_len 0 width)

-- the bytes of a raster of `width` columns that shows stills over one another, the lowest first
abbrev pub bytes_of : List Still → ℕ → List ℕ
bytes_of stills width = frame_bytes width 1 (scene_pixel pictures (strip width) (map layer_of stills))

-- the red of each of its pixels
abbrev pub reds_of : List Still → ℕ → List ℕ
reds_of stills width = map (λ x. (scene_pixel pictures (strip width) (map layer_of stills) x 0).r) (range_with_len 0 width)
