-- Words for the worked scenes: a clip, a frame of the tick before, and layers with transitions and mixer values, on a raster
-- of five columns and three rows.
use Rattle.std.specs.Prelude.{ℕ, true, List, [], ◌∷◌, Some, ℤ, pos, neg_ℤ, map}
use Rattle.std.specs.List.{range_with_len}
use Rattle.play_types.specs.Transition.{TransView}
use Rattle.play_types.specs.declared.drawn.Still.{Still}
use Rattle.play_types.specs.declared.drawn.Still.TheVariants.{Nothing, Colour, Frame, Channel}
use Rattle.play_types.specs.declared.transition.Kind.TheVariants.{Mix, Push, Slide, Wipe}
use Rattle.play_types.specs.declared.drawn.Drawn.{Drawn}
use Rattle.play_types.specs.declared.geometry.Geometry.{Geometry}
use Rattle.pixel_math.specs.Pixel.{PixelView, colour_value}
use Rattle.history_model.specs.Worked.{leftward, numbers, rightward}
use Rattle.history_model.specs.pictures.Frame.{scene_pixel}
use Rattle.history_model.specs.pictures.Raster.{Pictures}
use Rattle.play_scene.specs.Frames.{pixel_in}
use Rattle.play_scene.specs.Worked.{frame_before, layer_of, strip}

-- a raster without sound
abbrev pub raster : ℕ → ℕ → Geometry
raster width height = record { width = width; height = height; pairs = 0 }

-- the bytes of a clip of one frame with three columns and two rows
abbrev pub tile_bytes : List ℕ
tile_bytes =
    10 ∷ 20 ∷ 30 ∷ 255 ∷ 0 ∷ 0 ∷ 128 ∷ 128 ∷ 200 ∷ 100 ∷ 50 ∷ 255
    ∷ 0 ∷ 64 ∷ 0 ∷ 64 ∷ 90 ∷ 60 ∷ 240 ∷ 255 ∷ 0 ∷ 0 ∷ 0 ∷ 0 ∷ []

-- that clip is clip 0, and channel 1 had a frame of two columns at the tick before
abbrev pub tile_pictures : Pictures
tile_pictures = record {
  setup = record {
    channels = strip 2 ∷ [];
    clips = Some (record { version = 1; geometry = raster 3 2; frames = 1; bytes = tile_bytes }) ∷ [];
  };
  frames = λ channel x y. pixel_in frame_before x y;
}

-- a layer that shows that clip, and one that shows a colour
abbrev pub tile : Drawn
tile = layer_of (Frame 0 0)

abbrev pub coloured : ℕ → Drawn
coloured value = layer_of (Colour value)

-- a layer with this fill, clip or opacity, or as a keyer
abbrev pub filled : Drawn → List ℤ → Drawn
filled layer fill = record layer { fill = fill }

abbrev pub clipped : Drawn → List ℤ → Drawn
clipped layer clip = record layer { clip = clip }

abbrev pub faded : Drawn → ℤ → Drawn
faded layer opacity = record layer { opacity = opacity }

abbrev pub as_keyer : Drawn → Drawn
as_keyer layer = record layer { keyer = true }

-- a layer that replaces a still, at a step of a transition
abbrev pub replacing : Still → TransView → ℕ → Drawn → Drawn
replacing old trans step layer = record layer { old = old; trans = trans; step = step }

-- row y of the raster that shows layers, the lowest first: each pixel as 0xAARRGGBB, its colours multiplied by its alpha
abbrev pub row_of_layers : List Drawn → ℕ → List ℕ
row_of_layers layers y =
    map (λ x. let pixel : PixelView = scene_pixel tile_pictures (raster 5 3) layers x y in colour_value pixel.a pixel.r pixel.g pixel.b)
    (range_with_len 0 5)

-- a colour of which a clip keeps the middle of the two lower rows, the mirrored clip at an opacity, and a translucent colour that is
-- filled upside down; three white layers between them are not shown: one has a fill without width, one a fill outside of the frame,
-- and one a clip without width
abbrev pub placed_layers : List Drawn
placed_layers =
    clipped (coloured 0xFF204060) (numbers (pos 300000) (pos 500000) (pos 500000) (pos 500000))
    ∷ faded
    (clipped
    (filled tile (numbers (pos 850000) (pos 100000) (neg_ℤ (pos 800000)) (pos 700000)))
    (numbers (pos 0) (pos 0) (pos 700000) (pos 1000000)))
    (pos 650000)
    ∷ filled (coloured 0xFFFFFFFF) (numbers (pos 0) (pos 0) (pos 0) (pos 1000000))
    ∷ filled (coloured 0xFFFFFFFF) (numbers (pos 1000000) (pos 0) (pos 1000000) (pos 1000000))
    ∷ clipped (coloured 0xFFFFFFFF) (numbers (pos 200000) (pos 0) (pos 0) (pos 1000000))
    ∷ faded (filled (coloured 0x80FF8000) (numbers (pos 400000) (pos 1100000) (pos 900000) (neg_ℤ (pos 500000)))) (pos 500000)
    ∷ []

-- blue, yellow keyed by the mirrored clip, green keyed by the upper one of two keyers, red above it, and a keyer above all
abbrev pub keyed_layers : List Drawn
keyed_layers =
    coloured 0xFF0000FF
    ∷ as_keyer (filled tile (numbers (pos 1000000) (pos 0) (neg_ℤ (pos 1000000)) (pos 1000000)))
    ∷ faded (coloured 0xFFFFFF00) (pos 800000)
    ∷ as_keyer (coloured 0x80FF0000)
    ∷ as_keyer (clipped (layer_of (Channel 1)) (numbers (pos 0) (pos 0) (pos 500000) (pos 600000)))
    ∷ coloured 0xC000FF00
    ∷ clipped (coloured 0x40FF0000) (numbers (pos 600000) (pos 0) (pos 1000000) (pos 1000000))
    ∷ as_keyer (coloured 0xFFFFFFFF)
    ∷ []

-- a mix to the clip at step 3 of 7, a push leftward at step 2 of 5 in the lower half, a slide of the clip at step 1 of 3 in the
-- first row, a wipe leftward to nothing at step 4 of 7, and a push at its end
abbrev pub changing_layers : List Drawn
changing_layers =
    filled (replacing (Colour 0xFF4080C0) (rightward Mix 7) 3 tile) (numbers (pos 0) (pos 0) (pos 1000000) (pos 2000000))
    ∷ filled
    (replacing (Channel 1) (leftward Push 5) 2 (coloured 0x80FF0000))
    (numbers (pos 0) (pos 500000) (pos 1000000) (pos 500000))
    ∷ clipped (replacing Nothing (rightward Slide 3) 1 tile) (numbers (pos 0) (pos 0) (pos 1000000) (pos 300000))
    ∷ replacing (Colour 0x20FFFFFF) (leftward Wipe 7) 4 (layer_of Nothing)
    ∷ replacing (Colour 0xFFFFFFFF) (rightward Push 6) 6 (coloured 0x10000000)
    ∷ []
