-- The pixels of a frame: none has a colour byte above its alpha, if the clips are of version 1.
use Rattle.std.proofs.Common.{◌≡◌, ℕ, ◌+◌, ◌-◌, ◌*◌, ◌/◌, ◌%◌, ◌<◌, ◌≤◌, Bool, true, false, List, [], ◌∷◌, refl, sym, subst, arith, mul-le-mul_right}
use Rattle.std.specs.Prelude.{Option, Some, None, nat_lt, reverse, if◌then◌else◌, nat_abs, unwrap_or, slice_get}
use Rattle.std.proofs.lemmas.Bool.{ltb-true}
use Rattle.std.proofs.lemmas.Nat.{mul-le}
use Rattle.pixel_math.specs.Pixel.{PixelView, colour_pixel, scaled, transparent}
use Rattle.pixel_math.specs.Arithmetic.{fade, key, mix, over}
use Rattle.pixel_math.proofs.Bytes.{div-le-div, mix_byte-le}
use Rattle.play_types.specs.ClipFile.{ClipView}
use Rattle.play_types.specs.Columns.{Column, Old, New, Both, pick}
use Rattle.play_types.specs.declared.clip.TheConstants.{MULTIPLIED}
use Rattle.play_types.specs.declared.drawn.Drawn.{Drawn}
use Rattle.play_types.specs.declared.drawn.Still.{Still}
use Rattle.play_types.specs.declared.drawn.Still.TheVariants.{Nothing, Colour, Frame, Channel}
use Rattle.play_types.specs.declared.event.Event.{Event}
use Rattle.play_types.specs.declared.event.Event.TheVariants.{Do, Batch, Tick, Stop}
use Rattle.play_types.specs.declared.geometry.Geometry.{Geometry}
use Rattle.history_model.specs.pictures.Frame.{composed_pixel, frame_pixel, frames_back, keyed_pixel, layer_pixel, scene_pixel}
use Rattle.history_model.specs.pictures.Media.{Setup, clip_at, prepared_pixel, size}
use Rattle.history_model.specs.pictures.Placing.{faded_at, visible_column}
use Rattle.history_model.specs.pictures.Raster.{Pictures, column_pixel, raster_pixel, scaled_clip, still_pixel}
use Rattle.history_model.specs.pictures.Scene.{scene_back}

-- no colour byte of the pixel is above its alpha
pub record IsLow (p : PixelView) : Type 0 where
  pub blue : p.b ≤ p.a
  pub green : p.g ≤ p.a
  pub red : p.r ≤ p.a

-- the clips of a setup, of which each that is readable is of version 1
abbrev pub AreOfVersion1 : List (Option ClipView) → Type 0
AreOfVersion1 clips = (id : ℕ) (clip : ClipView) → unwrap_or (slice_get clips id) None ≡ Some clip → clip.version ≡ MULTIPLIED

low_transparent : IsLow transparent
low_transparent = record { blue = omega arith; green = omega arith; red = omega arith }

scaled-le : (colour alpha by : ℕ) → colour ≤ alpha → scaled colour by ≤ scaled alpha by
scaled-le colour alpha by le = div-le-div (colour * by + 127) (alpha * by + 127) 255 (omega arith) (omega (arith, mul-le-mul_right by le))

scaled-alpha : (colour alpha : ℕ) → colour < 256 → scaled colour alpha ≤ alpha
scaled-alpha colour alpha byte = let le = mul-le colour alpha 255 alpha (omega (arith, byte)) (omega arith) in omega (arith, le)

low_colour : (value : ℕ) → IsLow (colour_pixel value)
low_colour value = record {
  blue = scaled-alpha (value % 256) _ (omega arith);
  green = scaled-alpha (value / 256 % 256) _ (omega arith);
  red = scaled-alpha (value / 65536 % 256) _ (omega arith);
}

low_over : (s d : PixelView) → IsLow s → IsLow d → IsLow (over s d)
low_over s d upper lower =
    let le = λ (x y : ℕ) (below : x ≤ y). div-le-div (x * (255 - s.a) + 127) (y * (255 - s.a) + 127) 255 (omega arith) (omega (arith, mul-le-mul_right (255 - s.a) below)) in
    record {
      blue = omega (arith, upper.blue, le d.b d.a lower.blue);
      green = omega (arith, upper.green, le d.g d.a lower.green);
      red = omega (arith, upper.red, le d.r d.a lower.red);
    }

low_key : (p : PixelView) (k : ℕ) → IsLow p → IsLow (key p k)
low_key p k h = record { blue = scaled-le p.b p.a k h.blue; green = scaled-le p.g p.a k h.green; red = scaled-le p.r p.a k h.red }

low_fade : (p : PixelView) (opacity : ℕ) → IsLow p → IsLow (fade p opacity)
low_fade p opacity h =
    let le = λ (x y : ℕ) (below : x ≤ y). div-le-div (x * opacity + 500000) (y * opacity + 500000) 1000000 (omega arith) (omega (arith, mul-le-mul_right opacity below)) in
    record { blue = le p.b p.a h.blue; green = le p.g p.a h.green; red = le p.r p.a h.red }

low_mix : (old new : PixelView) (j d : ℕ) → 0 < d → IsLow old → IsLow new → IsLow (mix old new j d)
low_mix old new j d some before after = record {
  blue = mix_byte-le _ _ _ _ j d some before.blue after.blue;
  green = mix_byte-le _ _ _ _ j d some before.green after.green;
  red = mix_byte-le _ _ _ _ j d some before.red after.red;
}

-- a pixel of a clip of version 1
low_prepared : (clip : ClipView) (at : ℕ) → clip.version ≡ MULTIPLIED → IsLow (prepared_pixel clip at)
low_prepared clip at is =
    subst (λ (version : ℕ). IsLow (prepared_pixel (record { version = version; geometry = clip.geometry; frames = clip.frames; bytes = clip.bytes }) at)) (sym is)
    (record { blue = omega arith; green = omega arith; red = omega arith })

low_if : (choice : Bool) (p q : PixelView) → IsLow p → IsLow q → IsLow (if choice then p else q)
low_if true p q first second = first
low_if false p q first second = second

low_scaled_clip : (found : Option ClipView) (frame : ℕ) (raster : Geometry) (x y : ℕ) → ((clip : ClipView) → found ≡ Some clip → clip.version ≡ MULTIPLIED)
    → IsLow (scaled_clip found frame raster x y)
low_scaled_clip None frame raster x y is = low_transparent
low_scaled_clip (Some clip) frame raster x y is =
    low_if (nat_lt frame clip.frames) _ _ (low_prepared clip _ (is clip refl)) low_transparent

-- pictures of which no pixel has a colour byte above its alpha
record AreLow (pictures : Pictures) : Type 0 where
  clips : AreOfVersion1 pictures.setup.clips
  frames : (channel x y : ℕ) → IsLow (pictures.frames channel x y)

module _ (pictures : Pictures) (low : AreLow pictures) where
  low_still : (raster : Geometry) (still : Still) (x y : ℕ) → IsLow (still_pixel pictures raster still x y)
  low_still raster Nothing x y = low_transparent
  low_still raster (Colour value) x y = low_colour value
  low_still raster (Frame id frame) x y = low_scaled_clip (clip_at pictures.setup id) frame raster x y (low.clips id)
  low_still raster (Channel channel) x y = low.frames channel _ _

  low_column : (column : Column) (old new : ℕ → PixelView) (j d : ℕ) → 0 < d → ((x : ℕ) → IsLow (old x)) → ((x : ℕ) → IsLow (new x)) → IsLow (column_pixel column old new j d)
  low_column (Old x) old new j d some before after = before x
  low_column (New x) old new j d some before after = after x
  low_column (Both x) old new j d some before after = low_mix (old x) (new x) j d some (before x) (after x)

  low_raster : (raster : Geometry) (layer : Drawn) (x y : ℕ) → IsLow (raster_pixel pictures raster layer x y)
  low_raster raster layer x y = by_step (nat_lt layer.step layer.trans.duration) refl
    where
      by_step : (runs : Bool) → nat_lt layer.step layer.trans.duration ≡ runs → IsLow (elim runs [
        | true ↦
            column_pixel
            (pick layer.trans.kind layer.trans.leftward layer.step layer.trans.duration raster.width x)
            (λ (column : ℕ). still_pixel pictures raster layer.old column y) (λ (column : ℕ). still_pixel pictures raster layer.still column y)
            layer.step layer.trans.duration
        | false ↦ still_pixel pictures raster layer.still x y
      ])
      by_step true is =
          let some : 0 < layer.trans.duration = omega (arith, ltb-true layer.step layer.trans.duration is) in
          low_column (pick layer.trans.kind layer.trans.leftward layer.step layer.trans.duration raster.width x) _ _ layer.step layer.trans.duration some
          (λ column. low_still raster layer.old column y) (λ column. low_still raster layer.still column y)
      by_step false is = low_still raster layer.still x y

  low_faded : (column row : Option ℕ) (raster : ℕ → ℕ → PixelView) (opacity : ℕ) → ((x y : ℕ) → IsLow (raster x y)) → IsLow (faded_at column row raster opacity)
  low_faded None row raster opacity each = low_transparent
  low_faded (Some column) None raster opacity each = low_transparent
  low_faded (Some column) (Some row) raster opacity each = low_fade (raster column row) opacity (each column row)

  low_layer : (frame : Geometry) (x y : ℕ) (layer : Drawn) → IsLow (layer_pixel pictures frame x y layer)
  low_layer frame x y layer =
      low_faded (visible_column frame.width layer.fill layer.clip 0 x) (visible_column frame.height layer.fill layer.clip 1 y)
      (raster_pixel pictures frame layer) (nat_abs layer.opacity) (low_raster frame layer)

  low_keyed : (placed : Drawn → PixelView) (below : List Drawn) (s : PixelView) → IsLow s → IsLow (keyed_pixel placed below s)
  low_keyed placed [] s h = h
  low_keyed placed (next ∷ below) s h = low_if next.keyer _ _ (low_key s (placed next).r h) h

  low_composed : (placed : Drawn → PixelView) (layers : List Drawn) → ((layer : Drawn) → IsLow (placed layer)) → IsLow (composed_pixel placed layers)
  low_composed placed [] each = low_transparent
  low_composed placed (layer ∷ below) each =
      let under = low_composed placed below each in
      low_if layer.keyer _ _ under (low_over _ _ (low_keyed placed below (placed layer) (each layer)) under)

  low_scene : (frame : Geometry) (layers : List Drawn) (x y : ℕ) → IsLow (scene_pixel pictures frame layers x y)
  low_scene frame layers x y = low_composed (layer_pixel pictures frame x y) (reverse layers) (low_layer frame x y)

module _ (setup : Setup) (clips : AreOfVersion1 setup.clips) where
  low_frames : (back : List Event) (channel x y : ℕ) → IsLow (frames_back setup back channel x y)
  low_frames [] channel x y = low_transparent
  low_frames (Do tag cmd ∷ before) channel x y = low_frames before channel x y
  low_frames (Batch tag cmds ∷ before) channel x y = low_frames before channel x y
  low_frames (Stop tag ∷ before) channel x y = low_frames before channel x y
  low_frames (Tick ∷ before) channel x y =
      low_scene (record { setup = setup; frames = frames_back setup before }) (record { clips = clips; frames = low_frames before })
      (size setup channel) (scene_back before channel) x y

  -- a pixel of a channel has no colour byte above its alpha
  pub low_frame_pixel : (history : List Event) (channel x y : ℕ) → IsLow (frame_pixel setup history channel x y)
  unfolding frame_pixel
  low_frame_pixel history channel x y = low_frames (Tick ∷ reverse history) channel x y
