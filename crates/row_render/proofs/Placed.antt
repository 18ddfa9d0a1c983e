-- Where rasters lie in the row of the frame.
use Rattle.std.proofs.Common.{◌≡◌, ℕ, zero, suc, ◌+◌, ◌*◌, ◌/◌, ◌<◌, Bool, true, false, List, length, inl, inr, refl, sym, ap, ◌∙◌, ℤ, pos, negsuc, ◌-ℤ◌, ◌*ℤ◌, nat_abs, lt-ltb, le-ltb, if◌then◌else◌, arith}
use Rattle.std.specs.Prelude.{Option, Some, None}
use Rattle.std.proofs.lemmas.Bool.{cases_lt}
use Rattle.play_types.specs.Setting.{number_at}
use Rattle.play_types.specs.declared.drawn.Drawn.{Drawn}
use Rattle.play_types.specs.declared.geometry.Geometry.{Geometry}
use Rattle.pixel_math.specs.Pixel.{PixelView, transparent}
use Rattle.pixel_math.specs.Arithmetic.{fade, fade_byte}
use Rattle.pixel_math.proofs.Pixels.{fade_whole, same_pixel}
use Rattle.history_model.specs.pictures.Frame.{layer_pixel, placement_of}
use Rattle.history_model.specs.pictures.Placing.{column_in, faded_at, filled_column, floor_div, is_kept, twice_middle, twice_part, visible_column}
use Rattle.history_model.specs.pictures.Raster.{Pictures, raster_pixel}
use Rattle.play_scene.proofs.Fills.{placed-no_row}
use Rattle.lane_blend.specs.Rows.{AreLowered, IsLowered, IsRow, pixel_at, width_of}
use Rattle.row_render.specs.inner.Rasters.{placed_at, shown_pixel}

-- a pixel of a lowered raster, or a transparent one, is lowered
pub shown-lowered : (raster : List ℕ) (column : Option ℕ) → AreLowered raster → IsLowered (shown_pixel (pixel_at raster) column)
shown-lowered raster None low = record { blue = omega arith; green = omega arith; red = omega arith }
shown-lowered raster (Some column) low = low column

-- rasters that are equal within the width show the same columns
shown-column : (width : ℕ) (one other : ℕ → PixelView) (z : ℤ) → ((c : ℕ) → c < width → one c ≡ other c) →
    shown_pixel one (column_in width z) ≡ shown_pixel other (column_in width z)
shown-column width one other (pos c) same = elim (cases_lt c width) [
  | inl lt ↦
      (let is : column_in width (pos c) ≡ Some c = ap (λ (t : Bool). if t then Some c else None) (lt-ltb c width lt) in
      ap (shown_pixel one) is ∙ same c lt ∙ sym (ap (shown_pixel other) is))
  | inr ge ↦
      (let is : column_in width (pos c) ≡ None = ap (λ (t : Bool). if t then Some c else None) (le-ltb c width ge) in
      ap (shown_pixel one) is ∙ sym (ap (shown_pixel other) is))
]
shown-column width one other (negsuc c) same = refl

shown-filled : (width : ℕ) (edge scale : ℤ) (x : ℕ) (one other : ℕ → PixelView) → ((c : ℕ) → c < width → one c ≡ other c) →
    shown_pixel one (filled_column width edge scale x) ≡ shown_pixel other (filled_column width edge scale x)
shown-filled width edge (pos zero) x one other same = refl
shown-filled width edge (pos (suc n)) x one other same =
    shown-column width one other (floor_div (twice_middle x -ℤ twice_part width edge) (pos 2 *ℤ pos (suc n))) same
shown-filled width edge (negsuc n) x one other same =
    shown-column width one other (floor_div (twice_middle x -ℤ twice_part width edge) (pos 2 *ℤ negsuc n)) same

shown-kept : (kept : Bool) (column : Option ℕ) (one other : ℕ → PixelView) → shown_pixel one column ≡ shown_pixel other column →
    shown_pixel one (if kept then column else None) ≡ shown_pixel other (if kept then column else None)
shown-kept true column one other same = same
shown-kept false column one other same = refl

placed-same : (layer : Drawn) (width : ℕ) (one other : ℕ → PixelView) (x : ℕ) → ((c : ℕ) → c < width → one c ≡ other c) →
    placed_at layer width one x ≡ placed_at layer width other x
placed-same layer width one other x same =
    shown-kept (is_kept width (number_at layer.clip 0) (number_at layer.clip 2) x)
    (filled_column width (number_at layer.fill 0) (number_at layer.fill 2) x) one other
    (shown-filled width (number_at layer.fill 0) (number_at layer.fill 2) x one other same)

-- the row of a raster that is laid into the frame
pub placed_rows : (layer : Drawn) (width : ℕ) (raster : ℕ → PixelView) (row new : List ℕ) → IsRow width raster row →
    IsRow width (placed_at layer width (pixel_at row)) new → IsRow width (placed_at layer width raster) new
placed_rows layer width raster row new made placed = record {
  len = placed.len;
  pixels = λ x lt. placed.pixels x lt ∙ placed-same layer width (pixel_at row) raster x made.pixels;
}

-- if the fill and the clip leave every column in its place it is that row itself
pub kept_row : (layer : Drawn) (width : ℕ) (raster : ℕ → PixelView) (row : List ℕ) →
    ((x : ℕ) → x < width → visible_column width layer.fill layer.clip 0 x ≡ Some x) → IsRow width raster row → IsRow width (placed_at layer width raster) row
kept_row layer width raster row kept made = record {
  len = made.len;
  pixels = λ x lt. made.pixels x lt ∙ sym (ap (shown_pixel raster) (kept x lt));
}

-- a transparent pixel stays transparent at every opacity
fade-nothing : (opacity : ℕ) → fade transparent opacity ≡ transparent
fade-nothing opacity =
    let none : fade_byte 0 opacity ≡ 0 = (let no : 0 * opacity ≡ 0 = omega arith in ap (λ (n : ℕ). (n + 500000) / 1000000) no) in
    same_pixel _ _ none none none none

-- a pixel at opacity 0 is transparent
fade-none : (p : PixelView) → fade p 0 ≡ transparent
fade-none p = same_pixel _ _ (gone p.b) (gone p.g) (gone p.r) (gone p.a)
  where
    gone : (byte : ℕ) → fade_byte byte 0 ≡ 0
    gone byte = (let no : byte * 0 ≡ 0 = omega arith in ap (λ (n : ℕ). (n + 500000) / 1000000) no)

-- so is a layer at opacity 0
faded-none : (across down : Option ℕ) (raster : ℕ → ℕ → PixelView) → faded_at across down raster 0 ≡ transparent
faded-none None down raster = refl
faded-none (Some column) None raster = refl
faded-none (Some column) (Some row) raster = fade-none (raster column row)

pub none_shown : (pictures : Pictures) (size : Geometry) (layer : Drawn) (x y : ℕ) → layer.opacity ≡ pos 0 →
    layer_pixel pictures size x y layer ≡ transparent
none_shown pictures size layer x y none =
    let across = visible_column size.width layer.fill layer.clip 0 x in
    let down = visible_column size.height layer.fill layer.clip 1 y in
    let raster = raster_pixel pictures size layer in
    ap (λ (o : ℤ). faded_at across down raster (nat_abs o)) none ∙ faded-none across down raster

-- and a layer whose raster is transparent
faded-clear : (across down : Option ℕ) (raster : ℕ → ℕ → PixelView) (opacity : ℕ) → ((x y : ℕ) → raster x y ≡ transparent) →
    faded_at across down raster opacity ≡ transparent
faded-clear None down raster opacity clear = refl
faded-clear (Some column) None raster opacity clear = refl
faded-clear (Some column) (Some row) raster opacity clear =
    ap (λ (p : PixelView). fade p opacity) (clear column row) ∙ fade-nothing opacity

pub clear_shown : (pictures : Pictures) (size : Geometry) (layer : Drawn) (x y : ℕ) →
    ((column row : ℕ) → raster_pixel pictures size layer column row ≡ transparent) → layer_pixel pictures size x y layer ≡ transparent
clear_shown pictures size layer x y clear =
    faded-clear (visible_column size.width layer.fill layer.clip 0 x) (visible_column size.height layer.fill layer.clip 1 y)
    (raster_pixel pictures size layer) (nat_abs layer.opacity) clear

-- the pixel of a layer, by its row of the raster
fade-placed : (across down : Option ℕ) (line : ℕ) (raster : ℕ → ℕ → PixelView) (opacity : ℕ) → down ≡ Some line →
    fade (shown_pixel (λ (x : ℕ). raster x line) across) opacity ≡ faded_at across down raster opacity
fade-placed None down line raster opacity e = fade-nothing opacity
fade-placed (Some column) down line raster opacity e = sym (ap (λ (d : Option ℕ). faded_at (Some column) d raster opacity) e)

-- the row of a layer at its opacity
pub faded_row : (pictures : Pictures) (size : Geometry) (layer : Drawn) (line y : ℕ) (new : List ℕ) →
    visible_column size.height layer.fill layer.clip 1 y ≡ Some line →
    IsRow size.width (λ x. fade (placed_at layer size.width (λ (c : ℕ). raster_pixel pictures size layer c line) x) (nat_abs layer.opacity)) new →
    IsRow size.width (λ x. layer_pixel pictures size x y layer) new
faded_row pictures size layer line y new down faded = record {
  len = faded.len;
  pixels = λ x lt.
      faded.pixels x lt
      ∙ fade-placed (visible_column size.width layer.fill layer.clip 0 x) (visible_column size.height layer.fill layer.clip 1 y) line
      (raster_pixel pictures size layer) (nat_abs layer.opacity) down;
}

-- at the whole opacity it is that of the raster
pub whole_row : (pictures : Pictures) (size : Geometry) (layer : Drawn) (line y : ℕ) (new : List ℕ) →
    visible_column size.height layer.fill layer.clip 1 y ≡ Some line → layer.opacity ≡ pos 1000000 →
    IsRow size.width (placed_at layer size.width (λ (c : ℕ). raster_pixel pictures size layer c line)) new →
    IsRow size.width (λ x. layer_pixel pictures size x y layer) new
whole_row pictures size layer line y new down whole placed =
    faded_row pictures size layer line y new down (record {
      len = placed.len;
      pixels = λ x lt.
          (let p = placed_at layer size.width (λ (c : ℕ). raster_pixel pictures size layer c line) x in
          placed.pixels x lt ∙ sym (ap (λ (o : ℤ). fade p (nat_abs o)) whole ∙ fade_whole p));
    })

-- a row of the frame that the layer does not reach
pub no_row : (pictures : Pictures) (size : Geometry) (layer : Drawn) (y : ℕ) (row new : List ℕ) → length row ≡ 4 * size.width →
    visible_column size.height layer.fill layer.clip 1 y ≡ None → IsRow (width_of row) (λ i. transparent) new →
    IsRow size.width (λ x. layer_pixel pictures size x y layer) new
no_row pictures size layer y row new long down clear = record {
  len = omega (arith, clear.len, long);
  pixels = λ x lt.
      clear.pixels x (omega (arith, lt, long)) ∙ sym (placed-no_row size (placement_of layer) (raster_pixel pictures size layer) x y down);
}
