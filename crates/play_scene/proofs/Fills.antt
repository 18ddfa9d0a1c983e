-- Where fills and clips lay the raster of a layer into the frame.
use Rattle.std.proofs.Common.{◌≡◌, ◌≢◌, ℕ, zero, suc, ◌<◌, ◌≤◌, ◌+◌, Bool, true, ◌&&◌, List, refl, sym, ap, ◌∙◌, lt-ltb, le-ltb, if◌then◌else◌, ℤ, pos, negsuc, ◌-ℤ◌, ◌+ℤ◌, ◌*ℤ◌, ◌<ℤ◌, ◌≤ℤ◌, SFits, nat_abs, to_z, of_z, w64, arith}
use Rattle.std.specs.Prelude.{Option, Some, None, int_le, int_lt}
use Rattle.std.proofs.lemmas.Int.{ints, to_z-of_z, fits_signed_from_abs}
use Rattle.play_types.specs.Setting.{IsWide, IsWithin, number_at}
use Rattle.play_types.specs.declared.setting.TheConstants.{MICROS_PER_UNIT}
use Rattle.play_types.specs.declared.geometry.Geometry.{Geometry}
use Rattle.pixel_math.specs.Pixel.{PixelView, transparent}
use Rattle.pixel_math.specs.Arithmetic.{fade}
use Rattle.history_model.specs.pictures.Placing.{Placement, column_in, faded_at, filled_column, floor_div, is_kept, placed_pixel, twice_middle, twice_part, visible_column}

-- a number in the range of fills and clips, as a number of 64 bits
wide_fits : (z : ℤ) → IsWide z → to_z w64 (of_z w64 z) ≡ z
wide_fits z h =
    let low = h.0 in
    let high = h.1 in
    let small : nat_abs z ≤ 1000000000 = omega (arith, ints) in
    to_z-of_z w64 z (fits_signed_from_abs w64 z (omega (arith, small)))

-- so is an opacity
pub opacity_fits : (z : ℤ) → IsWithin (pos 0) MICROS_PER_UNIT z → to_z w64 (of_z w64 z) ≡ z
opacity_fits z h =
    let low = h.0 in
    let high = h.1 in
    let small : nat_abs z ≤ 1000000 = omega (arith, ints) in
    to_z-of_z w64 z (fits_signed_from_abs w64 z (omega (arith, small)))

-- the column that is shown by a fill and a clip
pub visible-is : (width : ℕ) (fill clip : List ℤ) (at x : ℕ) (result : Option ℕ) →
    IsWide (number_at fill at) → IsWide (number_at fill (at + 2)) → IsWide (number_at clip at) → IsWide (number_at clip (at + 2)) →
    result ≡ (if is_kept width (to_z w64 (of_z w64 (number_at clip at))) (to_z w64 (of_z w64 (number_at clip (at + 2)))) x
    then filled_column width (to_z w64 (of_z w64 (number_at fill at))) (to_z w64 (of_z w64 (number_at fill (at + 2)))) x else None) →
    visible_column width fill clip at x ≡ result
visible-is width fill clip at x result f s k e is =
    sym (is
    ∙ (λ i. if is_kept width (wide_fits (number_at clip at) k i) (wide_fits (number_at clip (at + 2)) e i) x
    then filled_column width (wide_fits (number_at fill at) f i) (wide_fits (number_at fill (at + 2)) s i) x else None))

-- a placed pixel is the faded one of the raster if a column and a row are shown
pub placed-shown : (frame : Geometry) (placement : Placement) (raster : ℕ → ℕ → PixelView) (x y column row : ℕ) →
    visible_column frame.width placement.fill placement.clip 0 x ≡ Some column →
    visible_column frame.height placement.fill placement.clip 1 y ≡ Some row →
    placed_pixel frame placement raster x y ≡ fade (raster column row) (nat_abs placement.opacity)
placed-shown frame placement raster x y column row across down =
    λ i. faded_at (across i) (down i) raster (nat_abs placement.opacity)

-- and transparent if one of them is not
no_row : (column : Option ℕ) (raster : ℕ → ℕ → PixelView) (opacity : ℕ) → faded_at column None raster opacity ≡ transparent
no_row None raster opacity = refl
no_row (Some column) raster opacity = refl

pub placed-no_column : (frame : Geometry) (placement : Placement) (raster : ℕ → ℕ → PixelView) (x y : ℕ) →
    visible_column frame.width placement.fill placement.clip 0 x ≡ None → placed_pixel frame placement raster x y ≡ transparent
placed-no_column frame placement raster x y none =
    ap (λ (column : Option ℕ).
    faded_at column (visible_column frame.height placement.fill placement.clip 1 y) raster (nat_abs placement.opacity)) none

pub placed-no_row : (frame : Geometry) (placement : Placement) (raster : ℕ → ℕ → PixelView) (x y : ℕ) →
    visible_column frame.height placement.fill placement.clip 1 y ≡ None → placed_pixel frame placement raster x y ≡ transparent
placed-no_row frame placement raster x y none =
    let column = visible_column frame.width placement.fill placement.clip 0 x in
    ap (λ (row : Option ℕ). faded_at column row raster (nat_abs placement.opacity)) none
    ∙ no_row column raster (nat_abs placement.opacity)

-- a fill with a width brings the column of the quotient, if there is one
filled-wide : (width : ℕ) (edge scale : ℤ) (x : ℕ) (column : ℤ) → scale ≢ pos 0 →
    column ≡ floor_div (twice_middle x -ℤ twice_part width edge) (pos 2 *ℤ scale) → filled_column width edge scale x ≡ column_in width column
filled-wide width edge (pos zero) x column some is = absurd (some refl)
filled-wide width edge (pos (suc n)) x column some is = ap (column_in width) (sym is)
filled-wide width edge (negsuc n) x column some is = ap (column_in width) (sym is)

-- so does the quotient of the numbers of 64 bits
pub filled-at : (width : ℕ) (edge scale : ℤ) (x : ℕ) (column : ℤ) → SFits w64 edge → SFits w64 scale → scale ≢ pos 0 →
    column ≡ floor_div (twice_middle x -ℤ twice_part width (to_z w64 (of_z w64 edge))) (pos 2 *ℤ to_z w64 (of_z w64 scale)) →
    filled_column width edge scale x ≡ column_in width column
filled-at width edge scale x column edge_fits scale_fits some is =
    let edge_is : to_z w64 (of_z w64 edge) ≡ edge = to_z-of_z w64 edge edge_fits in
    let scale_is : to_z w64 (of_z w64 scale) ≡ scale = to_z-of_z w64 scale scale_fits in
    filled-wide width edge scale x column some (is ∙ (λ i. floor_div (twice_middle x -ℤ twice_part width (edge_is i)) (pos 2 *ℤ scale_is i)))

-- a number below 0 is no column
pub column-below : (width : ℕ) (column : ℤ) → column <ℤ pos 0 → column_in width column ≡ None
column-below width (pos n) h = let no : n < 0 = omega (arith, ints) in absurd (omega arith)
column-below width (negsuc n) h = refl

-- nor is one from the width on
pub column-beyond : (width : ℕ) (column : ℤ) → pos width ≤ℤ column → column_in width column ≡ None
column-beyond width (pos n) h =
    let past : width ≤ n = omega (arith, ints) in
    ap (λ (t : Bool). if t then Some n else None) (le-ltb n width past)
column-beyond width (negsuc n) h = refl

-- and each between them is one
pub column-inside : (width : ℕ) (column : ℤ) → pos 0 ≤ℤ column → column <ℤ pos width → column_in width column ≡ Some (nat_abs column)
column-inside width (pos n) some h =
    let below : n < width = omega (arith, ints) in
    ap (λ (t : Bool). if t then Some n else None) (lt-ltb n width below)
column-inside width (negsuc n) some h = absurd (omega (arith, ints))

-- the test of a clip, if the first part holds
pub kept-test : (width : ℕ) (edge extent : ℤ) (x : ℕ) (start middle end : ℤ) → start ≡ twice_part width edge → middle ≡ twice_middle x →
    end ≡ twice_part width (edge +ℤ extent) → int_le start middle ≡ true → int_lt middle end ≡ is_kept width edge extent x
kept-test width edge extent x start middle end s m e h =
    ap (λ (t : Bool). t && int_lt middle end) (sym h) ∙ (λ i. int_le (s i) (m i) && int_lt (m i) (e i))
