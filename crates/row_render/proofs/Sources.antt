-- Rows of pictures that lie in bytes.
use Rattle.std.proofs.Common.{◌≡◌, ℕ, ◌+◌, ◌*◌, ◌<◌, ◌≤◌, List, length, take, drop, slice_index, refl, ap, sym, subst, ◌∙◌, arith, length-drop, length-take-le, div-lt_iff_lt-mul, mul-lt-mul_of_pos_right, mul_comm}
use Rattle.std.proofs.lemmas.Nat.{mul-add-lt, mul-le}
use Rattle.std.proofs.lemmas.List.{get_or-take, get_or-drop}
use Rattle.play_types.specs.ClipFile.{ClipView, IsClip}
use Rattle.play_types.specs.Geometry.{frame_bytes}
use Rattle.pixel_math.specs.Pixel.{pixel_of}
use Rattle.pixel_math.proofs.Pixels.{same_pixel}
use Rattle.clip_format.specs.Preparing.{IsLoweredAt, IsLowered as IsLoweredClip}
use Rattle.history_model.specs.pictures.Media.{pixel_of_bytes}
use Rattle.history_model.specs.pictures.Raster.{scaled_to}
use Rattle.lane_blend.specs.Rows.{IsLowered, IsRow, pixel_at, width_of}
use Rattle.lane_blend.proofs.Rows.{AreLowered-row}
use Rattle.play_scene.specs.Frames.{FrameView, IsFrame}
use Rattle.row_render.specs.inner.Sources.{IsPicture, scaled_pixel}

-- a column of a raster shows one of the picture's
pub scaled_inside : (pw w x : ℕ) → 0 < pw → x < w → scaled_to pw w x < pw
scaled_inside pw w x some inside =
    let less : (2 * x + 1) * pw < (2 * w) * pw = mul-lt-mul_of_pos_right {k = pw} (omega (arith, inside)) some in
    let turned : (2 * w) * pw ≡ pw * (2 * w) = mul_comm (2 * w) pw in
    (div-lt_iff_lt-mul {k = 2 * w} (omega (arith, inside))).1 (omega (arith, less, turned))

-- a byte of a piece of bytes
byte_in : (bytes : List ℕ) (at n k p : ℕ) → k < n → p ≡ at + k → slice_index (take n (drop at bytes)) k ≡ slice_index bytes p
byte_in bytes at n k p lt e = get_or-take n (drop at bytes) k 0 lt ∙ get_or-drop at bytes k 0 ∙ ap (slice_index bytes) (sym e)

-- a pixel of a row that lies in bytes from `at` on
piece_pixel : (bytes : List ℕ) (at w c p : ℕ) → c < w → p ≡ at + 4 * c →
    pixel_at (take (4 * w) (drop at bytes)) c ≡ pixel_of (slice_index bytes p) (slice_index bytes (p + 1)) (slice_index bytes (p + 2)) (slice_index bytes (p + 3))
piece_pixel bytes at w c p lt e =
    same_pixel _ _
    (byte_in bytes at (4 * w) (4 * c) p (omega (arith, lt)) e)
    (byte_in bytes at (4 * w) (4 * c + 1) (p + 1) (omega (arith, lt)) (omega (arith, e)))
    (byte_in bytes at (4 * w) (4 * c + 2) (p + 2) (omega (arith, lt)) (omega (arith, e)))
    (byte_in bytes at (4 * w) (4 * c + 3) (p + 3) (omega (arith, lt)) (omega (arith, e)))

-- if no colour byte is above the alpha none is lowered
lowered_there : (bytes : List ℕ) (p : ℕ) → IsLoweredAt bytes p →
    pixel_of (slice_index bytes p) (slice_index bytes (p + 1)) (slice_index bytes (p + 2)) (slice_index bytes (p + 3)) ≡ pixel_of_bytes bytes p
lowered_there bytes p low = same_pixel _ _ (omega (arith, low.blue)) (omega (arith, low.green)) (omega (arith, low.red)) refl

pub row_column : (bytes : List ℕ) (at w c p : ℕ) → c < w → p ≡ at + 4 * c → IsLoweredAt bytes p →
    pixel_at (take (4 * w) (drop at bytes)) c ≡ pixel_of_bytes bytes p
row_column bytes at w c p lt e low = piece_pixel bytes at w c p lt e ∙ lowered_there bytes p low

-- a row of a picture lies within its bytes
pub row_within : (start w h row n : ℕ) → row < h → start + 4 * w * h ≤ n → start + 4 * (row * w) + 4 * w ≤ n
row_within start w h row n below fits =
    let rows : (row + 1) * w ≤ h * w = mul-le (row + 1) w h w (omega (arith, below)) (omega arith) in
    let step : (row + 1) * w ≡ row * w + w = grind arith in
    let order : 4 * w * h ≡ 4 * (h * w) = grind arith in
    omega (arith, fits, rows, step, order)

-- such a row is one of a picture
pub row_picture : (bytes : List ℕ) (at w : ℕ) → 0 < w → w ≤ 65535 → at + 4 * w ≤ length bytes → ((c : ℕ) → c < w → IsLoweredAt bytes (at + 4 * c)) →
    IsPicture (take (4 * w) (drop at bytes))
row_picture bytes at w some few fits low =
    let row = take (4 * w) (drop at bytes) in
    let rest = length-drop at bytes in
    let long : length row ≡ 4 * w = length-take-le (4 * w) (drop at bytes) (omega (arith, rest, fits)) in
    let is : IsRow w (pixel_at row) row = record { len = long; pixels = λ i lt. refl } in
    let each = λ (c : ℕ) (lt : c < w).
    (let l = low c lt in
    subst IsLowered (sym (piece_pixel bytes at w c (at + 4 * c) lt refl))
    (record { blue = l.blue; green = l.green; red = l.red })) in
    record {
      whole = omega (arith, long);
      some = omega (arith, long, some);
      few = omega (arith, long, few);
      lowered = AreLowered-row w (pixel_at row) row is each;
    }

-- a pixel of a part of a row
pub piece_column : (row : List ℕ) (at n i p : ℕ) → i < n → 4 * p ≡ at + 4 * i → pixel_at (take (4 * n) (drop at row)) i ≡ pixel_at row p
piece_column row at n i p lt e = piece_pixel row at n i (4 * p) lt e

-- the row of a picture whose pixels begin at `start`: that of row y of a raster of `height` rows
abbrev pub picture_row : List ℕ → ℕ → ℕ → ℕ → ℕ → ℕ → List ℕ
picture_row bytes start w h height y = take (4 * w) (drop (start + 4 * (scaled_to h height y * w)) bytes)

-- the pixels of a picture of w columns and h rows lie in the bytes from `start` on
pub record HasPicture (bytes : List ℕ) (start w h : ℕ) : Type 0 where
  pub some_columns : 0 < w
  pub columns : w ≤ 65535
  pub some_rows : 0 < h
  pub fits : start + 4 * w * h ≤ length bytes
  pub lowered : (p : ℕ) → p < w * h → IsLoweredAt bytes (start + 4 * p)

-- a pixel of such a row, by its place in the picture
place_in : (start w r c : ℕ) → start + 4 * (r * w) + 4 * c ≡ start + 4 * (r * w + c)
place_in start w r c = omega arith

pub IsPicture-row : (bytes : List ℕ) (start w h height y : ℕ) → HasPicture bytes start w h → y < height → IsPicture (picture_row bytes start w h height y)
IsPicture-row bytes start w h height y has below =
    let r = scaled_to h height y in
    let inside = scaled_inside h height y has.some_rows below in
    row_picture bytes (start + 4 * (r * w)) w has.some_columns has.columns (row_within start w h r (length bytes) inside has.fits)
    (λ c lt. subst (IsLoweredAt bytes) (sym (place_in start w r c)) (has.lowered (r * w + c) (mul-add-lt r w c h inside lt)))

pub picture_row-shown : (bytes : List ℕ) (start w h height y width x : ℕ) → HasPicture bytes start w h → y < height → x < width →
    pixel_of_bytes bytes (start + 4 * (scaled_to h height y * w + scaled_to w width x)) ≡ scaled_pixel (picture_row bytes start w h height y) width x
picture_row-shown bytes start w h height y width x has below inside =
    let r = scaled_to h height y in
    let c = scaled_to w width x in
    let at = start + 4 * (r * w) in
    let row = picture_row bytes start w h height y in
    let line = scaled_inside h height y has.some_rows below in
    let column = scaled_inside w width x has.some_columns inside in
    let rest = length-drop at bytes in
    let fits = row_within start w h r (length bytes) line has.fits in
    let long : length row ≡ 4 * w = length-take-le (4 * w) (drop at bytes) (omega (arith, rest, fits)) in
    let wide : width_of row ≡ w = omega (arith, long) in
    sym (ap (λ (n : ℕ). pixel_at row (scaled_to n width x)) wide
    ∙ row_column bytes at w c (start + 4 * (r * w + c)) column (sym (place_in start w r c)) (has.lowered (r * w + c) (mul-add-lt r w c h line column)))

-- a frame of a clip has a picture
pub HasPicture-clip : (clip : ClipView) (frame : ℕ) → IsClip clip → IsLoweredClip clip → frame < clip.frames →
    HasPicture clip.bytes (frame * frame_bytes clip.geometry) clip.geometry.width clip.geometry.height
HasPicture-clip clip frame is low lt =
    let size = clip.geometry in
    let next : (frame + 1) * frame_bytes size ≤ clip.frames * frame_bytes size = mul-le (frame + 1) (frame_bytes size) clip.frames (frame_bytes size) (omega (arith, lt)) (omega arith) in
    let step : (frame + 1) * frame_bytes size ≡ frame * frame_bytes size + frame_bytes size = grind arith in
    record {
      some_columns = omega (arith, is.size.some_columns);
      columns = omega (arith, is.size.columns);
      some_rows = omega (arith, is.size.some_rows);
      fits = omega (arith, is.whole, next, step);
      lowered = λ p h. low frame p lt h;
    }

-- and so has the frame of a channel
pub HasPicture-frame : (frame : FrameView) → IsFrame frame → HasPicture frame.bytes 0 frame.size.width frame.size.height
HasPicture-frame frame is = record {
  some_columns = omega (arith, is.size.some_columns);
  columns = omega (arith, is.size.columns);
  some_rows = omega (arith, is.size.some_rows);
  fits = omega (arith, is.bytes);
  lowered = λ p h. let start : 4 * p ≡ 0 + 4 * p = omega arith in subst (IsLoweredAt frame.bytes) start (is.lowered p);
}
