-- The pixels of a frame that was written are those that were written.
use Rattle.std.proofs.Common.{◌≡◌, ℕ, zero, suc, ◌+◌, ◌-◌, ◌*◌, ◌<◌, ◌≤◌, List, ◌++◌, length, slice_index, refl, ap, ap₂, ◌∙◌, arith}
use Rattle.std.specs.Prelude.{flat_map}
use Rattle.std.specs.List.{range_with_len}
use Rattle.std.proofs.lemmas.List.{get_or_append_left, get_or-append_right}
use Rattle.pixel_math.specs.Pixel.{PixelView, lowered, pixel_bytes}
use Rattle.pixel_math.proofs.Pixels.{same_pixel}
use Rattle.history_model.specs.text.Frames.{frame_bytes}
use Rattle.play_scene.specs.Frames.{FrameView, Shows, pixel_in}
use Rattle.play_scene.proofs.Rows.{length-pieces}

one_more : (size k j : ℕ) → size * suc k + j ≡ size * k + j + size
one_more size k j = grind arith

-- a byte of pieces of one length, by its piece and its place there
byte_of_pieces : (f : ℕ → List ℕ) (size first count k j : ℕ) → ((n : ℕ) → length (f n) ≡ size) → k < count → j < size →
    slice_index (flat_map f (range_with_len first count)) (size * k + j) ≡ slice_index (f (first + k)) j
byte_of_pieces f size first zero k j each h small = absurd (omega (arith, h))
byte_of_pieces f size first (suc count) zero j each h small =
    let rest = flat_map f (range_with_len (first + 1) count) in
    let place : size * 0 + j ≡ j = grind arith in
    let same : first ≡ first + 0 = omega arith in
    ap (slice_index (f first ++ rest)) place
    ∙ get_or_append_left (f first) rest 0 j (omega (arith, each first, small))
    ∙ ap (λ (n : ℕ). slice_index (f n) j) same
byte_of_pieces f size first (suc count) (suc k) j each h small =
    let rest = flat_map f (range_with_len (first + 1) count) in
    let step = one_more size k j in
    let back : size * suc k + j - size ≡ size * k + j = omega (arith, step) in
    let same : first + 1 + k ≡ first + suc k = omega arith in
    get_or-append_right (f first) rest size (size * suc k + j) 0 (each first) (omega (arith, step))
    ∙ ap (slice_index rest) back
    ∙ byte_of_pieces f size (first + 1) count k j each (omega (arith, h)) small
    ∙ ap (λ (n : ℕ). slice_index (f n) j) same

in_row : (width x y j : ℕ) → 4 * (y * width + x) + j ≡ (4 * width) * y + (4 * x + j)
in_row width x y j = grind arith

-- a byte of a frame, by its column, its row and its place in the pixel
byte_of_frame : (width height : ℕ) (pixel : ℕ → ℕ → PixelView) (x y j : ℕ) → x < width → y < height → j < 4 →
    slice_index (frame_bytes width height pixel) (4 * (y * width + x) + j) ≡ slice_index (pixel_bytes (pixel x y)) j
byte_of_frame width height pixel x y j h k small =
    let row = λ (n : ℕ). flat_map (λ (m : ℕ). pixel_bytes (pixel m n)) (range_with_len 0 width) in
    let rows = byte_of_pieces row (4 * width) 0 height y (4 * x + j)
    (λ n. length-pieces (λ (m : ℕ). pixel_bytes (pixel m n)) 4 0 width (λ m. refl)) k (omega (arith, h, small)) in
    let columns = byte_of_pieces (λ (m : ℕ). pixel_bytes (pixel m (0 + y))) 4 0 width x j (λ m. refl) h small in
    let column : 0 + x ≡ x = omega arith in
    let line : 0 + y ≡ y = omega arith in
    ap (slice_index (frame_bytes width height pixel)) (in_row width x y j)
    ∙ rows ∙ columns
    ∙ ap₂ (λ (m n : ℕ). slice_index (pixel_bytes (pixel m n)) j) column line

lowered_same : (p : PixelView) → p.b ≤ p.a → p.g ≤ p.a → p.r ≤ p.a → lowered p.b p.g p.r p.a ≡ p
lowered_same p b g r = same_pixel _ _ (omega (arith, b)) (omega (arith, g)) (omega (arith, r)) refl

-- a frame that shows a picture has its pixels
pub pixel_in-shown : (frame : FrameView) (pixel : ℕ → ℕ → PixelView) (x y : ℕ) → Shows frame pixel →
    x < frame.size.width → y < frame.size.height → pixel_in frame x y ≡ pixel x y
pixel_in-shown frame pixel x y shown h k =
    let w = frame.size.width in
    let at = 4 * (y * w + x) in
    let p = pixel x y in
    let byte = λ (j : ℕ) (small : j < 4). (ap (λ (bytes : List ℕ). slice_index bytes (at + j)) shown.bytes ∙ byte_of_frame w frame.size.height pixel x y j h k small) in
    let start : at ≡ at + 0 = omega arith in
    let b : slice_index frame.bytes at ≡ p.b = ap (slice_index frame.bytes) start ∙ byte 0 (omega arith) in
    let g : slice_index frame.bytes (at + 1) ≡ p.g = byte 1 (omega arith) in
    let r : slice_index frame.bytes (at + 2) ≡ p.r = byte 2 (omega arith) in
    let a : slice_index frame.bytes (at + 3) ≡ p.a = byte 3 (omega arith) in
    let low = shown.whole.lowered (y * w + x) in
    (λ i. lowered (b i) (g i) (r i) (a i))
    ∙ lowered_same p (omega (arith, b, a, low.blue)) (omega (arith, g, a, low.green)) (omega (arith, r, a, low.red))
