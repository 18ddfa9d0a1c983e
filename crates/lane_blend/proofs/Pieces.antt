-- Rows as their pixels one after another, and what the calls make of rows of known pixels: for proofs in the crates above.
use Rattle.std.proofs.Common.{◌≡◌, ℕ, ◌+◌, ◌*◌, ◌/◌, ◌%◌, ◌<◌, zero, suc, List, ◌++◌, length, get_or, sym, subst, ap, ap₂, ◌∙◌, arith, add-zero}
use Rattle.std.specs.Prelude.{flat_map}
use Rattle.std.specs.List.{range_with_len}
use Rattle.std.proofs.lemmas.List.{ext_get_or}
use Rattle.pixel_math.specs.Pixel.{PixelView, pixel_bytes}
use Rattle.pixel_math.specs.Arithmetic.{over, fade, key, mix}
use Rattle.pixel_math.proofs.Pixels.{same_pixel}
use Rattle.lane_blend.specs.Rows.{pixel_at, width_of, IsRow}

-- the bytes of `width` pixels from the one at `first` on
abbrev pub pieces : (ℕ → PixelView) → ℕ → ℕ → List ℕ
pieces pixel first width = flat_map (λ i. pixel_bytes (pixel i)) (range_with_len first width)

length-pieces : (pixel : ℕ → PixelView) (first width : ℕ) → length (pieces pixel first width) ≡ 4 * width
length-pieces pixel first zero = omega arith
length-pieces pixel first (suc width) = omega (arith, length-pieces pixel (first + 1) width)

-- a byte past the first pixel
past_pixel : (p : PixelView) (rest : List ℕ) (m n : ℕ) → m ≡ n + 4 → get_or (pixel_bytes p ++ rest) m 0 ≡ get_or rest n 0
past_pixel p rest m n e =
    let four : m ≡ suc (suc (suc (suc n))) = omega arith in
    ap (λ (k : ℕ). get_or (pixel_bytes p ++ rest) k 0) four

-- the pixel at column i of them
pixel-pieces : (pixel : ℕ → PixelView) (first width i : ℕ) → i < width → pixel_at (pieces pixel first width) i ≡ pixel (first + i)
pixel-pieces pixel first zero i lt = absurd (omega arith)
pixel-pieces pixel first (suc width) zero lt = ap pixel (omega arith)
pixel-pieces pixel first (suc width) (suc i) lt =
    let rest = pieces pixel (first + 1) width in
    same_pixel _ _
    (past_pixel (pixel first) rest (4 * suc i) (4 * i) (omega arith))
    (past_pixel (pixel first) rest (4 * suc i + 1) (4 * i + 1) (omega arith))
    (past_pixel (pixel first) rest (4 * suc i + 2) (4 * i + 2) (omega arith))
    (past_pixel (pixel first) rest (4 * suc i + 3) (4 * i + 3) (omega arith))
    ∙ pixel-pieces pixel (first + 1) width i (omega arith)
    ∙ ap pixel (omega arith)

-- pixels one after another are their row
pub IsRow-pieces : (width : ℕ) (pixel : ℕ → PixelView) → IsRow width pixel (pieces pixel 0 width)
IsRow-pieces width pixel = record {
  len = length-pieces pixel 0 width;
  pixels = λ i lt. pixel-pieces pixel 0 width i lt ∙ ap pixel (omega arith);
}

-- equal pixels have equal bytes
same_byte : (row other : List ℕ) (i c : ℕ) → c < 4 → pixel_at row i ≡ pixel_at other i → get_or row (4 * i + c) 0 ≡ get_or other (4 * i + c) 0
same_byte row other i zero lt e = rw add-zero (ap (λ (p : PixelView). p.b) e)
same_byte row other i (suc zero) lt e = ap (λ (p : PixelView). p.g) e
same_byte row other i (suc (suc zero)) lt e = ap (λ (p : PixelView). p.r) e
same_byte row other i (suc (suc (suc zero))) lt e = ap (λ (p : PixelView). p.a) e
same_byte row other i (suc (suc (suc (suc c)))) lt e = absurd (omega arith)

-- rows of the same pixels have the same bytes
pub same_row : (width : ℕ) (pixel : ℕ → PixelView) (first second : List ℕ) → IsRow width pixel first → IsRow width pixel second → first ≡ second
same_row width pixel first second h k =
    ext_get_or 0 first second (omega (arith, h.len, k.len)) (λ n lt. byte n (omega (arith, h.len)))
  where
    byte : (n : ℕ) → n < 4 * width → get_or first n 0 ≡ get_or second n 0
    byte n lt =
        let low : n / 4 < width = omega arith in
        let place : 4 * (n / 4) + n % 4 ≡ n = omega arith in
        subst (λ (m : ℕ). get_or first m 0 ≡ get_or second m 0) place
        (same_byte first second (n / 4) (n % 4) (omega arith) (h.pixels (n / 4) low ∙ sym (k.pixels (n / 4) low)))

-- a row is its pixels one after another
pub row_pieces : (width : ℕ) (pixel : ℕ → PixelView) (row : List ℕ) → IsRow width pixel row → row ≡ pieces pixel 0 width
row_pieces width pixel row h = same_row width pixel row _ h (IsRow-pieces width pixel)

-- a width is that of a row
same_width : (width : ℕ) (pixel : ℕ → PixelView) (row : List ℕ) → IsRow width pixel row → width_of row ≡ width
same_width width pixel row h = let len = h.len in omega arith

-- a row of known pixels over another
pub IsRow-over : (width : ℕ) (f g : ℕ → PixelView) (src old new : List ℕ) → IsRow width f src → IsRow width g old
    → IsRow (width_of old) (λ i. over (pixel_at src i) (pixel_at old i)) new → IsRow width (λ i. over (f i) (g i)) new
IsRow-over width f g src old new upper lower h =
    let wide = same_width width g old lower in record {
      len = (let len = h.len in omega arith);
      pixels = λ i lt. h.pixels i (omega arith) ∙ ap₂ over (upper.pixels i lt) (lower.pixels i lt);
    }

-- a row of known pixels at an opacity
pub IsRow-fade : (width : ℕ) (f : ℕ → PixelView) (opacity : ℕ) (old new : List ℕ) → IsRow width f old
    → IsRow (width_of old) (λ i. fade (pixel_at old i) opacity) new → IsRow width (λ i. fade (f i) opacity) new
IsRow-fade width f opacity old new lower h =
    let wide = same_width width f old lower in record {
      len = (let len = h.len in omega arith);
      pixels = λ i lt. h.pixels i (omega arith) ∙ ap (λ (p : PixelView). fade p opacity) (lower.pixels i lt);
    }

-- a row of known pixels keyed by another
pub IsRow-key : (width : ℕ) (f g : ℕ → PixelView) (old keys new : List ℕ) → IsRow width f old → IsRow width g keys
    → IsRow (width_of old) (λ i. key (pixel_at old i) (pixel_at keys i).r) new → IsRow width (λ i. key (f i) (g i).r) new
IsRow-key width f g old keys new lower keyer h =
    let wide = same_width width f old lower in record {
      len = (let len = h.len in omega arith);
      pixels = λ i lt. h.pixels i (omega arith) ∙ ap₂ (λ (p q : PixelView). key p q.r) (lower.pixels i lt) (keyer.pixels i lt);
    }

-- a mix of rows of known pixels
pub IsRow-mix : (width : ℕ) (f g : ℕ → PixelView) (j d : ℕ) (old below new : List ℕ) → IsRow width f old → IsRow width g below
    → IsRow (width_of old) (λ i. mix (pixel_at old i) (pixel_at below i) j d) new → IsRow width (λ i. mix (f i) (g i) j d) new
IsRow-mix width f g j d old below new before after h =
    let wide = same_width width f old before in record {
      len = (let len = h.len in omega arith);
      pixels = λ i lt. h.pixels i (omega arith) ∙ ap₂ (λ (p q : PixelView). mix p q j d) (before.pixels i lt) (after.pixels i lt);
    }
