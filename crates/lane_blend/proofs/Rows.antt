-- Rows of pixels, for proofs here and in the crates above.
use Rattle.std.proofs.Common.{◌≡◌, ℕ, ◌+◌, ◌-◌, ◌*◌, ◌/◌, ◌%◌, ◌<◌, ◌≤◌, zero, suc, add-zero, List, ◌++◌, length, length-append, get_or, refl, ap, sym, subst, ◌∙◌, arith, inl, inr}
use Rattle.std.proofs.Math.ListN.{get_or-append, get_or-eq_default}
use Rattle.std.proofs.lemmas.Bool.{cases_lt}
use Rattle.std.proofs.lemmas.List.{get_or-append_right}
use Rattle.pixel_math.specs.Pixel.{PixelView, pixel_bytes}
use Rattle.pixel_math.proofs.Pixels.{same_pixel}
use Rattle.lane_blend.specs.Rows.{pixel_at, IsRow, IsLowered, AreLowered}

-- past the end of a row all bytes are 0
lowered_past : (row : List ℕ) (i : ℕ) → length row ≤ 4 * i → IsLowered (pixel_at row i)
lowered_past row i past =
    let b : get_or row (4 * i) 0 ≡ 0 = get_or-eq_default row 0 past in
    let g : get_or row (4 * i + 1) 0 ≡ 0 = get_or-eq_default row 0 (omega arith) in
    let r : get_or row (4 * i + 2) 0 ≡ 0 = get_or-eq_default row 0 (omega arith) in
    record { blue = omega arith; green = omega arith; red = omega arith }

-- the byte at place c of a pixel
lowered_byte : (row : List ℕ) (i c : ℕ) → c < 4 → IsLowered (pixel_at row i) → get_or row (4 * i + c) 0 ≤ get_or row (4 * i + 3) 0
lowered_byte row i zero lt h = rw add-zero h.blue
lowered_byte row i (suc zero) lt h = h.green
lowered_byte row i (suc (suc zero)) lt h = h.red
lowered_byte row i (suc (suc (suc c))) lt h =
    let last : suc (suc (suc c)) ≡ 3 = omega arith in
    subst (λ (k : ℕ). get_or row (4 * i + k) 0 ≤ get_or row (4 * i + 3) 0) (sym last) (omega arith)

-- no byte is above the alpha of its pixel
pub byte-le_alpha : (row : List ℕ) (k : ℕ) → AreLowered row → get_or row k 0 ≤ get_or row (k / 4 * 4 + 3) 0
byte-le_alpha row k h =
    let place : 4 * (k / 4) + k % 4 ≡ k = omega arith in
    let alpha : 4 * (k / 4) + 3 ≡ k / 4 * 4 + 3 = omega arith in
    let le = lowered_byte row (k / 4) (k % 4) (omega arith) (h (k / 4)) in
    subst (λ (a : ℕ). get_or row k 0 ≤ get_or row a 0) alpha (subst (λ (b : ℕ). get_or row b 0 ≤ get_or row (4 * (k / 4) + 3) 0) place le)

-- a row whose pixels have no colour byte above their alpha
pub AreLowered-row : (width : ℕ) (pixel : ℕ → PixelView) (row : List ℕ) → IsRow width pixel row → ((i : ℕ) → i < width → IsLowered (pixel i)) → AreLowered row
AreLowered-row width pixel row h each i = elim (cases_lt i width) [
  | inl lt ↦ subst IsLowered (sym (h.pixels i lt)) (each i lt)
  | inr ge ↦ let len = h.len in lowered_past row i (omega arith)
]

-- the bytes after a row
byte_after : (row more : List ℕ) (k c : ℕ) → length row + c ≡ k → get_or (row ++ more) k 0 ≡ get_or more c 0
byte_after row more k c e =
    let place : k - length row ≡ c = omega arith in
    get_or-append_right row more (length row) k 0 refl (omega arith) ∙ ap (λ n. get_or more n 0) place

pixel_before : (row more : List ℕ) (i : ℕ) → 4 * i + 3 < length row → pixel_at (row ++ more) i ≡ pixel_at row i
pixel_before row more i lt =
    same_pixel _ _
    (get_or-append row more 0 (4 * i) (omega arith))
    (get_or-append row more 0 (4 * i + 1) (omega arith))
    (get_or-append row more 0 (4 * i + 2) (omega arith))
    (get_or-append row more 0 (4 * i + 3) (omega arith))

pixel_after : (row : List ℕ) (p : PixelView) (i : ℕ) → length row ≡ 4 * i → pixel_at (row ++ pixel_bytes p) i ≡ p
pixel_after row p i e =
    same_pixel _ _
    (byte_after row (pixel_bytes p) (4 * i) 0 (omega arith))
    (byte_after row (pixel_bytes p) (4 * i + 1) 1 (omega arith))
    (byte_after row (pixel_bytes p) (4 * i + 2) 2 (omega arith))
    (byte_after row (pixel_bytes p) (4 * i + 3) 3 (omega arith))

-- one more pixel of which no colour byte is above its alpha
pub AreLowered-append : (row : List ℕ) (p : PixelView) → length row % 4 ≡ 0 → AreLowered row → IsLowered p → AreLowered (row ++ pixel_bytes p)
AreLowered-append row p whole h last i = elim (cases_lt (4 * i) (length row)) [
  | inl lt ↦ subst IsLowered (sym (pixel_before row (pixel_bytes p) i (omega arith))) (h i)
  | inr ge ↦ elim (cases_lt (length row) (4 * i)) [
    | inl past ↦ lowered_past (row ++ pixel_bytes p) i (omega (arith, length-append row (pixel_bytes p)))
    | inr le ↦ subst IsLowered (sym (pixel_after row p i (omega arith))) last
  ]
]
