-- Rows of which some columns are replaced.
use Rattle.std.proofs.Common.{◌≡◌, ◌≢◌, ◌⊎◌, ℕ, ◌+◌, ◌-◌, ◌*◌, ◌<◌, ◌≤◌, List, ◌++◌, length, take, drop, slice_index, sym, subst, ap, ◌∙◌, inl, inr, arith, length-take-le, below_more}
use Rattle.std.proofs.lemmas.Bool.{cases_lt}
use Rattle.std.proofs.lemmas.List.{get_or_append_left, get_or-append_right, get_or-take, get_or-drop}
use Rattle.pixel_math.specs.Pixel.{PixelView}
use Rattle.pixel_math.proofs.Pixels.{same_pixel}
use Rattle.lane_blend.specs.Rows.{AreLowered, IsLowered, pixel_at}
use borrow.Rule.Slice.PartMut.{put_mid}

-- elements before the piece, in it and after it
before : (at n : ℕ) (row piece : List ℕ) (k : ℕ) → at ≤ length row → k < at → slice_index (put_mid at n row piece) k ≡ slice_index row k
before at n row piece k fits lt =
    let long = length-take-le at row fits in
    get_or_append_left (take at row) (piece ++ drop n (drop at row)) 0 k (omega (arith, long, lt)) ∙ get_or-take at row k 0 lt

from_piece : (at n : ℕ) (row piece : List ℕ) (k : ℕ) → at ≤ length row →
    slice_index (put_mid at n row piece) (at + k) ≡ slice_index (piece ++ drop n (drop at row)) k
from_piece at n row piece k fits =
    let back : at + k - at ≡ k = omega arith in
    get_or-append_right (take at row) (piece ++ drop n (drop at row)) at (at + k) 0 (length-take-le at row fits) (omega arith)
    ∙ ap (slice_index (piece ++ drop n (drop at row))) back

within : (at n : ℕ) (row piece : List ℕ) (k : ℕ) → at ≤ length row → k < length piece → slice_index (put_mid at n row piece) (at + k) ≡ slice_index piece k
within at n row piece k fits lt = from_piece at n row piece k fits ∙ get_or_append_left piece (drop n (drop at row)) 0 k lt

after : (at n : ℕ) (row piece : List ℕ) (k : ℕ) → at ≤ length row → length piece ≡ n → at + n ≤ k → slice_index (put_mid at n row piece) k ≡ slice_index row k
after at n row piece k fits long le =
    let place : at + (k - at) ≡ k = omega (arith, le) in
    let same : at + (n + (k - at - n)) ≡ k = omega (arith, le) in
    ap (slice_index (put_mid at n row piece)) (sym place)
    ∙ from_piece at n row piece (k - at) fits
    ∙ get_or-append_right piece (drop n (drop at row)) n (k - at) 0 long (omega (arith, le))
    ∙ get_or-drop n (drop at row) (k - at - n) 0
    ∙ get_or-drop at row (n + (k - at - n)) 0
    ∙ ap (slice_index row) same

outside : (at n : ℕ) (row piece : List ℕ) (k : ℕ) → at ≤ length row → length piece ≡ n → (k < at) ⊎ (at + n ≤ k) → slice_index (put_mid at n row piece) k ≡ slice_index row k
outside at n row piece k fits long (inl lt) = before at n row piece k fits lt
outside at n row piece k fits long (inr le) = after at n row piece k fits long le

side : (a b k j : ℕ) → j < 4 → a ≤ b → (k < a) ⊎ (b ≤ k) → (4 * k + j < 4 * a) ⊎ (4 * a + (4 * b - 4 * a) ≤ 4 * k + j)
side a b k j small order (inl lt) = inl (omega (arith, lt, small))
side a b k j small order (inr le) = inr (omega (arith, le, order))

-- the columns outside of those that are replaced stay
pub put-others : (a b k : ℕ) (row piece : List ℕ) → a ≤ b → 4 * b ≤ length row → length piece ≡ 4 * b - 4 * a → (k < a) ⊎ (b ≤ k) →
    pixel_at (put_mid (4 * a) (4 * b - 4 * a) row piece) k ≡ pixel_at row k
put-others a b k row piece order fits long out =
    let place = λ (j : ℕ) (small : j < 4). outside (4 * a) (4 * b - 4 * a) row piece (4 * k + j) (omega (arith, order, fits)) long (side a b k j small order out) in
    let start : 4 * k ≡ 4 * k + 0 = omega arith in
    same_pixel _ _
    (ap (slice_index (put_mid (4 * a) (4 * b - 4 * a) row piece)) start ∙ place 0 (omega arith) ∙ ap (slice_index row) (sym start))
    (place 1 (omega arith)) (place 2 (omega arith)) (place 3 (omega arith))

-- and the others are those of the piece
pub put-there : (a b i : ℕ) (row piece : List ℕ) → a ≤ b → 4 * b ≤ length row → length piece ≡ 4 * b - 4 * a → a + i < b →
    pixel_at (put_mid (4 * a) (4 * b - 4 * a) row piece) (a + i) ≡ pixel_at piece i
put-there a b i row piece order fits long lt =
    let place = λ (j : ℕ) (small : j < 4).
    (let same : 4 * (a + i) + j ≡ 4 * a + (4 * i + j) = omega arith in
    ap (slice_index (put_mid (4 * a) (4 * b - 4 * a) row piece)) same
    ∙ within (4 * a) (4 * b - 4 * a) row piece (4 * i + j) (omega (arith, order, fits)) (omega (arith, long, lt, small))) in
    let start : 4 * (a + i) ≡ 4 * (a + i) + 0 = omega arith in
    let first : 4 * i + 0 ≡ 4 * i = omega arith in
    same_pixel _ _
    (ap (slice_index (put_mid (4 * a) (4 * b - 4 * a) row piece)) start ∙ place 0 (omega arith) ∙ ap (slice_index piece) first)
    (place 1 (omega arith)) (place 2 (omega arith)) (place 3 (omega arith))

-- lowered columns in a lowered row
pub put-lowered : (a b : ℕ) (row piece : List ℕ) → a ≤ b → 4 * b ≤ length row → length piece ≡ 4 * b - 4 * a → AreLowered row → AreLowered piece →
    AreLowered (put_mid (4 * a) (4 * b - 4 * a) row piece)
put-lowered a b row piece order fits long low inner k = elim (cases_lt k a) [
  | inl lt ↦ subst IsLowered (sym (put-others a b k row piece order fits long (inl lt))) (low k)
  | inr ge ↦ elim (cases_lt k b) [
    | inr le ↦ subst IsLowered (sym (put-others a b k row piece order fits long (inr le))) (low k)
    | inl below ↦
        (let place : a + (k - a) ≡ k = omega (arith, ge) in
        subst (λ (x : ℕ). IsLowered (pixel_at (put_mid (4 * a) (4 * b - 4 * a) row piece) x)) place
        (subst IsLowered (sym (put-there a b (k - a) row piece order fits long (omega (arith, ge, below)))) (inner (k - a))))
  ]
]

-- one more column
pub written_more : (pixel : ℕ → PixelView) (old new : List ℕ) (x : ℕ) → ((i : ℕ) → i < x → pixel_at old i ≡ pixel i) →
    pixel_at new x ≡ pixel x → ((k : ℕ) → k ≢ x → pixel_at new k ≡ pixel_at old k) → (i : ℕ) → i < x + 1 → pixel_at new i ≡ pixel i
written_more pixel old new x so_far here others =
    below_more _ _ (λ k h. let other : k ≢ x = omega (arith, h) in others k other ∙ so_far k h) here
