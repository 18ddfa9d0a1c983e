-- Columns of a row that are laid over those of another.
use Rattle.std.proofs.Common.{◌≡◌, ◌⊎◌, inl, inr, ℕ, ◌+◌, ◌-◌, ◌*◌, ◌%◌, ◌<◌, ◌≤◌, Bool, true, false, List, ◌++◌, length, take, drop, refl, sym, ap, ap₂, subst, ◌∙◌, arith, take_at, drop_at, length-append, length-drop, length-take-le}
use Rattle.std.proofs.lemmas.Bool.{cases_lt}
use Rattle.pixel_math.specs.Pixel.{PixelView, transparent}
use Rattle.pixel_math.specs.Arithmetic.{key, over}
use Rattle.lane_blend.specs.Rows.{AreLowered, IsRow, pixel_at, width_of}
use Rattle.lane_blend.proofs.Rows.{AreLowered-row}
use Rattle.row_render.specs.inner.Keying.{keyed_pixel_by}
use Rattle.row_render.proofs.Keying.{key-nothing, over_transparent}
use Rattle.row_render.proofs.Pieces.{put-others, put-there}
use Rattle.row_render.proofs.Sources.{piece_column}
use Rattle.row_render.proofs.Transitions.{part_long}
use borrow.Rule.Slice.PartMut.{put_mid}

-- the columns of a row from a up to before b
abbrev pub part_of : ℕ → ℕ → List ℕ → List ℕ
part_of a b row = take (4 * b - 4 * a) (drop (4 * a) row)

part-pixel : (row : List ℕ) (a b i : ℕ) → a + i < b → pixel_at (part_of a b row) i ≡ pixel_at row (a + i)
part-pixel row a b i lt =
    let count : 4 * b - 4 * a ≡ 4 * (b - a) = omega arith in
    ap (λ (n : ℕ). pixel_at (take n (drop (4 * a) row)) i) count ∙ piece_column row (4 * a) (b - a) i (a + i) (omega (arith, lt)) (omega arith)

pub part-lowered : (row : List ℕ) (a b : ℕ) → a ≤ b → 4 * b ≤ length row → AreLowered row → AreLowered (part_of a b row)
part-lowered row a b order fits low =
    let long = part_long a b row (part_of a b row) order fits refl in
    let is : IsRow (b - a) (λ (i : ℕ). pixel_at row (a + i)) (part_of a b row) = record {
      len = omega (arith, long);
      pixels = λ i lt. part-pixel row a b i (omega (arith, lt));
    } in
    AreLowered-row (b - a) (λ (i : ℕ). pixel_at row (a + i)) (part_of a b row) is (λ i lt. low (a + i))

-- columns that were put into a row are there
pub part-put : (row piece : List ℕ) (a b : ℕ) → a ≤ b → 4 * b ≤ length row → length piece ≡ 4 * b - 4 * a →
    part_of a b (put_mid (4 * a) (4 * b - 4 * a) row piece) ≡ piece
part-put row piece a b order fits long =
    let rest = drop (4 * b - 4 * a) (drop (4 * a) row) in
    ap (take (4 * b - 4 * a)) (drop_at (take (4 * a) row) (piece ++ rest) (4 * a) (length-take-le (4 * a) row (omega (arith, order, fits))))
    ∙ take_at piece rest (4 * b - 4 * a) long

put-length : (row piece : List ℕ) (a b : ℕ) → a ≤ b → 4 * b ≤ length row → length piece ≡ 4 * b - 4 * a →
    length (put_mid (4 * a) (4 * b - 4 * a) row piece) ≡ length row
put-length row piece a b order fits long =
    let front = take (4 * a) row in
    let rest = drop (4 * b - 4 * a) (drop (4 * a) row) in
    let first = length-take-le (4 * a) row (omega (arith, order, fits)) in
    omega (arith, length-append front (piece ++ rest), length-append piece rest, first, long, length-drop (4 * b - 4 * a) (drop (4 * a) row), length-drop (4 * a) row, order, fits)

-- a transparent pixel, keyed or not, leaves the pixel below
over_nothing : (keyed : Bool) (p by below : PixelView) → p ≡ transparent → over (keyed_pixel_by keyed p by) below ≡ below
over_nothing true p by below e =
    ap (λ (q : PixelView). over (key q by.r) below) e ∙ ap (λ (q : PixelView). over q below) (key-nothing by.r) ∙ over_transparent below
over_nothing false p by below e = ap (λ (q : PixelView). over q below) e ∙ over_transparent below

-- a row over another, of which only the columns that show something are laid
pub laid_columns : (a b : ℕ) (keyed : Bool) (upper keys row own above new : List ℕ) → a ≤ b → 4 * b ≤ length row → length row % 4 ≡ 0 →
    IsRow (width_of (part_of a b upper)) (λ i. keyed_pixel_by keyed (pixel_at (part_of a b upper) i) (pixel_at (part_of a b keys) i)) own →
    above ≡ own → length upper ≡ length row →
    IsRow (width_of (part_of a b row)) (λ i. over (pixel_at above i) (pixel_at (part_of a b row) i)) new →
    ((x : ℕ) → x < width_of row → (x < a) ⊎ (b ≤ x) → pixel_at upper x ≡ transparent) →
    IsRow (width_of row) (λ x. over (keyed_pixel_by keyed (pixel_at upper x) (pixel_at keys x)) (pixel_at row x)) (put_mid (4 * a) (4 * b - 4 * a) row new)
laid_columns a b keyed upper keys row own above new order fits whole keying same equal laid clear = record {
  len = omega (arith, put-length row new a b order fits long, whole);
  pixels = λ x lt. by x lt;
}
  where
    wide : length (part_of a b row) ≡ 4 * b - 4 * a
    wide = part_long a b row (part_of a b row) order fits refl

    wide_upper : length (part_of a b upper) ≡ 4 * b - 4 * a
    wide_upper = part_long a b upper (part_of a b upper) order (omega (arith, fits, equal)) refl

    long : length new ≡ 4 * b - 4 * a
    long = omega (arith, laid.len, wide)

    outside : (x : ℕ) → x < width_of row → (x < a) ⊎ (b ≤ x) →
        pixel_at (put_mid (4 * a) (4 * b - 4 * a) row new) x ≡ over (keyed_pixel_by keyed (pixel_at upper x) (pixel_at keys x)) (pixel_at row x)
    outside x lt out =
        put-others a b x row new order fits long out ∙ sym (over_nothing keyed (pixel_at upper x) (pixel_at keys x) (pixel_at row x) (clear x lt out))

    inside : (i : ℕ) → a + i < b →
        pixel_at (put_mid (4 * a) (4 * b - 4 * a) row new) (a + i) ≡ over (keyed_pixel_by keyed (pixel_at upper (a + i)) (pixel_at keys (a + i))) (pixel_at row (a + i))
    inside i lt =
        put-there a b i row new order fits long lt
        ∙ laid.pixels i (omega (arith, lt, wide))
        ∙ ap₂ over
        (ap (λ (l : List ℕ). pixel_at l i) same ∙ keying.pixels i (omega (arith, lt, wide_upper))
        ∙ ap₂ (keyed_pixel_by keyed) (part-pixel upper a b i lt) (part-pixel keys a b i lt))
        (part-pixel row a b i lt)

    by : (x : ℕ) → x < width_of row →
        pixel_at (put_mid (4 * a) (4 * b - 4 * a) row new) x ≡ over (keyed_pixel_by keyed (pixel_at upper x) (pixel_at keys x)) (pixel_at row x)
    by x lt = elim (cases_lt x a) [
      | inl low ↦ outside x lt (inl low)
      | inr from ↦ elim (cases_lt x b) [
        | inr high ↦ outside x lt (inr high)
        | inl to ↦
            (let place : a + (x - a) ≡ x = omega (arith, from) in
            subst
            (λ (k : ℕ). pixel_at (put_mid (4 * a) (4 * b - 4 * a) row new) k
            ≡ over (keyed_pixel_by keyed (pixel_at upper k) (pixel_at keys k)) (pixel_at row k))
            place (inside (x - a) (omega (arith, from, to))))
      ]
    ]
