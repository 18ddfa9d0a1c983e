-- Pieces of one length, one after the other.
use Rattle.std.proofs.Common.{◌≡◌, ℕ, zero, suc, ◌+◌, ◌-◌, ◌*◌, ◌<◌, ◌≤◌, List, ◌++◌, length, take, drop, refl, sym, ap, ◌∙◌, append_assoc, add-one, arith, length-append, length-drop, inl, inr}
use Rattle.std.proofs.lemmas.Bool.{cases_lt}
use Rattle.std.proofs.Math.Nat.{mul-le-mul_left}
use Rattle.std.proofs.lemmas.List.{append-nil, take_all, take-append-le, drop-append-le, drop_at, take-take, drop-drop, drop-take}
use Rattle.frame_bitmap.specs.inner.Parts.{pieces}

-- one piece more
pub pieces_more : (piece : ℕ → List ℕ) (n : ℕ) → pieces piece (n + 1) ≡ pieces piece n ++ piece n
unfolding pieces
pieces_more piece n = ap (pieces piece) (add-one n)

-- one piece more, after what was there before
pub pieces_push : (piece : ℕ → List ℕ) (before : List ℕ) (n : ℕ) (bytes : List ℕ) → bytes ≡ piece n
    → (before ++ pieces piece n) ++ bytes ≡ before ++ pieces piece (n + 1)
pieces_push piece before n bytes same =
    append_assoc before (pieces piece n) bytes
    ∙ ap (λ (last : List ℕ). before ++ (pieces piece n ++ last)) same
    ∙ ap (λ (all : List ℕ). before ++ all) (sym (pieces_more piece n))

-- no pieces, after what was there before
pub pieces_none : (piece : ℕ → List ℕ) (before : List ℕ) → before ≡ before ++ pieces piece 0
unfolding pieces
pieces_none piece before = sym (append-nil before)

-- a part of a list from a place
pub part : (at count : ℕ) (xs : List ℕ) → take (at + count - at) (drop at xs) ≡ take count (drop at xs)
part at count xs =
    let same : at + count - at ≡ count = omega arith in
    ap (λ (k : ℕ). take k (drop at xs)) same

-- the length of pieces of one length
pub pieces_length : (piece : ℕ → List ℕ) (size n : ℕ) → ((k : ℕ) → k < n → length (piece k) ≡ size) → length (pieces piece n) ≡ size * n
unfolding pieces
pieces_length piece size zero each = omega arith
pieces_length piece size (suc n) each =
    let before : length (pieces piece n) ≡ size * n = pieces_length piece size n (λ k below. each k (omega (arith, below))) in
    let last : length (piece n) ≡ size = each n (omega arith) in
    length-append (pieces piece n) (piece n) ∙ omega (arith, before, last)

one_less : (i n : ℕ) → i < n → i + 1 ≤ n
one_less i n below = omega (arith, below)

-- each piece stands at its place
pub pieces_pick : (piece : ℕ → List ℕ) (size n i : ℕ) → ((k : ℕ) → k < n → length (piece k) ≡ size) → i < n
    → take size (drop (size * i) (pieces piece n)) ≡ piece i
unfolding pieces
pieces_pick piece size zero i each below = absurd (omega (arith, below))
pieces_pick piece size (suc n) i each below =
    let before : length (pieces piece n) ≡ size * n = pieces_length piece size n (λ k less. each k (omega (arith, less))) in
    let last : length (piece n) ≡ size = each n (omega arith) in
    elim (cases_lt i n) [
      | inl earlier ↦
          let long : size * i + size ≤ length (pieces piece n) = omega (arith, mul-le-mul_left size (one_less i n earlier), before) in
          let inside : size * i ≤ length (pieces piece n) = omega (arith, long) in
          let rest : size ≤ length (drop (size * i) (pieces piece n)) = omega (arith, length-drop (size * i) (pieces piece n), long) in
          rw (drop-append-le (size * i) (pieces piece n) (piece n) inside, take-append-le size (drop (size * i) (pieces piece n)) (piece n) rest)
          (pieces_pick piece size n i (λ k less. each k (omega (arith, less))) earlier)
      | inr latest ↦
          let same : i ≡ n = omega (arith, latest, below) in
          let place : length (pieces piece n) ≡ size * i = before ∙ ap (λ (k : ℕ). size * k) (sym same) in
          let whole : length (piece n) ≤ size = omega (arith, last) in
          rw (drop_at (pieces piece n) (piece n) (size * i) place, take_all size (piece n) whole) (ap piece (sym same))
    ]

-- a window of a window
pub window : (xs : List ℕ) (a b m : ℕ) → a + 4 ≤ m → take 4 (drop a (take m (drop b xs))) ≡ take 4 (drop (b + a) xs)
window xs a b m fits =
    let whole : m ≡ a + (m - a) = omega (arith, fits) in
    let cut : drop a (take m (drop b xs)) ≡ take (m - a) (drop a (drop b xs)) =
    ap (λ (k : ℕ). drop a (take k (drop b xs))) whole ∙ drop-take a (m - a) (drop b xs) in
    let enough : 4 ≤ m - a = omega (arith, fits) in
    rw (cut, take-take 4 (m - a) (drop a (drop b xs)) enough, drop-drop a b xs) refl
