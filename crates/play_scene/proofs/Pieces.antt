-- Bytes of which a piece is replaced.
use Rattle.std.proofs.Common.{◌≡◌, ℕ, ◌+◌, ◌-◌, ◌*◌, ◌/◌, ◌%◌, ◌<◌, ◌≤◌, List, ◌++◌, length, take, drop, slice_index, refl, sym, ap, ap₂, ◌∙◌, ⊎_elim, length-append, length-drop, length-take-le, drop-drop, arith, Vec}
use Rattle.std.proofs.lemmas.Bool.{cases_lt}
use Rattle.std.specs.Vec.{with_items}
use Rattle.std.proofs.lemmas.List.{with_items_is, get_or_append_left, get_or-append_right, get_or-take, get_or-drop}
use Rattle.play_scene.proofs.Pixels.{lowered_alike}
use Rattle.play_scene.specs.Frames.{AreLowered, ArePixels, with_piece}

-- the piece has its own bytes, and the others stay
before_piece : (at : ℕ) (piece bytes : List ℕ) (k : ℕ) → at + length piece ≤ length bytes → k < at →
    slice_index (with_piece at piece bytes) k ≡ slice_index bytes k
before_piece at piece bytes k fits lt =
    let front = length-take-le at bytes (omega (arith, fits)) in
    get_or_append_left (take at bytes) (piece ++ drop (at + length piece) bytes) 0 k (omega (arith, front, lt))
    ∙ get_or-take at bytes k 0 lt

after_front : (at : ℕ) (piece bytes : List ℕ) (k : ℕ) → at + length piece ≤ length bytes → at ≤ k →
    slice_index (with_piece at piece bytes) k ≡ slice_index (piece ++ drop (at + length piece) bytes) (k - at)
after_front at piece bytes k fits le =
    get_or-append_right (take at bytes) (piece ++ drop (at + length piece) bytes) at k 0 (length-take-le at bytes (omega (arith, fits))) le

in_piece : (at : ℕ) (piece bytes : List ℕ) (k : ℕ) → at + length piece ≤ length bytes → at ≤ k → k < at + length piece →
    slice_index (with_piece at piece bytes) k ≡ slice_index piece (k - at)
in_piece at piece bytes k fits le lt =
    after_front at piece bytes k fits le
    ∙ get_or_append_left piece (drop (at + length piece) bytes) 0 (k - at) (omega (arith, le, lt))

after_piece : (at : ℕ) (piece bytes : List ℕ) (k : ℕ) → at + length piece ≤ length bytes → at + length piece ≤ k →
    slice_index (with_piece at piece bytes) k ≡ slice_index bytes k
after_piece at piece bytes k fits le =
    let same : at + length piece + (k - at - length piece) ≡ k = omega (arith, le) in
    after_front at piece bytes k fits (omega (arith, le))
    ∙ get_or-append_right piece (drop (at + length piece) bytes) (length piece) (k - at) 0 refl (omega (arith, le))
    ∙ get_or-drop (at + length piece) bytes (k - at - length piece) 0
    ∙ ap (slice_index bytes) same

-- pixels that are put at the place of a pixel leave all pixels lowered
pub AreLowered-with_piece : (at : ℕ) (piece bytes : List ℕ) → at % 4 ≡ 0 → at + length piece ≤ length bytes → ArePixels piece → AreLowered bytes →
    AreLowered (with_piece at piece bytes)
AreLowered-with_piece at piece bytes place fits pixels lowered pixel =
    let whole = pixels.whole in
    let k = 4 * pixel in
    let now = with_piece at piece bytes in
    let before = λ (lt : k < at).
    lowered_alike bytes now k k (λ j small. before_piece at piece bytes (k + j) fits (omega (arith, lt, place, small))) (lowered pixel) in
    let after = λ (le : at + length piece ≤ k).
    lowered_alike bytes now k k (λ j small. after_piece at piece bytes (k + j) fits (omega (arith, le))) (lowered pixel) in
    let inside = λ (le : at ≤ k) (lt : k < at + length piece).
    let start : 4 * (pixel - at / 4) ≡ k - at = omega (arith, le, place) in
    lowered_alike piece now (4 * (pixel - at / 4)) k
    (λ j small.
    let same : k + j - at ≡ 4 * (pixel - at / 4) + j = omega (arith, start, le) in
    in_piece at piece bytes (k + j) fits (omega (arith, le)) (omega (arith, lt, whole, place, small)) ∙ ap (slice_index piece) same)
    (pixels.lowered (pixel - at / 4)) in
    ⊎_elim before (λ (le : at ≤ k). ⊎_elim (inside le) after (cases_lt k (at + length piece))) (cases_lt k at)

-- replacing bytes keeps their number
pub length-with_piece : (at : ℕ) (piece bytes : List ℕ) → at + length piece ≤ length bytes → length (with_piece at piece bytes) ≡ length bytes
length-with_piece at piece bytes fits =
    let front = length-take-le at bytes (omega (arith, fits)) in
    let back = length-drop (at + length piece) bytes in
    let inner = length-append piece (drop (at + length piece) bytes) in
    let whole = length-append (take at bytes) (piece ++ drop (at + length piece) bytes) in
    omega (arith, front, back, inner, whole, fits)

-- bytes of a list that are copied over those from `at` on are such a piece
pub copied_piece : {Z : Type 0} (list : Vec ℕ Z) (at count : ℕ) (copied piece bytes : List ℕ) → bytes ≡ list.items → copied ≡ piece → count ≡ length piece →
    at + length piece ≤ length list.items →
    (with_items list (take at bytes ++ (copied ++ drop count (drop at bytes)))).items ≡ with_piece at piece list.items
copied_piece list at count copied piece bytes are same counted fits =
    let inner : take at bytes ++ (copied ++ drop count (drop at bytes)) ≡ with_piece at piece list.items =
    ap₂ (λ (xs ys : List ℕ). take at xs ++ (ys ++ drop count (drop at xs))) are same
    ∙ ap (λ (n : ℕ). take at list.items ++ (piece ++ drop n (drop at list.items))) counted
    ∙ ap (λ (xs : List ℕ). take at list.items ++ (piece ++ xs)) (drop-drop (length piece) at list.items) in
    let long = ap length inner ∙ length-with_piece at piece list.items fits ∙ sym list.ok.0 in
    with_items_is list (take at bytes ++ (copied ++ drop count (drop at bytes))) long ∙ inner
