-- Bytes of whole frames, and bytes that are changed in place.
use Rattle.std.proofs.Common.{◌≡◌, ℕ, ◌+◌, ◌%◌, ◌<◌, List, ◌++◌, length, take, drop, ap, ◌∙◌, append-nil, take_all, mul_assoc, arith}
use Rattle.std.proofs.lemmas.List.{drop_all}
use Rattle.std.proofs.lemmas.Nat.{mod-mul-add, mul-le}
use Rattle.play_types.specs.Geometry.{frame_bytes}
use Rattle.play_types.specs.ClipFile.{ClipView, IsClip}

-- the bytes of a clip are whole frames
pub whole_frames : (clip : ClipView) → IsClip clip → length clip.bytes % frame_bytes clip.geometry ≡ 0
whole_frames clip is =
    let size = clip.geometry in
    let pixels = mul-le 1 1 size.width size.height is.size.some_columns is.size.some_rows in
    let some : 0 < frame_bytes size = omega (arith, pixels, mul_assoc 4 size.width size.height) in
    ap (λ n. n % frame_bytes size) (omega (arith, is.whole)) ∙ mod-mul-add clip.frames (frame_bytes size) 0 some

-- a list that was written back whole
pub written_back : {X : Type 0} (new old : List X) (len : ℕ) → length new ≡ length old → length old ≡ len → take len (new ++ drop (length new) old) ≡ new
written_back new old len same size =
    ap (λ (rest : _). take len (new ++ rest)) (drop_all (length new) old (omega arith)) ∙ ap (take len) (append-nil new) ∙ take_all len new (omega arith)
