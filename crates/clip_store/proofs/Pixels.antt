-- Pixels that are prepared frame by frame.
use Rattle.std.proofs.Common.{◌≡◌, ℕ, ◌+◌, ◌*◌, ◌/◌, ◌%◌, ◌<◌, ◌≤◌, List, length, get_or, inl, inr, sym, ap, ◌∙◌, arith}
use Rattle.std.specs.Prelude.{◌&&◌, nat_lt, slice_index, if◌then◌else◌}
use Rattle.std.specs.Fork.{IsChunk}
use Rattle.std.proofs.lemmas.Bool.{lt-ltb, le-ltb, cases_lt, le-leb}
use Rattle.std.proofs.lemmas.Nat.{div-add-mod', mod-mul-add}
use Rattle.clip_format.proofs.Recoloured.{four_of}
use Rattle.clip_format.specs.Recolouring.{IsRecoloured, made_at}

-- a byte of a frame whose colours were changed, by its index among all bytes
pub byte_of_frame : (made : ℕ → ℕ → ℕ) (picture frame start offset i : ℕ) (old new before after : List ℕ) → picture ≤ frame → picture % 4 ≡ 0 → frame % 4 ≡ 0 → length old % frame ≡ 0
    → IsChunk old frame start before → offset < length before → start + offset ≡ i → IsRecoloured made 0 picture before after → get_or after offset 0 ≡ slice_index new i
    → slice_index new i ≡ (if nat_lt (i % frame) picture && nat_lt (i % 4) 3 then made_at made old i else slice_index old i)
byte_of_frame made picture frame start offset i old new before after within pixels frames whole chunk inside place is left =
    let size : length before ≡ frame = chunk.full_size whole in
    let whole_frames : start ≡ start / frame * frame = omega (arith, sym (div-add-mod' start frame), chunk.start_is_multiple) in
    let units : start / frame * frame ≡ start / frame * (frame / 4) * 4 = ap (λ n. start / frame * n) (omega arith) ∙ four_of (start / frame) (frame / 4) in
    let rest : i % frame ≡ offset = ap (λ n. n % frame) (omega arith) ∙ mod-mul-add (start / frame) frame offset (omega arith) in
    let fourth : i % 4 ≡ offset % 4 = omega (arith, whole_frames, units, place) in
    let alpha : i / 4 * 4 + 3 ≡ start + (offset / 4 * 4 + 3) = omega arith in
    let same : slice_index before offset ≡ slice_index old i = chunk.elements offset 0 inside ∙ ap (slice_index old) place in
    elim (cases_lt offset picture) [
      | inl lt ↦
          let top : slice_index before (offset / 4 * 4 + 3) ≡ slice_index old (i / 4 * 4 + 3) = chunk.elements (offset / 4 * 4 + 3) 0 (omega arith) ∙ ap (slice_index old) (sym alpha) in
          rw (rest, fourth, lt-ltb offset picture lt) (sym left ∙ rw (lt-ltb offset picture lt, le-leb 0 offset (omega arith), same, top) at (is.each offset inside))
      | inr le ↦ rw (rest, le-ltb offset picture le) (sym left ∙ rw (le-ltb offset picture le) at (is.each offset inside) ∙ same)
    ]
