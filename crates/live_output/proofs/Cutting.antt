-- Bytes that become frames.
use Rattle.std.proofs.Common.{◌≡◌, ◌+◌, ◌-◌, ◌^◌, ◌⊎◌, ℕ, min, List, [], ◌∷◌, ◌++◌, length, All, None, Some, IfSome, sym, ap, subst, ◌∙◌, arith, inl, inr, append_assoc, append-nil}
use Rattle.std.specs.Prelude.{IsSomeAnd, Option}
use Rattle.std.specs.List.{concat}
use Rattle.std.proofs.lemmas.List.{length-append, length_push}
use Rattle.std.proofs.lemmas.List.Elements.{All-push}
use Rattle.std.specs.Global.{Global}
use Rattle.std.specs.declared.vec.Vec.{Vec}
use Rattle.rtrb.specs.Ring.{sent}
use Rattle.live_output.specs.declared.cutter.FrameCutter.{FrameCutter}
use Rattle.live_output.specs.Cut.{IsCut}
use Rattle.live_output.specs.Picked.{IsPickedFrom}
use Rattle.live_output.proofs.Picking.{picked_more, picked_less, picked_count}

-- one more piece after others
pub concat_more : (pieces : List (List ℕ)) (piece : List ℕ) → concat (pieces ++ piece ∷ []) ≡ concat pieces ++ piece
concat_more [] piece = append-nil piece
concat_more (x ∷ xs) piece = ap (λ (l : List ℕ). x ++ l) (concat_more xs piece) ∙ sym (append_assoc x (concat xs) piece)

-- a frame that is whole was handed on, or dropped
pub picked_or_dropped : (out new frames : List (List ℕ)) (frame : List ℕ) (dropped now : ℕ) → IsPickedFrom out frames → dropped ≡ min (length frames - length out) (2 ^ 64 - 1)
    → ((new ≡ out ++ frame ∷ []) × (now ≡ dropped)) ⊎ ((new ≡ out) × (now ≡ min (dropped + 1) (2 ^ 64 - 1)))
    → IsPickedFrom new (frames ++ frame ∷ []) × (now ≡ min (length (frames ++ frame ∷ []) - length new) (2 ^ 64 - 1))
picked_or_dropped out new frames frame dropped now picked counted ends =
    let fits = picked_count out frames picked in
    elim ends [
      | inl handed ↦ (
        subst (λ (l : List (List ℕ)). IsPickedFrom l (frames ++ frame ∷ [])) (sym handed.0) (picked_more out frames frame picked),
        omega (arith, handed.1, counted, length_push frames frame, ap length handed.0 ∙ length_push out frame),
      )
      | inr left ↦ (
        subst (λ (l : List (List ℕ)). IsPickedFrom l (frames ++ frame ∷ [])) (sym left.0) (picked_less out frames frame picked),
        omega (arith, left.1, counted, fits, length_push frames frame, ap length left.0),
      )
    ]

-- the bytes that were kept of a frame are its bytes
pub kept_whole : {V : Type 0} (items : V → List ℕ) (before after : Option V) (rest part : List ℕ) (out new : List (List ℕ)) → IfSome before (λ b. items b ≡ rest)
    → IfSome after (λ a. IsSomeAnd before (λ b. items a ≡ items b ++ part)) → IsSomeAnd after (λ a. new ≡ out ++ items a ∷ []) → new ≡ out ++ (rest ++ part) ∷ []
kept_whole items before None rest part out new b a h = absurd h
kept_whole items None (Some y) rest part out new b a h = absurd a
kept_whole items (Some x) (Some y) rest part out new b a h = h ∙ ap (λ (l : List ℕ). out ++ l ∷ []) (a ∙ ap (λ (l : List ℕ). l ++ part) b)

-- a cutter after bytes that end a frame: `kept` is as before, but has the bytes
pub cut_ends : (written part : List ℕ) (before kept after : FrameCutter) → IsCut written before → before.at + length part ≡ before.size
    → sent kept.out ≡ sent before.out → kept.dropped ≡ before.dropped
    → IfSome kept.filling (λ bytes. IsSomeAnd before.filling (λ b. bytes.items ≡ b.items ++ part))
    → (IsSomeAnd kept.filling (λ bytes. sent after.out ≡ sent kept.out ++ bytes.items ∷ []) × (after.dropped ≡ kept.dropped))
    ⊎ ((sent after.out ≡ sent kept.out) × (after.dropped ≡ min (kept.dropped + 1) (2 ^ 64 - 1)))
    → after.filling ≡ None → after.at ≡ 0 → after.size ≡ before.size → IsCut (written ++ part) after
cut_ends written part before kept after cut fits out dropped has ends none at size =
    let bytes : List ℕ = cut.rest ++ part in
    let long : length bytes ≡ after.size = omega (arith, length-append cut.rest part, cut.at, fits, size) in
    let goes : ((sent after.out ≡ sent before.out ++ bytes ∷ []) × (after.dropped ≡ before.dropped)) ⊎ ((sent after.out ≡ sent before.out) × (after.dropped ≡ min (before.dropped + 1) (2 ^ 64 - 1))) =
    elim ends [
      | inl handed ↦ inl (
        kept_whole (λ (v : Vec ℕ Global). v.items) before.filling kept.filling cut.rest part (sent kept.out) (sent after.out) cut.kept has handed.0
            ∙ ap (λ (l : List (List ℕ)). l ++ bytes ∷ []) out,
        handed.1 ∙ dropped,
      )
      | inr left ↦ inr (left.0 ∙ out, left.1 ∙ ap (λ (n : ℕ). min (n + 1) (2 ^ 64 - 1)) dropped)
    ] in
    let counts = picked_or_dropped (sent before.out) (sent after.out) cut.frames bytes before.dropped after.dropped cut.handed cut.counted goes in record {
      frames = cut.frames ++ bytes ∷ [];
      rest = [];
      whole =
          ap (λ (l : List ℕ). l ++ part) cut.whole ∙ append_assoc (concat cut.frames) cut.rest part ∙ sym (concat_more cut.frames bytes)
          ∙ sym (append-nil (concat (cut.frames ++ bytes ∷ [])));
      sizes = All-push (λ (f : List ℕ). length f ≡ after.size) cut.frames bytes (subst (λ (n : ℕ). All (λ (f : List ℕ). length f ≡ n) cut.frames) (sym size) cut.sizes) long;
      short = omega (arith, cut.short, size);
      handed = counts.0;
      counted = counts.1;
      at = at;
      kept = rw none tt;
    }
