-- Frames that came, and what readers got of them.
use Rattle.std.proofs.Common.{min, ◌^◌, None, Some, false, ◌≡◌, ◌≤◌, ◌<◌, ◌+◌, ◌-◌, ℕ, zero, suc, List, [], ◌∷◌, ◌++◌, length, take, drop, refl, sym, ap, subst, ◌∙◌, arith}
use Rattle.std.specs.Prelude.{All, get_or, Option, is_some, option_to_list}
use Rattle.std.specs.List.{concat}
use Rattle.std.specs.Io.KnownBytes.{Appends}
use Rattle.std.proofs.Math.Seq.{take-add}
use Rattle.std.proofs.KnownBytes.{Appends-trans}
use Rattle.std.proofs.lemmas.List.{append-nil, drop-append-le, take-append-le, take_all, length-drop, length-append, get_or-drop, append_assoc}
use Rattle.std.proofs.lemmas.List.Edits.{between_more}
use Rattle.live_output.specs.Picked.{IsPickedFrom}
use Rattle.live_output.specs.Last.{AreLast}
use Rattle.live_output.specs.Got.{HasGot, begun, frames_between, part}
use Rattle.live_output.specs.declared.reader.Reader.{Reader}
use Rattle.live_output.proofs.Picking.{picked_more, picked_less}
use Rattle.live_output.proofs.Cutting.{concat_more}

-- the frames between two numbers stay the same if more come
pub between_stays : (frames more : List (List ℕ)) (from to : ℕ) → from ≤ to → to ≤ length frames → frames_between from to (frames ++ more) ≡ frames_between from to frames
between_stays frames more from to since until =
    let rest : drop from (frames ++ more) ≡ drop from frames ++ more = drop-append-le from frames more (omega (arith, since, until)) in
    ap (take (to - from)) rest ∙ take-append-le (to - from) (drop from frames) more (omega (arith, length-drop from frames, since, until))

-- what a reader got of the frames that came stays right if more come
pub got_stays : {W : Type 0} (contents : W → _) (frames more : List (List ℕ)) (reader : Reader W) → HasGot contents frames reader → HasGot contents (frames ++ more) reader
got_stays contents frames more reader got = record {
  whole = got.whole;
  bytes = got.bytes;
  order = subst (IsPickedFrom (got.whole ++ begun reader)) (sym (between_stays frames more reader.first reader.next got.since got.until)) got.order;
  counted = got.counted;
  since = got.since;
  until = omega (arith, length-append frames more, got.until);
}

-- what readers got of the frames that came stays right if more come
pub all_stay : {W : Type 0} (contents : W → Option (List ℕ)) (frames more now : List (List ℕ)) (readers after : List (Reader W)) → frames ++ more ≡ now → after ≡ readers
    → All (HasGot contents frames) readers → All (HasGot contents now) after
all_stay {W} contents frames more now readers after all same got =
    let stays : All (HasGot contents (frames ++ more)) readers = λ k d inside. got_stays contents frames more (get_or readers k d) (got k d inside) in
    subst (λ (l : List (List ℕ)). All (HasGot contents l) after) all (subst (λ (rs : List (Reader W)). All (HasGot contents (frames ++ more)) rs) (sym same) stays)

-- frames are still picked if the next ones are skipped
pub picked_further : (k : ℕ) (xs frames : List (List ℕ)) (d : List ℕ) (from to : ℕ) → from ≤ to → to + k ≤ length frames
    → IsPickedFrom xs (frames_between from to frames) → IsPickedFrom xs (frames_between from (to + k) frames)
picked_further zero xs frames d from to since until p = subst (λ (n : ℕ). IsPickedFrom xs (frames_between from n frames)) (omega arith) p
picked_further (suc k) xs frames d from to since until p =
    let before = picked_further k xs frames d from to since (omega (arith, until)) p in
    let more = between_more frames from (to + k) d (omega (arith, since)) (omega (arith, until)) in
    let next : to + k + 1 ≡ to + suc k = omega arith in
    subst (λ (n : ℕ). IsPickedFrom xs (frames_between from n frames)) next
    (subst (IsPickedFrom xs) (sym more) (picked_less xs (frames_between from (to + k) frames) (get_or frames (to + k) d) before))

-- a reader begins a frame, and those before it are skipped
pub picked_next : (xs frames : List (List ℕ)) (frame : List ℕ) (from to number : ℕ) → from ≤ to → to ≤ number → number < length frames
    → frame ≡ get_or frames number frame → IsPickedFrom xs (frames_between from to frames) → IsPickedFrom (xs ++ frame ∷ []) (frames_between from (number + 1) frames)
picked_next xs frames frame from to number since later until is p =
    let k : to + (number - to) ≡ number = omega (arith, later) in
    let before : IsPickedFrom xs (frames_between from number frames) =
    subst (λ (n : ℕ). IsPickedFrom xs (frames_between from n frames)) k (picked_further (number - to) xs frames frame from to since (omega (arith, k, until)) p) in
    let more : frames_between from (number + 1) frames ≡ frames_between from number frames ++ frame ∷ [] =
    between_more frames from number frame (omega (arith, since, later)) until ∙ ap (λ (f : List ℕ). frames_between from number frames ++ f ∷ []) (sym is) in
    subst (IsPickedFrom (xs ++ frame ∷ [])) (sym more) (picked_more xs (frames_between from number frames) frame before)

-- a reader that is in no frame
pub none_begun : {X : Type 0} (o : Option X) → is_some o ≡ false → option_to_list o ≡ []
none_begun None h = refl
none_begun (Some x) h = absurd cc

-- what was written to a reader since it came, for a reader with an equal stream
bytes_same : {W : Type 0} (contents : W → Option (List ℕ)) (r s : Reader W) (xs ys : List ℕ) → s.came ≡ r.came → s.to ≡ r.to → xs ≡ ys
    → Appends (contents r.came.value) (contents r.to) xs → Appends (contents s.came.value) (contents s.to) ys
bytes_same contents r s xs ys came to same a = rw (came, to, ← same) a

-- a reader begins a frame
pub got_begun : {W : Type 0} (contents : W → Option (List ℕ)) (frames window : List (List ℕ)) (gone number : ℕ) (frame : List ℕ) (r s : Reader W)
    → AreLast window gone frames → HasGot contents frames r → begun r ≡ [] → r.next ≤ number → gone ≤ number → number < 2 ^ 64 → number - gone < length window
    → frame ≡ get_or window (number - gone) frame → s.came ≡ r.came → s.to ≡ r.to → s.first ≡ r.first → s.next ≡ number + 1
    → s.skipped ≡ min (r.skipped + (number - r.next)) (2 ^ 64 - 1) → s.under_way ≡ Some frame → s.at ≡ 0 → HasGot contents frames s
got_begun contents frames window gone number frame r s last got none later kept fits inside is came to first next skipped under at =
    let far : number < length frames = omega (arith, ap length last.rest, length-drop gone frames, last.some, inside, kept) in
    let place : gone + (number - gone) ≡ number = omega (arith, kept) in
    let frame_is : frame ≡ get_or frames number frame =
    is ∙ ap (λ (l : List (List ℕ)). get_or l (number - gone) frame) (sym last.rest) ∙ get_or-drop gone frames (number - gone) frame
    ∙ ap (λ (n : ℕ). get_or frames n frame) place in
    let in_it : begun s ≡ frame ∷ [] = ap option_to_list under in
    let bare : got.whole ++ begun r ≡ got.whole = ap (λ (l : List (List ℕ)). got.whole ++ l) none ∙ append-nil got.whole in
    let before : part r ≡ [] = ap (λ (l : List (List ℕ)). take r.at (concat l)) none ∙ take_all r.at [] (omega arith) in
    let after : part s ≡ [] = ap (λ (n : ℕ). take n (concat (begun s))) at in
    let picked = picked_next got.whole frames frame r.first r.next number got.since later far frame_is (subst (λ (l : List (List ℕ)). IsPickedFrom l (frames_between r.first r.next frames)) bare got.order) in record {
      whole = got.whole;
      bytes = bytes_same contents r s _ _ came to (ap (λ (l : List ℕ). concat got.whole ++ l) (before ∙ sym after)) got.bytes;
      order = rw (in_it, first, next) picked;
      counted = omega (arith, ap length in_it, ap length none, got.counted, got.since, later, first, next, skipped, fits);
      since = omega (arith, got.since, later, first, next);
      until = omega (arith, far, next);
    }

-- a reader takes bytes of the frame that it is in
pub got_part : {W : Type 0} (contents : W → Option (List ℕ)) (frames : List (List ℕ)) (frame : List ℕ) (count : ℕ) (r s : Reader W)
    → HasGot contents frames r → r.under_way ≡ Some frame → Appends (contents r.to) (contents s.to) (take count (drop r.at frame))
    → s.came ≡ r.came → s.first ≡ r.first → s.next ≡ r.next → s.skipped ≡ r.skipped → s.under_way ≡ r.under_way → s.at ≡ r.at + count → HasGot contents frames s
got_part contents frames frame count r s got in_it adds came first next skipped under at =
    let old : concat (begun r) ≡ frame = ap (λ (o : Option (List ℕ)). concat (option_to_list o)) in_it ∙ append-nil frame in
    let new : concat (begun s) ≡ frame = ap (λ (o : Option (List ℕ)). concat (option_to_list o)) under ∙ old in
    let before : part r ≡ take r.at frame = ap (take r.at) old in
    let after : part s ≡ take r.at frame ++ take count (drop r.at frame) =
    ap (λ (l : List ℕ). take s.at l) new ∙ ap (λ (n : ℕ). take n frame) at ∙ take-add r.at count frame in
    let all : (concat got.whole ++ part r) ++ take count (drop r.at frame) ≡ concat got.whole ++ part s =
    ap (λ (l : List ℕ). (concat got.whole ++ l) ++ take count (drop r.at frame)) before ∙ append_assoc (concat got.whole) (take r.at frame) (take count (drop r.at frame))
    ∙ ap (λ (l : List ℕ). concat got.whole ++ l) (sym after) in
    let begins : begun s ≡ begun r = ap option_to_list under in record {
      whole = got.whole;
      bytes = rw came (subst (Appends (contents r.came.value) (contents s.to)) all (Appends-trans _ _ _ _ _ got.bytes adds));
      order = rw (begins, first, next) got.order;
      counted = omega (arith, ap length begins, got.counted, first, next, skipped);
      since = omega (arith, got.since, first, next);
      until = omega (arith, got.until, next);
    }

-- a reader has the whole of the frame that it is in
pub got_whole : {W : Type 0} (contents : W → Option (List ℕ)) (frames : List (List ℕ)) (frame : List ℕ) (r s : Reader W)
    → HasGot contents frames r → r.under_way ≡ Some frame → length frame ≤ r.at → s.came ≡ r.came → s.to ≡ r.to → s.first ≡ r.first → s.next ≡ r.next
    → s.skipped ≡ r.skipped → s.under_way ≡ None → s.at ≡ 0 → HasGot contents frames s
got_whole contents frames frame r s got in_it has came to first next skipped under at =
    let old : begun r ≡ frame ∷ [] = ap option_to_list in_it in
    let new : begun s ≡ [] = ap option_to_list under in
    let before : part r ≡ frame = ap (λ (l : List (List ℕ)). take r.at (concat l)) old ∙ ap (take r.at) (append-nil frame) ∙ take_all r.at frame has in
    let after : part s ≡ [] = ap (λ (n : ℕ). take n (concat (begun s))) at in
    let all : concat got.whole ++ part r ≡ concat (got.whole ++ frame ∷ []) ++ part s =
    ap (λ (l : List ℕ). concat got.whole ++ l) before ∙ sym (concat_more got.whole frame) ∙ sym (append-nil (concat (got.whole ++ frame ∷ [])))
    ∙ ap (λ (l : List ℕ). concat (got.whole ++ frame ∷ []) ++ l) (sym after) in
    let same : got.whole ++ begun r ≡ (got.whole ++ frame ∷ []) ++ begun s =
    ap (λ (l : List (List ℕ)). got.whole ++ l) old ∙ sym (append-nil (got.whole ++ frame ∷ [])) ∙ ap (λ (l : List (List ℕ)). (got.whole ++ frame ∷ []) ++ l) (sym new) in record {
      whole = got.whole ++ frame ∷ [];
      bytes = bytes_same contents r s _ _ came to all got.bytes;
      order = rw (← same, first, next) got.order;
      counted = omega (arith, ap length old, ap length new, length-append got.whole (frame ∷ []), got.counted, first, next, skipped);
      since = omega (arith, got.since, first, next);
      until = omega (arith, got.until, next);
    }
