-- The pieces of a list, sent one after another.
use Rattle.std.proofs.Common.{◌≡◌, ℕ, ◌+◌, ◌<◌, List, [], ◌∷◌, ◌++◌, take, drop, length, get_or, sym, ap, subst, ◌∙◌, add-one, append-nil}
use Rattle.std.specs.List.{flat_map}
use Rattle.std.proofs.lemmas.List.{take-append-drop, length_push}
use Rattle.std.proofs.lemmas.Grind.{flat_map-append}
use Rattle.std.proofs.Math.Seq.{take-suc}
use Rattle.play_outside.specs.SinkState.{SinkState, after_taking}
use Rattle.play_outside.specs.Sink.{Sends, Fails}
use Rattle.play_outside.specs.declared.sink.Sent.TheVariants as sent
use Rattle.play_outside.proofs.Sending.{taken_more, Fails-within}

-- a prefix of the pieces, and one more
pub flat_map-more : {X : Type 0} (f : X → List ℕ) (xs : List X) (at : ℕ) (d : X) → at < length xs
    → flat_map f (take (at + 1) xs) ≡ flat_map f (take at xs) ++ f (get_or xs at d)
flat_map-more f xs at d within =
    rw (add-one, take-suc xs at d within, flat_map-append) (ap (λ (piece : List ℕ). flat_map f (take at xs) ++ piece) (append-nil (f (get_or xs at d))))

-- a prefix of the pieces, one more, and the rest
pub flat_map-parts : {X : Type 0} (f : X → List ℕ) (xs : List X) (at : ℕ) (d : X) → at < length xs
    → flat_map f xs ≡ (flat_map f (take at xs) ++ f (get_or xs at d)) ++ flat_map f (drop (at + 1) xs)
flat_map-parts f xs at d within =
    rw (← flat_map-more f xs at d within)
    (ap (flat_map f) (sym (take-append-drop (at + 1) xs)) ∙ flat_map-append f (take (at + 1) xs) (drop (at + 1) xs))

-- the sink failed in a piece, after the ones before it were taken
pub Fails-at : {X : Type 0} (f : X → List ℕ) (xs : List X) (at : ℕ) (d : X) (first state after : SinkState) → at < length xs
    → state ≡ after_taking first (flat_map f (take at xs)) → Fails (f (get_or xs at d)) state after → Fails (flat_map f xs) first after
Fails-at f xs at d first state after within so_far fails =
    Fails-within (flat_map f xs) (flat_map f (take at xs)) (f (get_or xs at d)) (flat_map f (drop (at + 1) xs)) first state after
    (flat_map-parts f xs at d within) so_far fails

-- one more piece was taken
pub taken_at : {X : Type 0} (f : X → List ℕ) (xs : List X) (at : ℕ) (d : X) (first state after : SinkState) → at < length xs
    → state ≡ after_taking first (flat_map f (take at xs)) → Sends sent.All (f (get_or xs at d)) state after
    → after ≡ after_taking first (flat_map f (take (at + 1) xs))
taken_at f xs at d first state after within so_far all =
    rw (flat_map-more f xs at d within) (taken_more (flat_map f (take at xs)) (f (get_or xs at d)) first state after so_far all)

-- the sink failed in the piece of an element that an iterator yielded next
pub Fails-turn : {X : Type 0} (f : X → List ℕ) (xs : List X) (count : ℕ) (x : X) (first state after : SinkState)
    → (count < length xs) × (x ≡ get_or xs count x) → state ≡ after_taking first (flat_map f (take count xs))
    → Fails (f x) state after → Fails (flat_map f xs) first after
Fails-turn f xs count x first state after turn so_far fails =
    Fails-at f xs count x first state after turn.0 so_far (subst (λ y. Fails (f y) state after) turn.1 fails)

-- the piece of an element that an iterator yielded next was taken
pub taken_turn : {X Y : Type 0} (f : X → List ℕ) (xs : List X) (yielded : List Y) (y : Y) (x : X) (first state after : SinkState)
    → (length yielded < length xs) × (x ≡ get_or xs (length yielded) x) → state ≡ after_taking first (flat_map f (take (length yielded) xs))
    → Sends sent.All (f x) state after → after ≡ after_taking first (flat_map f (take (length (yielded ++ y ∷ [])) xs))
taken_turn f xs yielded y x first state after turn so_far all =
    rw (length_push yielded y)
    (taken_at f xs (length yielded) x first state after turn.0 so_far (subst (λ z. Sends sent.All (f z) state after) turn.1 all))
