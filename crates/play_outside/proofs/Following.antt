-- Texts that are written part by part, with a `?` after each part.
use Rattle.std.proofs.Common.{◌≡◌, ℕ, ◌<◌, List, [], ◌∷◌, ◌++◌, take, length, get_or, refl, subst}
use Rattle.std.specs.List.{flat_map}
use Rattle.std.proofs.lemmas.List.{length_push}
use Rattle.play_outside.specs.SinkState.{SinkState}
use Rattle.play_outside.specs.Sink.{Sends}
use Rattle.play_outside.specs.Gathered.{Gathered, Adds}
use Rattle.play_outside.specs.declared.sink.Sent.{Sent}
use Rattle.play_outside.specs.declared.sink.Sent.TheVariants as sent
use Rattle.play_outside.proofs.Gathering.{Adds-end, Adds-first, Adds-turn, Gathered-turn}

-- the first part was added, and then the rest of the text
pub added-then : (result : Sent) (start a b waiting more : List ℕ) (first state after : SinkState)
    → Gathered (start ++ a) waiting first state → Adds result (waiting ++ b) more state after → Adds result (start ++ (a ++ b)) more first after
added-then result start a b waiting more first state after so_far step =
    Adds-end result start (a ++ b) a b waiting more first state after refl so_far step

-- a write failed as the first part was added, and so the `?` returned
pub added-left : (one left : Sent) (start a rest more : List ℕ) (first after : SinkState)
    → Adds one (start ++ a) more first after → one ≡ sent.Failed → left ≡ sent.Failed → Adds left (start ++ (a ++ rest)) more first after
added-left one left start a rest more first after step failed leaves =
    rw leaves (Adds-first start a rest more first after (rw failed at step))

-- a write failed as the text was added, and so the `?` returned
pub gathered-left : (one left : Sent) (text more : List ℕ) (first after : SinkState)
    → Adds one text more first after → one ≡ sent.Failed → left ≡ sent.Failed → Sends left text first after
gathered-left one left text more first after step failed leaves = rw leaves (rw failed at step).0

-- the piece of an element that an iterator yielded next was added
pub added-turn : {X Y : Type 0} (f : X → List ℕ) (xs : List X) (yielded : List Y) (y : Y) (x : X) (start waiting more : List ℕ) (first state after : SinkState)
    → (length yielded < length xs) × (x ≡ get_or xs (length yielded) x)
    → Gathered (start ++ flat_map f (take (length yielded) xs)) waiting first state → Gathered (waiting ++ f x) more state after
    → Gathered (start ++ flat_map f (take (length (yielded ++ y ∷ [])) xs)) more first after
added-turn f xs yielded y x start waiting more first state after turn so_far step =
    rw (length_push yielded y)
    (Gathered-turn start f xs (length yielded) x waiting more first state after turn.0 so_far
    (subst (λ z. Gathered (waiting ++ f z) more state after) turn.1 step))

-- a write failed as the piece of an element was added that an iterator yielded next
pub failed-turn : {X : Type 0} (f : X → List ℕ) (xs : List X) (count : ℕ) (x : X) (start waiting more : List ℕ) (first state after : SinkState)
    → (count < length xs) × (x ≡ get_or xs count x)
    → Gathered (start ++ flat_map f (take count xs)) waiting first state → Adds sent.Failed (waiting ++ f x) more state after
    → Adds sent.Failed (start ++ flat_map f xs) more first after
failed-turn f xs count x start waiting more first state after turn so_far step =
    Adds-turn start f xs count x waiting more first state after turn.0 so_far
    (subst (λ z. Adds sent.Failed (waiting ++ f z) more state after) turn.1 step)
