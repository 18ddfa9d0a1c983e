-- Sinks that take one piece after another.
use Rattle.std.proofs.Common.{◌≡◌, ◌-◌, ℕ, ◌+◌, ◌≤◌, List, [], ◌++◌, take, drop, length, refl, ap, append_assoc, append-nil, arith}
use Rattle.std.specs.Prelude.{Option, Some, None}
use Rattle.std.proofs.lemmas.Grind.{common_steps}
use Rattle.std.proofs.Math.Seq.{take-add}
use Rattle.play_outside.specs.SinkState.{SinkState, more_taken, after_taking}

pub more_taken-more_taken : (taken : Option (List ℕ)) (a b : List ℕ) → more_taken (more_taken taken a) b ≡ more_taken taken (a ++ b)
more_taken-more_taken None a b = refl
more_taken-more_taken (Some before) a b = ap Some (append_assoc before a b)

pub more_taken-nil : (taken : Option (List ℕ)) → more_taken taken [] ≡ taken
more_taken-nil None = refl
more_taken-nil (Some before) = ap Some (append-nil before)

-- two pieces in a row are taken as one
pub after_taking-after_taking : (state : SinkState) (a b : List ℕ) → after_taking (after_taking state a) b ≡ after_taking state (a ++ b)
after_taking-after_taking state a b =
    ap (λ (t : Option (List ℕ)). record state { taken = t }) (more_taken-more_taken state.taken a b)

-- taking nothing changes nothing
pub after_taking-nil : (state : SinkState) → after_taking state [] ≡ state
after_taking-nil state =
    ap (λ (t : Option (List ℕ)). record state { taken = t }) (more_taken-nil state.taken)

-- a piece that is taken after a prefix of a text, from where the prefix ends
pub after_taking-more : (first state after : SinkState) (text : List ℕ) (at count : ℕ) → at ≤ length text
    → state ≡ after_taking first (take at text)
    → after ≡ after_taking state (take count (take (length text - at) (drop at text)))
    → after ≡ after_taking first (take (at + count) text)
after_taking-more first state after text at count within before step =
    let rest : take (length text - at) (drop at text) ≡ drop at text = grind (arith, common_steps) in
    rw (step, rest, before, after_taking-after_taking, take-add at count text) refl
