-- Texts that are added piece by piece to a writer that gathers.
use Rattle.std.proofs.Common.{◌≡◌, ℕ, ◌+◌, ◌<◌, List, [], ◌++◌, take, drop, length, get_or, refl, sym, ap, subst, ◌∙◌, append_assoc, append-nil}
use Rattle.std.specs.List.{flat_map}
use Rattle.play_outside.specs.SinkState.{SinkState, after_taking}
use Rattle.play_outside.specs.Sink.{Sends, Fails}
use Rattle.play_outside.specs.Gathered.{Gathered, Adds}
use Rattle.play_outside.specs.declared.sink.Sent.{Sent}
use Rattle.play_outside.specs.declared.sink.Sent.TheVariants as sent
use Rattle.play_outside.proofs.Taking.{after_taking-after_taking, after_taking-nil}
use Rattle.play_outside.proofs.Sending.{taken_more, Fails-after, Fails-before, Sends-last}
use Rattle.play_outside.proofs.Parts.{flat_map-more, flat_map-parts}

-- all waits, and nothing was taken
pub Gathered-none : (waiting : List ℕ) (state : SinkState) → Gathered waiting waiting state state
Gathered-none waiting state = record { out = []; parts = refl; taken = sym (after_taking-nil state) }

-- what was added so far, and one more piece
pub Gathered-more : (whole done piece waiting more : List ℕ) (first state after : SinkState) → whole ≡ done ++ piece
    → Gathered done waiting first state → Gathered (waiting ++ piece) more state after → Gathered whole more first after
Gathered-more whole done piece waiting more first state after parts so_far step = record {
  out = so_far.out ++ step.out;
  parts = parts ∙ ap (λ (text : List ℕ). text ++ piece) so_far.parts ∙ append_assoc so_far.out waiting piece
      ∙ ap (λ (text : List ℕ). so_far.out ++ text) step.parts ∙ sym (append_assoc so_far.out step.out more);
  taken = step.taken ∙ ap (λ (s : SinkState). after_taking s step.out) so_far.taken ∙ after_taking-after_taking first so_far.out step.out;
}

-- a write failed in what waited and the next piece, after the text before it was taken in part
Fails-gathered : (done piece waiting : List ℕ) (first state after : SinkState)
    → Gathered done waiting first state → Fails (waiting ++ piece) state after → Fails (done ++ piece) first after
Fails-gathered done piece waiting first state after so_far fails =
    let text : so_far.out ++ (waiting ++ piece) ≡ done ++ piece =
    sym (ap (λ (text : List ℕ). text ++ piece) so_far.parts ∙ append_assoc so_far.out waiting piece) in
    subst (λ text. Fails text first after) text
    (Fails-after so_far.out (waiting ++ piece) first after (subst (λ s. Fails (waiting ++ piece) s after) so_far.taken fails))

-- a write failed as a piece within the text was added
pub Adds-within : (whole done piece rest waiting more : List ℕ) (first state after : SinkState) → whole ≡ (done ++ piece) ++ rest
    → Gathered done waiting first state → Adds sent.Failed (waiting ++ piece) more state after → Adds sent.Failed whole more first after
Adds-within whole done piece rest waiting more first state after parts so_far step = (
  subst (λ text. Fails text first after) (sym parts)
      (Fails-before (done ++ piece) rest first after (Fails-gathered done piece waiting first state after so_far step.0)),
  step.1,
)

-- the last piece of the text was added
pub Adds-last : (result : Sent) (whole done piece waiting more : List ℕ) (first state after : SinkState) → whole ≡ done ++ piece
    → Gathered done waiting first state → Adds result (waiting ++ piece) more state after → Adds result whole more first after
Adds-last sent.All whole done piece waiting more first state after parts so_far step =
    Gathered-more whole done piece waiting more first state after parts so_far step
Adds-last sent.Failed whole done piece waiting more first state after parts so_far step = (
  subst (λ text. Fails text first after) (sym parts) (Fails-gathered done piece waiting first state after so_far step.0),
  step.1,
)

-- what waited and the last piece of the text were written, after the rest was taken
pub Sends-added : (result : Sent) (whole done piece waiting : List ℕ) (first state after : SinkState) → whole ≡ done ++ piece
    → Gathered done waiting first state → Sends result (waiting ++ piece) state after → Sends result whole first after
Sends-added result whole done piece waiting first state after parts so_far sends =
    let text : whole ≡ so_far.out ++ (waiting ++ piece) =
    parts ∙ ap (λ (text : List ℕ). text ++ piece) so_far.parts ∙ append_assoc so_far.out waiting piece in
    Sends-last result whole so_far.out (waiting ++ piece) first state after text so_far.taken sends

-- what waited was written after the rest was taken
pub Sends-gathered : (result : Sent) (text waiting : List ℕ) (first state after : SinkState)
    → Gathered text waiting first state → Sends result waiting state after → Sends result text first after
Sends-gathered result text waiting first state after so_far sends =
    Sends-last result text so_far.out waiting first state after so_far.parts so_far.taken sends

-- what waited was taken, and then the bytes that were added to it were sent
pub Adds-sent : (result : Sent) (waiting bytes : List ℕ) (first state after : SinkState)
    → state ≡ after_taking first waiting → Sends result bytes state after → Adds result (waiting ++ bytes) [] first after
Adds-sent sent.All waiting bytes first state after so_far all = record {
  out = waiting ++ bytes;
  parts = sym (append-nil (waiting ++ bytes));
  taken = taken_more waiting bytes first state after so_far all;
}
Adds-sent sent.Failed waiting bytes first state after so_far fails =
    (Fails-after waiting bytes first after (subst (λ s. Fails bytes s after) so_far fails), refl)

-- after what waited at first, a write failed as the first piece of a text was added
pub Adds-first : (start piece rest more : List ℕ) (first after : SinkState)
    → Adds sent.Failed (start ++ piece) more first after → Adds sent.Failed (start ++ (piece ++ rest)) more first after
Adds-first start piece rest more first after step = (
  subst (λ text. Fails text first after) (append_assoc start piece rest) (Fails-before (start ++ piece) rest first after step.0),
  step.1,
)

-- after what waited at first, one more piece of a text was added
pub Gathered-next : (start whole done piece waiting more : List ℕ) (first state after : SinkState) → whole ≡ done ++ piece
    → Gathered (start ++ done) waiting first state → Gathered (waiting ++ piece) more state after → Gathered (start ++ whole) more first after
Gathered-next start whole done piece waiting more first state after parts so_far step =
    Gathered-more (start ++ whole) (start ++ done) piece waiting more first state after
    (ap (λ (text : List ℕ). start ++ text) parts ∙ sym (append_assoc start done piece)) so_far step

-- after what waited at first, a write failed as a piece within a text was added
pub Adds-next : (start whole done piece rest waiting more : List ℕ) (first state after : SinkState) → whole ≡ (done ++ piece) ++ rest
    → Gathered (start ++ done) waiting first state → Adds sent.Failed (waiting ++ piece) more state after → Adds sent.Failed (start ++ whole) more first after
Adds-next start whole done piece rest waiting more first state after parts so_far step =
    Adds-within (start ++ whole) (start ++ done) piece rest waiting more first state after
    (ap (λ (text : List ℕ). start ++ text) parts ∙ sym (append_assoc start (done ++ piece) rest)
    ∙ ap (λ (text : List ℕ). text ++ rest) (sym (append_assoc start done piece))) so_far step

-- after what waited at first, the last piece of a text was added
pub Adds-end : (result : Sent) (start whole done piece waiting more : List ℕ) (first state after : SinkState) → whole ≡ done ++ piece
    → Gathered (start ++ done) waiting first state → Adds result (waiting ++ piece) more state after → Adds result (start ++ whole) more first after
Adds-end result start whole done piece waiting more first state after parts so_far step =
    Adds-last result (start ++ whole) (start ++ done) piece waiting more first state after
    (ap (λ (text : List ℕ). start ++ text) parts ∙ sym (append_assoc start done piece)) so_far step

-- one more of several pieces was added
pub Gathered-turn : {X : Type 0} (start : List ℕ) (f : X → List ℕ) (xs : List X) (at : ℕ) (d : X) (waiting more : List ℕ) (first state after : SinkState)
    → at < length xs → Gathered (start ++ flat_map f (take at xs)) waiting first state → Gathered (waiting ++ f (get_or xs at d)) more state after
    → Gathered (start ++ flat_map f (take (at + 1) xs)) more first after
Gathered-turn start f xs at d waiting more first state after within so_far step =
    Gathered-next start (flat_map f (take (at + 1) xs)) (flat_map f (take at xs)) (f (get_or xs at d)) waiting more first state after
    (flat_map-more f xs at d within) so_far step

-- a write failed as one of several pieces was added
pub Adds-turn : {X : Type 0} (start : List ℕ) (f : X → List ℕ) (xs : List X) (at : ℕ) (d : X) (waiting more : List ℕ) (first state after : SinkState)
    → at < length xs → Gathered (start ++ flat_map f (take at xs)) waiting first state → Adds sent.Failed (waiting ++ f (get_or xs at d)) more state after
    → Adds sent.Failed (start ++ flat_map f xs) more first after
Adds-turn start f xs at d waiting more first state after within so_far step =
    Adds-next start (flat_map f xs) (flat_map f (take at xs)) (f (get_or xs at d)) (flat_map f (drop (at + 1) xs)) waiting more first state after
    (flat_map-parts f xs at d within) so_far step
