-- Texts that are sent in parts, one after another.
use Rattle.std.proofs.Common.{◌≡◌, ℕ, ◌+◌, ◌<◌, List, ◌++◌, take, length, sym, ap, ◌∙◌, subst, arith, length-append}
use Rattle.std.proofs.Math.Seq.{take-append-add}
use Rattle.std.proofs.lemmas.List.{take-append-le}
use Rattle.play_outside.specs.SinkState.{SinkState, after_taking, after_fault}
use Rattle.play_outside.specs.Sink.{Sends, Fails}
use Rattle.play_outside.specs.declared.sink.Sent.{Sent}
use Rattle.play_outside.specs.declared.sink.Sent.TheVariants as sent
use Rattle.play_outside.proofs.Taking.{after_taking-after_taking}

-- the first part was taken and the sink failed in the second
pub Fails-after : (a b : List ℕ) (first after : SinkState) → Fails b (after_taking first a) after → Fails (a ++ b) first after
Fails-after a b first after fails =
    let within : fails.count < length b = fails.some_left in record {
      count = length a + fails.count;
      some_left = omega (arith, length-append a b);
      stopped =
          fails.stopped ∙ ap after_fault (after_taking-after_taking first a (take fails.count b)
          ∙ ap (after_taking first) (sym (take-append-add a b fails.count)));
    }

-- the sink failed in the first part
pub Fails-before : (a b : List ℕ) (first after : SinkState) → Fails a first after → Fails (a ++ b) first after
Fails-before a b first after fails =
    let within : fails.count < length a = fails.some_left in record {
      count = fails.count;
      some_left = omega (arith, length-append a b);
      stopped = fails.stopped ∙ ap (λ bytes. after_fault (after_taking first bytes)) (sym (take-append-le fails.count a b (omega arith)));
    }

-- all of the first part was taken, and then the second was sent
pub Sends-then : (result : Sent) (a b : List ℕ) (first state after : SinkState) → Sends sent.All a first state → Sends result b state after → Sends result (a ++ b) first after
Sends-then sent.All a b first state after all rest = rest ∙ ap (λ (s : SinkState). after_taking s b) all ∙ after_taking-after_taking first a b
Sends-then sent.Failed a b first state after all rest = Fails-after a b first after (subst (λ s. Fails b s after) all rest)

-- what was sent so far, and one more piece of which all was taken
pub taken_more : (done piece : List ℕ) (first state after : SinkState) → state ≡ after_taking first done → Sends sent.All piece state after → after ≡ after_taking first (done ++ piece)
taken_more done piece first state after so_far all = all ∙ ap (λ (s : SinkState). after_taking s piece) so_far ∙ after_taking-after_taking first done piece

-- the sink failed in a piece of the text, after what comes before it was taken
pub Fails-within : (whole done piece rest : List ℕ) (first state after : SinkState) → whole ≡ (done ++ piece) ++ rest → state ≡ after_taking first done → Fails piece state after → Fails whole first after
Fails-within whole done piece rest first state after parts so_far fails =
    subst (λ text. Fails text first after) (sym parts)
    (Fails-before (done ++ piece) rest first after
    (Fails-after done piece first after (subst (λ s. Fails piece s after) so_far fails)))

-- the last piece of the text was sent, after what comes before it was taken
pub Sends-last : (result : Sent) (whole done piece : List ℕ) (first state after : SinkState) → whole ≡ done ++ piece → state ≡ after_taking first done → Sends result piece state after → Sends result whole first after
Sends-last sent.All whole done piece first state after parts so_far all =
    taken_more done piece first state after so_far all ∙ ap (after_taking first) (sym parts)
Sends-last sent.Failed whole done piece first state after parts so_far fails =
    subst (λ text. Fails text first after) (sym parts) (Fails-after done piece first after (subst (λ s. Fails piece s after) so_far fails))
