-- All that a sink took from its making on.
use Rattle.std.proofs.Common.{◌≡◌, ℕ, List, [], ◌++◌, Some, sym, ap, ◌∙◌}
use Rattle.play_outside.specs.SinkState.{SinkState, after_taking, more_taken}

taken_is : (taken text : List ℕ) → Some taken ≡ Some ([] ++ text) → taken ≡ text
taken_is taken text is = cc

-- all that a sink took after it had taken nothing
pub text_taken : (before after : SinkState) (taken text : List ℕ) → before.taken ≡ Some [] → after.taken ≡ Some taken → after ≡ after_taking before text → taken ≡ text
text_taken before after taken text none some is =
    taken_is taken text (sym some ∙ ap (λ (s : SinkState). s.taken) is ∙ ap (λ t. more_taken t text) none)
