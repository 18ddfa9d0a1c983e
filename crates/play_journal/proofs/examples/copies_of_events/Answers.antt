use Rattle.std.proofs.Common.{◌≡◌, ◌∷◌, ◌++◌, [], List, refl, sym, ap, ap₂, ◌∙◌, arith}
use Rattle.play_types.specs.declared.event.Event.{Event}
use Rattle.play_types.specs.declared.event.Event.TheVariants.{Do, Tick}
use Rattle.play_journal.specs.Places.{Passed, passed}
use Rattle.play_journal.proofs.examples.copies_of_events.Goals as goal

pub returns-clause-ticks_alone : goal.returns-clause-ticks_alone
returns-clause-ticks_alone c = record {
  part = Tick ∷ [];
  rest = Do c.args.tag c.args.cmd ∷ [];
  whole = refl;
  are = record { whole = refl; times = (omega arith, tt); apart = tt };
  place = refl;
  all = (λ yes. absurd (cc (yes)), λ none. absurd (cc (none)));
  some = λ event more first fits none. absurd (cc (none));
  stop = λ yes. absurd (cc (yes));
}

pub returns-clause-command_passed_over : goal.returns-clause-command_passed_over
returns-clause-command_passed_over c = λ copies.
    let at = copies.place ∙ ap (λ (part : List Event). passed (Tick ∷ part)) (sym copies.are.whole) in
    absurd (omega (arith, ap (λ (p : Passed). p.entries) at))

pub returns-clause-command_left_out : goal.returns-clause-command_left_out
returns-clause-command_left_out c = λ copies.
    let whole : Tick ∷ Do c.args.tag c.args.cmd ∷ [] ≡ (Tick ∷ []) ++ [] =
    copies.whole ∙ ap₂ (λ (part rest : List Event). part ++ rest) (sym copies.are.whole) (copies.all.0 refl) in
    absurd (cc (whole))

pub returns-clause-ticks_twice : goal.returns-clause-ticks_twice
returns-clause-ticks_twice c = λ copies.
    let whole : Tick ∷ [] ≡ Tick ∷ Tick ∷ copies.rest = copies.whole ∙ ap (λ (part : List Event). part ++ copies.rest) (sym copies.are.whole) in
    absurd (cc (whole))

pub returns-clause-nothing : goal.returns-clause-nothing
returns-clause-nothing c = λ copies. copies.some (Do c.args.tag c.args.cmd) [] refl (omega arith) (sym copies.are.whole)
