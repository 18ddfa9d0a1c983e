use Rattle.std.proofs.Common.{ℕ, ◌+◌, ◌<◌, ◌^◌, sym, ap, inl, inr, arith}
use Rattle.play_types.specs.History.{held}
use Rattle.play_journal.specs.Runs.{run_of}
use Rattle.made_script.proofs.Tallying.{all_counted, counted_for, first_of_left, fits_one, none_counted, one_counted}
use Rattle.made_script.proofs.generating.commands_in.Goals as goal

pub loop-run-init : goal.loop-run-init
loop-run-init c = none_counted _ _ (rw c.into_iter-run-iterator.ensures.into_iter_gives c.events-run-items.ensures)

pub loop-run-preserved : goal.loop-run-preserved
loop-run-preserved c =
    let first = first_of_left c.in-Some.run' _ _ _ c.in-Some.is c.next.ensures.steps in
    one_counted _ _ _ (run_of c.in-Some.run') _ (rw first at c.loop-run.invariant)
    (elim c.in-Do.is [
      | inl command ↦ ap (λ (n : ℕ). c.loop-run.commands + n) (sym (ap counted_for command.2))
      | inr others ↦ elim others [
        | inl batch ↦ ap (λ (n : ℕ). c.loop-run.commands + n) (sym (ap counted_for batch.2))
        | inr stop ↦ ap (λ (n : ℕ). c.loop-run.commands + n) (sym (ap counted_for stop.1))
      ]
    ])

pub loop-run-preserved-in-Tick-1 : goal.loop-run-preserved-in-Tick-1
loop-run-preserved-in-Tick-1 c =
    let first = first_of_left c.in-Some.run' _ _ _ c.in-Some.is c.next.ensures.steps in
    let none = ap counted_for c.in-Tick.is in
    one_counted _ _ _ (run_of c.in-Some.run') _ (rw first at c.loop-run.invariant) (omega (arith, none))

pub overflow_add-commands : goal.overflow_add-commands
overflow_add-commands c =
    let few : held c.args.journal.now.events < 2 ^ 32 = omega (arith, c.held-held.ensures.value) in
    let small = fits_one c.args.journal.now.events c.loop-run.commands (2 ^ 32) _ c.held-held.ensures.range.history few c.loop-run.invariant in
    omega (arith, small)

pub returns : goal.returns
returns c = all_counted _ _ (rw c.in-None.ensures.steps.0 at c.loop-run.invariant)
