use Rattle.std.proofs.Common.{◌≡◌, ◌∷◌, ◌++◌, ◌+◌, ◌<◌, ◌^◌, List, length, subst, sym, ◌∙◌, arith}
use Rattle.play_types.specs.History.{IsHistory}
use Rattle.play_types.specs.declared.event.Event.{Event}
use Rattle.play_journal.specs.Runs.{Run, run_of}
use Rattle.play_journal.proofs.Copying.{IsCopied, first_of_left, few_passed, one_copied, part_copied}
use Rattle.play_journal.proofs.Few.{few_events}
use Rattle.play_journal.proofs.journal.Journal.copy_since.Goals as goal

pub returns-then-not-add : goal.returns-then-not-add
returns-then-not-add c = λ past later eq at.
    let run : Run = run_of c.in-Some.run' in
    let left : List Run = c.next.new.self in
    let first = first_of_left c.in-Some.run' _ _ _ c.in-Some.is c.next.ensures.steps in
    let copied : IsCopied past later c.loop-run.place c.loop-run.room (run ∷ left) =
    subst (λ (runs : List Run). IsCopied past later c.loop-run.place c.loop-run.room runs) first (c.loop-run.invariant.copied past later eq at) in
    let same : IsCopied past later c.loop-run.place c.add.new.self (run ∷ left) =
    subst (λ (runs : List Run). IsCopied past later c.loop-run.place runs (run ∷ left)) (sym c.if-not-add.ensures.runs) copied in
    part_copied past later c.loop-run.place c.add.new.self run left same
    (λ none fits. absurd (cc (c.if-not-add.ensures.empty (sym c.if-not-add.ensures.runs ∙ none) fits)))
    (subst IsHistory eq c.events_since-run-items.ensures.range.history)

pub loop-run-preserved : goal.loop-run-preserved
loop-run-preserved c =
    let run : Run = run_of c.in-Some.run' in
    let left : List Run = c.next.new.self in
    let first = first_of_left c.in-Some.run' _ _ _ c.in-Some.is c.next.ensures.steps in
    let within = c.events_since-run-items.ensures.range in
    let times = rw first at c.loop-run.invariant.times in
    let few : length c.args.self.now.events < 2 ^ 50 =
    omega (arith, few_events c.args.self.now.events within.history, within.commands, within.ticks, c.limit-limit.ensures, c.limit-limit.type_inv) in
    record {
      times = times.1;
      copied = λ past later eq at.
          let copied : IsCopied past later c.loop-run.place c.loop-run.room (run ∷ left) =
          subst (λ (runs : List Run). IsCopied past later c.loop-run.place c.loop-run.room runs) first (c.loop-run.invariant.copied past later eq at) in
          let small = few_passed past later c.loop-run.place c.loop-run.room run left copied (subst (λ (es : List Event). length es < 2 ^ 50) eq few) in
          one_copied past later c.loop-run.place c.pass.new.self c.loop-run.room c.add.new.self run left copied c.if-not-add.ensures.runs
          (c.pass.ensures times.0 small.0 small.1);
    }
