use Rattle.std.proofs.Common.{◌≡◌, ◌+◌, refl, sym, ◌∙◌, arith, rules}
use Rattle.cmd_parse.proofs.OptionLaws.{run_at, run_end, run_options}
use Rattle.cmd_parse.proofs.options.Given.read.Goals as goal

pub returns-in_err-more_options-clause-value : goal.returns-in_err-more_options-clause-value
returns-in_err-more_options-clause-value c =
    let e = run_at c.args.line.now c.loop-at.at c.loop-at.options _ (omega arith) c.in_err-more_options.ensures.value in
    rw (← run_options c.args.line.now c.args.first, ← c.loop-at.invariant.same, e) (search rules)

pub loop-at-preserved : goal.loop-at-preserved
loop-at-preserved c =
    let more = c.in_ok-more_options.more in
    let e = run_at c.args.line.now c.loop-at.at c.loop-at.options _ (omega arith) c.in_ok-more_options.ensures.value in
    let next : c.loop-at.at + (1 + more) ≡ c.loop-at.at + 1 + more = omega arith in
    record {
      same = rw next (sym e ∙ c.loop-at.invariant.same);
      frames = c.in_ok-more_options.ensures.frames;
    }

pub returns-clause-value : goal.returns-clause-value
returns-clause-value c =
    let e = run_end c.args.line.now c.loop-at.at c.loop-at.options (omega arith) in
    rw (← run_options c.args.line.now c.args.first, ← c.loop-at.invariant.same, e) refl
