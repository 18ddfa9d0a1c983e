use Rattle.std.proofs.Common.{◌+◌, ◌-◌, ◌∙◌, sym, ap, map, max, arith}
use Rattle.std.specs.List.{range_with_len}
use Rattle.needed_frames.specs.Counted.{depth_at}
use Rattle.needed_frames.specs.Depth.{greatest}
use Rattle.needed_frames.proofs.Greatest.{all_looked_at, greatest_is, next_looked_at}
use Rattle.needed_frames.proofs.depths.Depths.greatest.Goals as goal

pub loop-before-preserved : goal.loop-before-preserved
loop-before-preserved c = record {
  value = c.loop-before.invariant.value
      ∙ next_looked_at (λ channel. depth_at channel c.args.self.now) c.loop-before.before c.args.channels c.loop-before.greatest (omega (arith, c.loop-before-test.true))
      ∙ ap (λ most. max most (greatest (map (λ channel. depth_at channel c.args.self.now) (range_with_len (c.loop-before.before + 1 + 1) (c.args.channels - (c.loop-before.before + 1))))))
      (sym (c.max-greatest.ensures ∙ ap (λ one. max one c.loop-before.greatest) c.depth.ensures.value));
  within = omega (arith, c.loop-before.invariant.within, c.depth.ensures.within, c.max-greatest.ensures);
}

pub returns-clause-value : goal.returns-clause-value
returns-clause-value c history has =
    sym (all_looked_at (λ channel. depth_at channel c.args.self.now) c.loop-before.before c.args.channels c.loop-before.greatest (omega (arith, c.loop-before-test.false)))
    ∙ sym c.loop-before.invariant.value
    ∙ greatest_is c.args.channels history c.args.self.now has
