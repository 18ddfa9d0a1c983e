use Rattle.std.proofs.Common.{◌≡◌, ◌-◌, ◌∙◌, length, drop, replicate, ap, rules, arith}
use Rattle.play_types.specs.declared.answer.Status.TheVariants.{Empty}
use Rattle.play_types.proofs.Kept.{kept_is, rest_is}
use Rattle.play_types.proofs.answer.StatusList.new.Goals as goal

pub invariant_of-result : goal.invariant_of-result
invariant_of-result c =
    let n = c.args.count in
    let all : length c.args.channels ≡ 16 = search rules in
    let kept = kept_is _ c.args.channels n 16 c.from-used.result Empty c.copy_from_slice.ensures.after c.from-used.ensures in
    record {
      few = omega arith;
      unused = ap (drop n) kept ∙ rest_is c.args.channels (replicate (16 - n) Empty) n (omega arith);
    }

pub returns-clause-value : goal.returns-clause-value
returns-clause-value c =
    ap (λ channels. record { channels = channels; count = c.args.count })
    (kept_is _ c.args.channels c.args.count 16 c.from-used.result Empty c.copy_from_slice.ensures.after c.from-used.ensures)
