use Rattle.std.proofs.Common.{◌≡◌, ◌-◌, ◌∙◌, pos, length, take, drop, replicate, All, ap, rules, arith}
use Rattle.std.proofs.lemmas.List.Elements.{All-same, All-append, All-replicate}
use Rattle.play_types.specs.Setting.{IsWide}
use Rattle.play_types.proofs.Kept.{kept_is, rest_is}
use Rattle.play_types.proofs.answer.Micros.new.Goals as goal

pub invariant_of-result : goal.invariant_of-result
invariant_of-result c =
    let n = c.args.count in
    let four : length c.args.values ≡ 4 = search rules in
    let kept = kept_is _ c.args.values n 4 c.from-used.result (pos 0) c.copy_from_slice.ensures.after c.from-used.ensures in
    let wide : All IsWide (take n c.args.values) = search rules in
    record {
      few = omega arith;
      in_range = All-same IsWide _ _ kept (All-append IsWide _ _ wide (All-replicate IsWide (4 - n) (pos 0) (search rules)));
      unused = ap (drop n) kept ∙ rest_is c.args.values (replicate (4 - n) (pos 0)) n (omega arith);
    }

pub returns-clause-value : goal.returns-clause-value
returns-clause-value c =
    ap (λ values. record { values = values; count = c.args.count })
    (kept_is _ c.args.values c.args.count 4 c.from-used.result (pos 0) c.copy_from_slice.ensures.after c.from-used.ensures)
