use Rattle.std.proofs.Common.{inl, inr, rules, arith}
use Rattle.std.proofs.lemmas.Bool.{lt-ltb, le-ltb, cases_lt}
use Rattle.clip_format.proofs.straight.straighten.Goals as goal

pub returns : goal.returns
returns c = record {
  len = search rules;
  each = λ k within. elim (cases_lt k c.args.to) [
    | inl lt ↦ rw (lt-ltb k c.args.to lt) (c.loop-at.invariant.done k (omega arith))
    | inr le ↦ rw (le-ltb k c.args.to le) (c.loop-at.invariant.rest k (omega arith))
  ];
}
