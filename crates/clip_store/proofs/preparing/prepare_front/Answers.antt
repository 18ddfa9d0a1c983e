use Rattle.std.proofs.Common.{inl, inr, rules, arith}
use Rattle.std.proofs.lemmas.Bool.{lt-ltb, le-ltb, cases_lt, le-leb}
use Rattle.clip_store.proofs.preparing.prepare_front.Goals as goal

pub returns : goal.returns
returns c = record {
  len = search rules;
  each = λ k within. elim (cases_lt k c.args.picture) [
    | inl lt ↦ rw (lt-ltb k c.args.picture lt, le-leb 0 k (omega arith)) (c.loop-at.invariant.done k (omega arith))
    | inr le ↦ rw (le-ltb k c.args.picture le) (c.loop-at.invariant.rest k (omega arith))
  ];
}
