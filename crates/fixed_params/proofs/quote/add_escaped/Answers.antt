use Rattle.std.proofs.Common.{◌≡◌, ◌+◌, length, append-nil, arith}
use Rattle.play_outside.proofs.Gathering.{Gathered-none, Gathered-next, Adds-next, Adds-end}
use Rattle.amcp_text.proofs.Escapes.{plain_none, plain_more, escape-more, escape-parts, plain-whole}
use Rattle.fixed_params.proofs.quote.add_escaped.Goals as goal
use Rattle.fixed_params.proofs.quote.add_escaped.Goals.{in-Some+in_ok-add_parts, in_default}

pub loop-at-init : goal.loop-at-init
loop-at-init g c = record {
  order = omega arith;
  plain = plain_none 0 c.args.name.now;
  gathered = rw append-nil (Gathered-none c.args.text.now (g.K.Sink.state c.args.to.now));
}

pub returns-in_err-add_parts : goal.returns-in_err-add_parts
returns-in_err-add_parts g c =
    rw c.from_residual.ensures
    (Adds-next _ _ _ _ _ _ _ _ _ _ (escape-parts c.loop-at.added c.loop-at.at c.args.name.now c.loop-at-test.true c.loop-at.invariant.plain)
    c.loop-at.invariant.gathered (rw c.in-Some.ensures.some (rw c.in_err-add_parts.ensures at c.add_parts.ensures)))

pub loop-at-preserved : goal.loop-at-preserved
loop-at-preserved g c = elim c.match-escape_of.branch [
  | in-Some+in_ok-add_parts w ↦ record {
    order = omega arith;
    plain = rw w.added-is (plain_none (c.loop-at.at + 1) c.args.name.now);
    gathered = rw (w.added-is, w.text-is, w.to-is)
        (Gathered-next _ _ _ _ _ _ _ _ _ (escape-more c.loop-at.added c.loop-at.at c.args.name.now c.loop-at-test.true c.loop-at.invariant.plain)
        c.loop-at.invariant.gathered (rw w.in-Some.ensures.some (rw w.in_ok-add_parts.ensures at w.add_parts.ensures)));
  }
  | in_default w ↦ record {
    order = omega arith;
    plain = rw w.added-is (plain_more c.loop-at.added c.loop-at.at c.args.name.now c.loop-at.invariant.order c.loop-at-test.true w.in_default.ensures.none c.loop-at.invariant.plain);
    gathered = rw (w.added-is, w.text-is, w.to-is) c.loop-at.invariant.gathered;
  }
]

pub returns : goal.returns
returns g c =
    let end : c.loop-at.at ≡ length c.args.name.now = omega arith in
    Adds-end _ _ _ _ _ _ _ _ _ _ (plain-whole c.loop-at.added c.args.name.now (rw end at c.loop-at.invariant.plain)) c.loop-at.invariant.gathered c.add.ensures.adds
