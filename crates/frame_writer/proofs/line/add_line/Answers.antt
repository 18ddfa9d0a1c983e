use Rattle.std.proofs.Common.{refl, append-nil, arith}
use Rattle.play_outside.proofs.Gathering.{Gathered-none, Gathered-next, Adds-next, Adds-end}
use Rattle.frame_writer.proofs.Digits.{encode_lower-nil, encode_lower-more, line-parts, line-end}
use Rattle.frame_writer.proofs.line.add_line.Goals as goal

pub loop-at-init : goal.loop-at-init
loop-at-init g c = record {
  within = omega arith;
  added = rw (encode_lower-nil, append-nil) (Gathered-none c.args.text.now (g.K.Sink.state c.args.to.now));
}

pub loop-at-preserved : goal.loop-at-preserved
loop-at-preserved g c = record {
  within = omega arith;
  added = Gathered-next _ _ _ _ _ _ _ _ _ (encode_lower-more c.loop-at.at 512 c.args.bytes.now) c.loop-at.invariant.added
      (rw c.in_ok-add_digits.ensures at c.add_digits.ensures);
}

pub returns-in_err-add_digits : goal.returns-in_err-add_digits
returns-in_err-add_digits g c =
    rw c.from_residual.ensures
    (Adds-next _ _ _ _ _ _ _ _ _ _ (line-parts c.loop-at.at 512 c.args.bytes.now) c.loop-at.invariant.added (rw c.in_err-add_digits.ensures at c.add_digits.ensures))

pub returns-in_err-add_digits-2 : goal.returns-in_err-add_digits-2
returns-in_err-add_digits-2 g c =
    rw c.from_residual-in_err-add_digits-2.ensures
    (Adds-next _ _ _ _ _ _ _ _ _ _ (line-end c.loop-at.at c.args.bytes.now) c.loop-at.invariant.added (rw c.in_err-add_digits-2.ensures at c.add_digits-2.ensures))

pub returns : goal.returns
returns g c =
    let digits = Gathered-next _ _ _ _ _ _ _ _ _ refl c.loop-at.invariant.added (rw c.in_ok-add_digits-2.ensures at c.add_digits-2.ensures) in
    Adds-end _ _ _ _ _ _ _ _ _ _ (line-end c.loop-at.at c.args.bytes.now) digits c.add.ensures.adds
