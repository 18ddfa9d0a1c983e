use Rattle.std.proofs.Common.{append-nil}
use Rattle.std.specs.List.{flat_map}
use Rattle.play_outside.proofs.Following.{added-then, added-left}
use Rattle.return_codes.specs.inner.Style.{later, styled}
use Rattle.return_codes.proofs.line.LineStyle.add_two_lines.Goals as goal

pub returns-in_err-add_line : goal.returns-in_err-add_line
returns-in_err-add_line g c =
    rw append-nil
    (added-left _ _ _ (styled c.args.self.now c.args.first.now) (styled (later c.args.self.now) (flat_map (λ part. part.now) c.args.second.now)) _ _ _ (rw append-nil at c.add_line.ensures) c.in_err-add_line.ensures c.from_residual.ensures)

pub returns : goal.returns
returns g c =
    rw append-nil
    (added-then _ _ (styled c.args.self.now c.args.first.now) (styled (later c.args.self.now) (flat_map (λ part. part.now) c.args.second.now)) _ _ _ _ _ (rw (append-nil, c.in_ok-add_line.ensures) at c.add_line.ensures)
    (rw c.later.ensures at c.add_line-2.ensures))
