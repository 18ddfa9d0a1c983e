use Rattle.std.proofs.Common.{◌++◌}
use Rattle.std.specs.List.{flat_map}
use Rattle.play_outside.proofs.Following.{added-then, added-left}
use Rattle.return_codes.specs.inner.Style.{head_of}
use Rattle.return_codes.proofs.Lines.{styled-parts}
use Rattle.return_codes.proofs.line.LineStyle.add_line.Goals as goal

pub returns-in_err-add_head : goal.returns-in_err-add_head
returns-in_err-add_head g c =
    rw styled-parts
    (added-left _ _ _ (head_of c.args.self.now) (flat_map (λ part. part.now) c.args.parts.now ++ c.args.self.now.after.now) _ _ _ c.add_head.ensures c.in_err-add_head.ensures c.from_residual.ensures)

pub returns-in_err-add_parts : goal.returns-in_err-add_parts
returns-in_err-add_parts g c =
    rw styled-parts
    (added-then _ _ (head_of c.args.self.now) (flat_map (λ part. part.now) c.args.parts.now ++ c.args.self.now.after.now) _ _ _ _ _ (rw c.in_ok-add_head.ensures at c.add_head.ensures)
    (added-left _ _ _ (flat_map (λ part. part.now) c.args.parts.now) (c.args.self.now.after.now) _ _ _ c.add_parts.ensures c.in_err-add_parts.ensures c.from_residual-in_err-add_parts.ensures))

pub returns : goal.returns
returns g c =
    rw styled-parts
    (added-then _ _ (head_of c.args.self.now) (flat_map (λ part. part.now) c.args.parts.now ++ c.args.self.now.after.now) _ _ _ _ _ (rw c.in_ok-add_head.ensures at c.add_head.ensures)
    (added-then _ _ (flat_map (λ part. part.now) c.args.parts.now) (c.args.self.now.after.now) _ _ _ _ _ (rw c.in_ok-add_parts.ensures at c.add_parts.ensures)
    c.add.ensures.adds))
