use Rattle.std.proofs.Common.{ap, ◌∙◌, arith}
use Rattle.rtrb.specs.Ring.{sent}
use Rattle.live_output.specs.declared.cutter.FrameCutter.{FrameCutter}
use Rattle.live_output.proofs.Cutting.{cut_ends}
use Rattle.live_output.proofs.cutter.FrameCutter.add.Goals as goal

pub returns-else-end-self-clause-cut : goal.returns-else-end-self-clause-cut
returns-else-end-self-clause-cut c =
    λ written cut.
    let same = c.keep.ensures.rest in
    let size = ap (λ (k : FrameCutter). k.size) same in
    let at = ap (λ (k : FrameCutter). k.at) same in
    let begun = c.begin.ensures.size in
    cut_ends written c.args.part.now c.begin.new.self c.keep.new.self c.hand_on.new.self (c.begin.ensures.cut written cut)
    (omega (arith, size, at, begun.0, begun.1, c.requires.fits, c.if-end-self.false))
    (ap (λ (k : FrameCutter). sent k.out) same) (ap (λ (k : FrameCutter). k.dropped) same) c.keep.ensures.kept c.hand_on.ensures.handed
    c.hand_on.ensures.rest.0 c.hand_on.ensures.rest.1 (c.hand_on.ensures.rest.2 ∙ size)
