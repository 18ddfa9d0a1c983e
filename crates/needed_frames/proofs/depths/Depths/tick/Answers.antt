use Rattle.std.proofs.Common.{◌+◌, ap, arith}
use Rattle.needed_frames.specs.Counted.{DepthsView}
use Rattle.needed_frames.proofs.Counting.{all_counted}
use Rattle.needed_frames.proofs.depths.Depths.tick.Goals as goal

pub returns-clause-depths : goal.returns-clause-depths
returns-clause-depths c history has is =
    all_counted c.args.self.now c.args.scenes.now c.channels-at-end.ensures.range history (c.self.inside.ticks + 1) c.loop-at.depths
    (ap (λ (depths : DepthsView). depths.ticks + 1) (c.self.view_is)) has is
    (λ channel h. c.loop-at.invariant.each channel (h.0, omega (arith, h.1, c.loop-at-test.false, c.channels-at-end.ensures.value)))
