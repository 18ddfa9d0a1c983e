use Rattle.play_ticker.proofs.WrittenSets.{back_done, back_first, back_goes}
use Rattle.play_ticker.proofs.writing.give_back.Goals as goal

pub loop-init : goal.loop-init
loop-init g c = back_first c.args.pipe.now c.requires

pub loop-preserved : goal.loop-preserved
loop-preserved g c =
    back_goes c.in-Staged.tick c.in-Staged.scenes c.args.pipe.now c.loop.pipe c.take.new.self c.give.new.self c.in-Staged.ensures c.give.ensures c.loop.invariant

pub returns-in-Done : goal.returns-in-Done
returns-in-Done g c = back_done c.args.pipe.now c.loop.pipe c.take.new.self c.in-Done.ensures c.loop.invariant
