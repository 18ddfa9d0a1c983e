use Rattle.std.proofs.Common.{arith}
use Rattle.play_recorder.proofs.DepthReplays.{as_many, known_after_tick}
use Rattle.play_recorder.proofs.depth_replay.DepthReplay.tick.Goals as goal

pub returns-clause-depths : goal.returns-clause-depths
returns-clause-depths c =
    known_after_tick c.args.self.now c.tick.new.self c.tick-2.new.self c.requires.depths c.tick.ensures.made c.tick.ensures.scenes c.tick-2.ensures.depths

pub returns-clause-few : goal.returns-clause-few
returns-clause-few c =
    let many = as_many c.args.self.now c.tick.new.self c.tick-2.new.self c.requires.depths c.tick.ensures.made c.tick.ensures.scenes in
    omega (arith, many, c.tick-2.ensures.few)
