use Rattle.view_status.proofs.Loudest.{level_more}
use Rattle.view_status.proofs.levels.levels_of.Goals as goal

pub loop-pair-preserved : goal.loop-pair-preserved
loop-pair-preserved c =
    let left = level_more c.args.sound.now 0 c.loop-pair.pair in
    let right = level_more c.args.sound.now 1 c.loop-pair.pair in
    (cc, cc)
