use Rattle.std.proofs.Common.{◌+◌, ◌≤◌, arith}
use Rattle.play_schedule.proofs.LinesLeft.{lines_left_ticks}
use Rattle.play_schedule.proofs.cursor.Cursor.wait.Goals as goal

pub returns-clause-left : goal.returns-clause-left
returns-clause-left c = λ cues.
    let before = c.args.self.now in
    let upto : before.taken + c.min-ticks.result ≤ before.moment = omega arith in
    lines_left_ticks cues before.ticks before.taken c.min-ticks.result ((before.moment, before.cue), before.copies) before.later.entries upto
