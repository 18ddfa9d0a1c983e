use Rattle.std.proofs.Common.{◌<◌, length, sym, arith}
use Rattle.std.proofs.lemmas.Grind.{common_steps}
use Rattle.play_schedule.proofs.FirstLines.{first_line_ended, first_line_last}
use Rattle.play_schedule.proofs.sheet.first_line.Goals as goal

pub returns-in-Some : goal.returns-in-Some
returns-in-Some c = rw c.without_carriage_return.ensures (first_line_ended _ _ _ (sym c.in-Some.ensures))

pub returns-in-None : goal.returns-in-None
returns-in-None c =
    let some : 0 < length c.args.text.now = grind (arith, common_steps) in
    first_line_last c.args.text.now (sym c.in-None.ensures) some
