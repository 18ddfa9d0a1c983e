use Rattle.cue_player.proofs.SheetReadings.{script_lines, script_short}
use Rattle.cue_player.proofs.planning.SheetRun.play.Goals as goal

pub play_sheet-requires-clause-time : goal.play_sheet-requires-clause-time
play_sheet-requires-clause-time g c κs within = script_short _ _ _ c.in_ok-sheet.sheet c.in_ok-sheet.ensures

pub play_sheet-requires-clause-lines : goal.play_sheet-requires-clause-lines
play_sheet-requires-clause-lines g c κs within = script_lines _ _ _ c.in_ok-sheet.sheet c.in_ok-sheet.ensures
