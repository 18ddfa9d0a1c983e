use Rattle.cue_player.proofs.SheetReadings.{read_failed}
use Rattle.cue_player.proofs.planning.sheet_in.Goals as goal

pub returns-in_err-bytes : goal.returns-in_err-bytes
returns-in_err-bytes g c = read_failed _ _ _ c.in_err-bytes.field-0.0 c.from_residual.result c.in_err-bytes.ensures c.from_residual.ensures.1
