use Rattle.std.proofs.Common.{refl}
use Rattle.std.specs.Fmt.{digits}
use Rattle.history_model.specs.text.History.{history_text, stop_line, tick_lines}
use Rattle.history_model.proofs.examples.logs.events_of_pieces.Goals as goal

pub returns-clause-text : goal.returns-clause-text
unfolding history_text tick_lines stop_line digits
returns-clause-text c = refl
