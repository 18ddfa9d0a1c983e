use Rattle.std.proofs.Common.{refl}
use Rattle.std.specs.Fmt.{digits}
use Rattle.history_model.specs.text.History.{history_text, tick_lines}
use Rattle.history_model.proofs.examples.logs.ticks_of_two_pieces.Goals as goal

pub returns-clause-one : goal.returns-clause-one
unfolding history_text tick_lines digits
returns-clause-one c = refl

pub returns-clause-two : goal.returns-clause-two
unfolding history_text tick_lines digits
returns-clause-two c = refl

pub returns-clause-empty : goal.returns-clause-empty
unfolding history_text tick_lines digits
returns-clause-empty c = refl
