use Rattle.std.proofs.Common.{ap, arith, length, refl}
use Rattle.play_types.specs.History.{ticks}
use Rattle.script_player.proofs.Endings.{none_taken}
use Rattle.script_player.proofs.script.Script.new.Goals as goal

pub returns-clause-small : goal.returns-clause-small
returns-clause-small c = (omega (arith, ap ticks c.requires, ap length c.new.ensures.items), refl)

pub returns-clause-taken : goal.returns-clause-taken
returns-clause-taken c = λ run represents. none_taken run _ c.new.ensures.items refl represents
