use Rattle.std.proofs.Common.{sym, subst}
use Rattle.script_player.specs.Display.{IsShownBy}
use Rattle.script_player.proofs.Stepping.{always}
use Rattle.script_player.proofs.script.ScriptPlayer.take_byte.Goals as goal

pub returns-else-byte-eq10-clause-shown : goal.returns-else-byte-eq10-clause-shown
returns-else-byte-eq10-clause-shown g c =
    always c.keep_byte.result
    (subst (IsShownBy (g.D.Display.shows c.args.self.now.display) (g.D.Display.waiting c.args.self.now.display)) (sym c.keep_byte.ensures.player) c.requires.shown)

pub returns-else-byte-eq10-clause-takes : goal.returns-else-byte-eq10-clause-takes
returns-else-byte-eq10-clause-takes g c = λ run bytes told taken. c.keep_byte.ensures.takes run bytes _ taken
