use Rattle.std.proofs.Common.{[], sym, subst}
use Rattle.script_player.specs.Player.{IsReady}
use Rattle.script_player.specs.Display.{IsShownBy}
use Rattle.script_player.specs.Taken.{HasTaken, run_by}
use Rattle.script_player.proofs.script.ScriptPlayer.new.Goals as goal

pub returns-clause-ready : goal.returns-clause-ready
returns-clause-ready g c = subst IsReady (sym c.new.ensures.player) c.requires.ready

pub returns-clause-shown : goal.returns-clause-shown
returns-clause-shown g c = subst (IsShownBy (g.D.Display.shows c.args.display) (g.D.Display.waiting c.args.display)) (sym c.new.ensures.player) c.requires.shown

pub returns-clause-new : goal.returns-clause-new
returns-clause-new g c = λ first.
    let shown = g.D.Display.shown c.args.display in
    subst (λ p. HasTaken (run_by shown p first) c.new.result [] first) (sym c.new.ensures.player) (c.new.ensures.taken (run_by shown c.args.player first) c.requires.new)
