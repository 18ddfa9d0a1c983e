use Rattle.std.proofs.Common.{sym}
use Rattle.play_outside.proofs.Taking.{after_taking-nil}
use Rattle.script_player.proofs.display.UnshownDisplay.finish.Goals as goal

pub returns-clause-sends : goal.returns-clause-sends
returns-clause-sends g c = sym (after_taking-nil (g.K.Sink.state c.args._out.now))
