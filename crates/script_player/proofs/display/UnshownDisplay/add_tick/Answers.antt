use Rattle.std.specs.Prelude.{[]}
use Rattle.play_outside.proofs.Gathering.{Gathered-none}
use Rattle.script_player.proofs.display.UnshownDisplay.add_tick.Goals as goal

pub returns-clause-added : goal.returns-clause-added
returns-clause-added g c = λ events made last. Gathered-none [] (g.K.Sink.state c.args._out.now)
