use Rattle.script_player.specs.Player.{playout_in}
use Rattle.script_player.proofs.Progress.{runs_script}
use Rattle.script_player.proofs.script.ScriptPlayer.play_input.Goals as goal

pub returns : goal.returns
returns g c = runs_script (g.D.Display.shown c.args.self.display) (playout_in c.args.self.script.player) _ _ _ _ c.play.ensures
