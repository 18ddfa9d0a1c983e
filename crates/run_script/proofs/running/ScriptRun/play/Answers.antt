use Rattle.std.proofs.Common.{refl, rules, subst}
use Rattle.script_player.specs.Player.{playout_in}
use Rattle.script_player.specs.Playouts.{playout_of}
use Rattle.script_player.specs.Run.{RunsScript, Streams}
use Rattle.script_player.specs.Shown.{Frames}
use Rattle.script_player.proofs.Beginning.{as_itself, runs_as}
use Rattle.script_player.proofs.Progress.{nothing_read}
use Rattle.script_player.proofs.Ticked.{first_shown}
use Rattle.run_script.proofs.running.ScriptRun.play.Goals as goal

pub new-script-requires-clause-new : goal.new-script-requires-clause-new
new-script-requires-clause-new g c = as_itself Frames (playout_of c.args.self.setup c.args.self.options.digests) _ (c.in-Ok-new.ensures.represents Frames refl)

pub new-script-requires-clause-shown : goal.new-script-requires-clause-shown
new-script-requires-clause-shown g c =
    first_shown _ _ c.in-Ok-new.player _ c.in-Ok-new.ensures.setup c.in-Ok-new.ensures.empty (search rules, c.in-Ok.ensures.frames) c.in-Ok.ensures.none_waits

pub returns-in-Ok-new : goal.returns-in-Ok-new
returns-in-Ok-new g c =
    let before : Streams = record { input = g.I.Source.state c.args.input.now; out = g.K.Sink.state c.args.out.now } in
    let after : Streams = record { input = g.I.Source.state c.play_input.new.input; out = g.K.Sink.state c.play_input.new.out } in
    runs_as Frames (playout_of c.args.self.setup c.args.self.options.digests) c.in-Ok-new.player (c.in-Ok-new.ensures.represents Frames refl) _ before after
    (subst (λ p. RunsScript Frames (playout_in p) c.play_input.result before after) c.new-script.ensures.player c.play_input.ensures)

pub returns-in-Err-new : goal.returns-in-Err-new
returns-in-Err-new g c = nothing_read _ _ _

pub returns-in-Err : goal.returns-in-Err
returns-in-Err g c = nothing_read _ _ _

pub play_input-requires-clause-new : goal.play_input-requires-clause-new
play_input-requires-clause-new g c = c.new-script.ensures.new _
