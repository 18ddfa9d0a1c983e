use Rattle.std.proofs.Common.{refl, subst}
use Rattle.std.specs.Prelude.{false}
use Rattle.script_player.specs.Player.{playout_in}
use Rattle.script_player.specs.Playouts.{playout_of}
use Rattle.script_player.specs.Run.{RunsScript, Streams}
use Rattle.script_player.proofs.Beginning.{as_itself, runs_as}
use Rattle.script_player.proofs.Progress.{nothing_read}
use Rattle.status_display.specs.Status.{Status}
use Rattle.run_script.proofs.running.report.Goals as goal

pub new-script-requires-clause-new : goal.new-script-requires-clause-new
new-script-requires-clause-new g c = as_itself Status (playout_of c.args.setup false) _ (c.in-Ok.ensures.represents Status refl)

pub returns-in-Err : goal.returns-in-Err
returns-in-Err g c = nothing_read _ _ _

pub returns-in-Ok : goal.returns-in-Ok
returns-in-Ok g c =
    let before : Streams = record { input = g.I.Source.state c.args.input.now; out = g.K.Sink.state c.args.out.now } in
    let after : Streams = record { input = g.I.Source.state c.play_input.new.input; out = g.K.Sink.state c.play_input.new.out } in
    runs_as Status (playout_of c.args.setup false) c.in-Ok.player (c.in-Ok.ensures.represents Status refl) _ before after
    (subst (λ p. RunsScript Status (playout_in p) c.play_input.result before after) c.new-script.ensures.player c.play_input.ensures)

pub new-script-requires-clause-shown : goal.new-script-requires-clause-shown
new-script-requires-clause-shown g c = record { last = tt; none_waits = refl }

pub play_input-requires-clause-new : goal.play_input-requires-clause-new
play_input-requires-clause-new g c = c.new-script.ensures.new _
