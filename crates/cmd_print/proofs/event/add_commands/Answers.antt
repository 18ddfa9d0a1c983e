use Rattle.std.proofs.Common.{◌≡◌, ◌++◌, rules, append-nil, get_or, subst}
use Rattle.play_types.specs.declared.command.Cmd.{Cmd}
use Rattle.play_outside.specs.Gathered.{Gathered}
use Rattle.play_outside.proofs.Following.{failed-turn}
use Rattle.play_outside.proofs.Gathering.{Gathered-none, Gathered-turn}
use Rattle.history_model.specs.text.History.{command_line}
use Rattle.cmd_print.proofs.event.add_commands.Goals as goal

pub loop-cmd-init : goal.loop-cmd-init
loop-cmd-init g c = rw append-nil (Gathered-none c.args.text.now (g.K.Sink.state c.args.to.now))

pub returns-in_err-add_command_line : goal.returns-in_err-add_command_line
returns-in_err-add_command_line g c =
    let item : c.cmd-item.result ≡ get_or c.args.cmds.now c.loop-cmd.cmd-index c.cmd-item.result = search rules in
    rw c.from_residual.ensures
    (failed-turn (command_line c.args.media.now c.args.tag) c.args.cmds.now c.loop-cmd.cmd-index c.cmd-item.result _ _ _ _ _ _
    (c.loop-cmd-test.true, item) c.loop-cmd.invariant (rw c.in_err-add_command_line.ensures at c.add_command_line.ensures))

pub loop-cmd-preserved : goal.loop-cmd-preserved
loop-cmd-preserved g c =
    let item : c.cmd-item.result ≡ get_or c.args.cmds.now c.loop-cmd.cmd-index c.cmd-item.result = search rules in
    let step : Gathered (c.loop-cmd.text ++ command_line c.args.media.now c.args.tag c.cmd-item.result) c.add_command_line.new.text
    (g.K.Sink.state c.loop-cmd.to) (g.K.Sink.state c.add_command_line.new.to) = rw c.in_ok-add_command_line.ensures at c.add_command_line.ensures in
    Gathered-turn _ (λ (cmd : Cmd). command_line c.args.media.now c.args.tag cmd) c.args.cmds.now c.loop-cmd.cmd-index c.cmd-item.result _ _ _ _ _
    c.loop-cmd-test.true c.loop-cmd.invariant
    (subst (λ (cmd : Cmd). Gathered (c.loop-cmd.text ++ command_line c.args.media.now c.args.tag cmd) c.add_command_line.new.text
    (g.K.Sink.state c.loop-cmd.to) (g.K.Sink.state c.add_command_line.new.to)) item step)
