use Rattle.std.proofs.Common.{◌++◌}
use Rattle.std.specs.Prelude.{codes}
use Rattle.std.specs.List.{flat_map}
use Rattle.play_outside.proofs.Following.{added-then, added-left}
use Rattle.history_model.specs.text.History.{connection_line, command_line}
use Rattle.cmd_print.proofs.event.add_batch.Goals as goal

pub returns-in_err-add_line : goal.returns-in_err-add_line
returns-in_err-add_line g c =
    added-left _ _ _ (connection_line c.args.tag (codes "BEGIN")) (flat_map (command_line c.args.media.now c.args.tag) c.args.cmds.now ++ connection_line c.args.tag (codes "COMMIT")) _ _ _ c.add_line.ensures c.in_err-add_line.ensures c.from_residual.ensures

pub returns-in_err-add_commands : goal.returns-in_err-add_commands
returns-in_err-add_commands g c =
    added-then _ _ (connection_line c.args.tag (codes "BEGIN")) (flat_map (command_line c.args.media.now c.args.tag) c.args.cmds.now ++ connection_line c.args.tag (codes "COMMIT")) _ _ _ _ _ (rw c.in_ok-add_line.ensures at c.add_line.ensures)
    (added-left _ _ _ (flat_map (command_line c.args.media.now c.args.tag) c.args.cmds.now) (connection_line c.args.tag (codes "COMMIT")) _ _ _ c.add_commands.ensures c.in_err-add_commands.ensures c.from_residual-in_err-add_commands.ensures)

pub returns : goal.returns
returns g c =
    added-then _ _ (connection_line c.args.tag (codes "BEGIN")) (flat_map (command_line c.args.media.now c.args.tag) c.args.cmds.now ++ connection_line c.args.tag (codes "COMMIT")) _ _ _ _ _ (rw c.in_ok-add_line.ensures at c.add_line.ensures)
    (added-then _ _ (flat_map (command_line c.args.media.now c.args.tag) c.args.cmds.now) (connection_line c.args.tag (codes "COMMIT")) _ _ _ _ _ (rw c.in_ok-add_commands.ensures at c.add_commands.ensures)
    c.add_line-2.ensures)
