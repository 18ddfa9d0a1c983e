use Rattle.play_types.specs.Words.{name_text}
use Rattle.play_types.specs.Commands.{command_name}
use Rattle.history_model.specs.text.Commands.{arguments}
use Rattle.play_outside.proofs.Following.{added-then, added-left}
use Rattle.cmd_print.specs.inner.Bytes.{spaced}
use Rattle.cmd_print.proofs.Texts.{command_text-bytes}
use Rattle.cmd_print.proofs.command.add_command.Goals as goal

pub returns-in_err-add : goal.returns-in_err-add
returns-in_err-add g c =
    rw (command_text-bytes c.args.media.now c.args.cmd.now)
    (added-left _ _ _ (name_text (command_name c.args.cmd.now)) (spaced (arguments c.args.media.now c.args.cmd.now)) _ _ _ (rw (c.as_bytes.ensures.value, c.as_str.ensures.text, c.name.ensures) at c.add.ensures.adds) c.in_err-add.ensures c.from_residual.ensures)

pub returns : goal.returns
returns g c =
    rw (command_text-bytes c.args.media.now c.args.cmd.now)
    (added-then _ _ (name_text (command_name c.args.cmd.now)) (spaced (arguments c.args.media.now c.args.cmd.now)) _ _ _ _ _ (rw (c.as_bytes.ensures.value, c.as_str.ensures.text, c.name.ensures, c.in_ok-add.ensures) at c.add.ensures.adds)
    c.add_arguments.ensures)
