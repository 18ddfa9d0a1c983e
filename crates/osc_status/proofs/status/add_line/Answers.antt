use Rattle.std.proofs.Common.{◌++◌, ◌∷◌, []}
use Rattle.hex.specs.Hex.{encode_lower}
use Rattle.play_outside.proofs.Following.{added-then, added-left}
use Rattle.osc_status.specs.Message.{message_bytes}
use Rattle.osc_status.specs.Status.{message_of}
use Rattle.osc_status.specs.inner.Lines.{line_start}
use Rattle.osc_status.proofs.StatusLines.{line-parts}
use Rattle.osc_status.proofs.status.add_line.Goals as goal

pub returns-in_err-add_start : goal.returns-in_err-add_start
returns-in_err-add_start g c =
    rw (line-parts c.args.ticks (message_of c.args.names.now c.args.message))
    (added-left _ _ _ (line_start c.args.ticks) ((encode_lower (message_bytes (message_of c.args.names.now c.args.message))) ++ (10 ∷ [])) _ _ _
    c.add_start.ensures c.in_err-add_start.ensures c.from_residual.ensures)

pub returns-in_err-add_message : goal.returns-in_err-add_message
returns-in_err-add_message g c =
    rw (line-parts c.args.ticks (message_of c.args.names.now c.args.message))
    (added-then _ _ (line_start c.args.ticks) ((encode_lower (message_bytes (message_of c.args.names.now c.args.message))) ++ (10 ∷ [])) _ _ _ _ _
    (rw c.in_ok-add_start.ensures at c.add_start.ensures)
    (added-left _ _ _ (encode_lower (message_bytes (message_of c.args.names.now c.args.message))) (10 ∷ []) _ _ _
    c.add_message.ensures c.in_err-add_message.ensures c.from_residual-in_err-add_message.ensures))

pub returns : goal.returns
returns g c =
    rw (line-parts c.args.ticks (message_of c.args.names.now c.args.message))
    (added-then _ _ (line_start c.args.ticks) ((encode_lower (message_bytes (message_of c.args.names.now c.args.message))) ++ (10 ∷ [])) _ _ _ _ _
    (rw c.in_ok-add_start.ensures at c.add_start.ensures)
    (added-then _ _ (encode_lower (message_bytes (message_of c.args.names.now c.args.message))) (10 ∷ []) _ _ _ _ _
    (rw c.in_ok-add_message.ensures at c.add_message.ensures) c.add.ensures.adds))
