use Rattle.std.proofs.Common.{◌++◌, ◌∷◌, []}
use Rattle.hex.specs.Hex.{encode_lower}
use Rattle.play_outside.proofs.Following.{added-then, added-left}
use Rattle.osc_status.specs.Message.{message_bytes}
use Rattle.osc_status.specs.Status.{ticks_message}
use Rattle.osc_status.specs.inner.Lines.{line_start}
use Rattle.osc_status.proofs.StatusLines.{line-parts}
use Rattle.osc_status.proofs.status.add_ticks_line.Goals as goal

pub returns-in_err-add_start : goal.returns-in_err-add_start
returns-in_err-add_start g c =
    rw (line-parts c.args.ticks (ticks_message c.args.channel c.args.ticks))
    (added-left _ _ _ (line_start c.args.ticks) ((encode_lower (message_bytes (ticks_message c.args.channel c.args.ticks))) ++ (10 ∷ [])) _ _ _
    c.add_start.ensures c.in_err-add_start.ensures c.from_residual.ensures)

pub returns-in_err-add_ticks : goal.returns-in_err-add_ticks
returns-in_err-add_ticks g c =
    rw (line-parts c.args.ticks (ticks_message c.args.channel c.args.ticks))
    (added-then _ _ (line_start c.args.ticks) ((encode_lower (message_bytes (ticks_message c.args.channel c.args.ticks))) ++ (10 ∷ [])) _ _ _ _ _
    (rw c.in_ok-add_start.ensures at c.add_start.ensures)
    (added-left _ _ _ (encode_lower (message_bytes (ticks_message c.args.channel c.args.ticks))) (10 ∷ []) _ _ _
    c.add_ticks.ensures c.in_err-add_ticks.ensures c.from_residual-in_err-add_ticks.ensures))

pub returns : goal.returns
returns g c =
    rw (line-parts c.args.ticks (ticks_message c.args.channel c.args.ticks))
    (added-then _ _ (line_start c.args.ticks) ((encode_lower (message_bytes (ticks_message c.args.channel c.args.ticks))) ++ (10 ∷ [])) _ _ _ _ _
    (rw c.in_ok-add_start.ensures at c.add_start.ensures)
    (added-then _ _ (encode_lower (message_bytes (ticks_message c.args.channel c.args.ticks))) (10 ∷ []) _ _ _ _ _
    (rw c.in_ok-add_ticks.ensures at c.add_ticks.ensures) c.add.ensures.adds))
