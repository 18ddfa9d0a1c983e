use Rattle.std.proofs.Common.{[], ◌∷◌}
use Rattle.std.specs.Prelude.{encode_utf8_all, chars}
use Rattle.amcp_text.specs.Escapes.{quoted}
use Rattle.play_outside.proofs.Following.{added-then, added-left}
use Rattle.cmd_print.proofs.Spaced.{spaced_one}
use Rattle.cmd_print.proofs.quote.add_name.Goals as goal

pub returns-in_err-add : goal.returns-in_err-add
returns-in_err-add g c =
    rw spaced_one
    (added-left _ _ _ (32 ∷ []) (encode_utf8_all (quoted (chars c.args.name.now))) _ _ _ c.add.ensures.adds c.in_err-add.ensures c.from_residual.ensures)

pub returns : goal.returns
returns g c =
    rw spaced_one
    (added-then _ _ (32 ∷ []) (encode_utf8_all (quoted (chars c.args.name.now))) _ _ _ _ _ (rw c.in_ok-add.ensures at c.add.ensures.adds)
    c.add_quoted.ensures)
