use Rattle.std.proofs.Common.{[], ◌∷◌, ◌++◌}
use Rattle.std.specs.List.{flat_map}
use Rattle.amcp_text.specs.Escapes.{escaped}
use Rattle.play_outside.proofs.Following.{added-then, added-left}
use Rattle.amcp_text.proofs.Escapes.{quoted-bytes}
use Rattle.fixed_params.proofs.quote.add_quoted.Goals as goal

pub returns-in_err-add : goal.returns-in_err-add
returns-in_err-add g c =
    rw (quoted-bytes c.args.name.now c.utf8.name)
    (added-left _ _ _ (34 ∷ []) (flat_map escaped c.args.name.now ++ 34 ∷ []) _ _ _ c.add.ensures.adds c.in_err-add.ensures c.from_residual.ensures)

pub returns-in_err-add_escaped : goal.returns-in_err-add_escaped
returns-in_err-add_escaped g c =
    rw (quoted-bytes c.args.name.now c.utf8.name)
    (added-then _ _ (34 ∷ []) (flat_map escaped c.args.name.now ++ 34 ∷ []) _ _ _ _ _ (rw c.in_ok-add.ensures at c.add.ensures.adds)
    (added-left _ _ _ (flat_map escaped c.args.name.now) (34 ∷ []) _ _ _ (rw c.as_bytes.ensures.value at c.add_escaped.ensures) c.in_err-add_escaped.ensures c.from_residual-in_err-add_escaped.ensures))

pub returns : goal.returns
returns g c =
    rw (quoted-bytes c.args.name.now c.utf8.name)
    (added-then _ _ (34 ∷ []) (flat_map escaped c.args.name.now ++ 34 ∷ []) _ _ _ _ _ (rw c.in_ok-add.ensures at c.add.ensures.adds)
    (added-then _ _ (flat_map escaped c.args.name.now) (34 ∷ []) _ _ _ _ _ (rw (c.as_bytes.ensures.value, c.in_ok-add_escaped.ensures) at c.add_escaped.ensures)
    c.add-2.ensures.adds))
