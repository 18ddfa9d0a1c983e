use Rattle.std.proofs.Common.{◌≡◌, ℕ, true, List, sym, ap, subst, ◌∙◌}
use Rattle.std.specs.Prelude.{Some, option_copied, slice_get}
use Rattle.std.specs.Str.{all_scalars}
use Rattle.std.proofs.lemmas.List.Elements.{AllWithin-more}
use Rattle.std.proofs.lemmas.Option.{get_or_from_slice_get}
use Rattle.std.proofs.lemmas.Str.{scalars-chars}
use Rattle.history_replay.specs.Replay.{IsTextName}
use Rattle.server_run.proofs.run_memory.read_names.Goals as goal

pub loop-at-preserved : goal.loop-at-preserved
loop-at-preserved c =
    let names = c.args.names.now in
    let name = c.unwrap.result.now in
    let there : slice_get names c.loop-at.at ≡ Some name = sym c.get.ensures ∙ ap option_copied c.unwrap.ensures in
    let text : IsTextName name =
    subst (λ (cs : List ℕ). all_scalars cs ≡ true) (c.as_str.ensures ∙ c.name.ensures) (scalars-chars c.as_str.result.now c.as_str.utf8) in
    AllWithin-more IsTextName names 0 c.loop-at.at c.loop-at.invariant
    (λ d. subst IsTextName (sym (get_or_from_slice_get names c.loop-at.at name d there)) text)
