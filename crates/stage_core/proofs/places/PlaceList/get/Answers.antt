use Rattle.std.proofs.Common.{◌≡◌, get_or, sym, ap, ◌∙◌}
use Rattle.std.proofs.lemmas.List.{get_or_default}
use Rattle.history_model.specs.stage.Life.{empty_place}
use Rattle.history_model.specs.stage.Places.{Places, standing}
use Rattle.stage_core.specs.inner.Found.{IsAt, place_in}
use Rattle.stage_core.proofs.Found.{standing-absent, standing-found}
use Rattle.stage_core.proofs.places.PlaceList.get.Goals as goal

-- the layer is at its index
pub returns-in-Ok-clause-value : goal.returns-in-Ok-clause-value
returns-in-Ok-clause-value c =
    let items : Places = c.self.inside.places.items in
    let at = c.in-Ok.at in
    let found : IsAt items c.args.number at = rw c.self.view_is c.in-Ok.ensures.found in
    let same : get_or items at c.index.result.now ≡ place_in items at =
    get_or_default items at c.index.result.now (0, empty_place) found.in_range in
    ap (λ x. x.1) (c.index.ensures ∙ same)
    ∙ sym (standing-found items c.self.invariant.rising c.args.number at found)
    ∙ ap (λ (xs : Places). standing xs c.args.number) c.self.view_is

-- the layer is not there
pub returns-in-Err-clause-value : goal.returns-in-Err-clause-value
returns-in-Err-clause-value c = c.new.ensures.value ∙ sym (standing-absent c.args.self.now c.args.number c.in-Err.field-0 c.in-Err.ensures.absent)
