use Rattle.std.proofs.Common.{ap, ◌∙◌, map}
use Rattle.history_model.specs.stage.Places.{Places, one_tick_later}
use Rattle.stage_core.proofs.Sets.{kept-tick}
use Rattle.stage_core.proofs.places.PlaceList.tick.Goals as goal

pub invariant_of-self : goal.invariant_of-self
invariant_of-self c =
    kept-tick c.self.inside.places.items c.tick_places.new.places c.self.inside.places.len c.self.inside.places.cap c.self.invariant
    (c.tick_places.ensures.after ∙ ap (λ (xs : Places). map one_tick_later xs) c.deref_mut.ensures.value)
