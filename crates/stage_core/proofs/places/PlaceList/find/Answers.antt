use Rattle.std.proofs.Common.{rules}
use Rattle.std.proofs.lemmas.List.Sorted.{answers_always}
use Rattle.stage_core.proofs.Found.{searched}
use Rattle.stage_core.proofs.places.PlaceList.find.Goals as goal

-- the closure gives the layer of a place, and the slice is the places of the list
pub returns : goal.returns
returns c =
    let facts = c.binary_search_by_key.ensures in
    let by_key = facts.position (λ place. place.0) (answers_always _ _ _ (λ f a r g called. search rules)) in
    rw (← c.self.view_is, ← c.deref.ensures.value) (searched _ (rw c.deref.ensures.value c.self.invariant.rising) c.args.number _ facts.bound by_key)
