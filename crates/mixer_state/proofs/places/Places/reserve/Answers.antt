use Rattle.std.proofs.Common.{◌≡◌, List, ◌∙◌, sym, subst}
use Rattle.std.specs.Vec.{with_items}
use Rattle.std.proofs.lemmas.List.{with_items_is}
use Rattle.mixer_state.specs.Found.{HaveRoom, LayersView}
use Rattle.mixer_state.proofs.places.Places.reserve.Goals as goal

-- after a fault each channel has the room that it had
pub invariant_of-self : goal.invariant_of-self
invariant_of-self c =
    let spare = c.self.inside.spare in
    let channels : List LayersView = c.reserve_each.new.channels in
    let taken : (with_items c.self.inside.channels channels).items ≡ channels =
    with_items_is c.self.inside.channels channels (c.reserve_each.ensures.len ∙ c.as_mut_slice.ensures.len) in
    subst (HaveRoom spare) (sym taken)
    (c.reserve_each.ensures.room spare (subst (HaveRoom spare) (sym c.as_mut_slice.ensures.value) c.self.invariant))

-- and otherwise room for as many entries
pub invariant_of-self-2 : goal.invariant_of-self-2
invariant_of-self-2 c =
    let channels : List LayersView = c.reserve_each.new.channels in
    let taken : (with_items c.self.inside.channels channels).items ≡ channels =
    with_items_is c.self.inside.channels channels (c.reserve_each.ensures.len ∙ c.as_mut_slice.ensures.len) in
    subst (HaveRoom c.args.count) (sym taken) c.in_ok-reserve_each.ensures.ok
