use Rattle.std.proofs.Common.{◌≡◌, ◌+◌, ◌≤◌, true, false, is_ok, insert, vec_len, vec_capacity, sym, ap, ◌∙◌, arith, length}
use Rattle.std.proofs.lemmas.Bool.{cond-true}
use Rattle.play_types.specs.declared.place.TheConstants.{MAX_LIVE_LAYERS}
use Rattle.history_model.specs.stage.Live.{is_live}
use Rattle.history_model.specs.stage.Places.{Places, with_place}
use Rattle.stage_core.specs.inner.Found.{IsAt, IsGapFor}
use Rattle.stage_core.proofs.Found.{with_place-set, with_place-remove, with_place-insert, with_place-none}
use Rattle.stage_core.proofs.Sets.{kept-insert, kept-remove, kept-set}
use Rattle.stage_core.proofs.places.PlaceList.set.Goals as goal

-- a live place that was there is written over
pub invariant_of-self : goal.invariant_of-self
invariant_of-self c =
    let items : Places = c.self.inside.places.items in
    let live : is_live c.args.layer ≡ true = sym c.is_live.ensures ∙ c.if-is_live.true in
    let found : IsAt items c.args.number c.in-Ok.at = rw c.self.view_is c.in-Ok.ensures.found in
    kept-set items c.args.number c.in-Ok.at c.args.layer c.requires.number c.self.inside.places.len c.self.inside.places.cap c.self.invariant live found

pub returns-then-is_live : goal.returns-then-is_live
returns-then-is_live c =
    let items : Places = c.self.inside.places.items in
    let live : is_live c.args.layer ≡ true = sym c.is_live.ensures ∙ c.if-is_live.true in
    let found : IsAt items c.args.number c.in-Ok.at = rw c.self.view_is c.in-Ok.ensures.found in
    sym (with_place-set items c.self.invariant.rising c.args.number c.in-Ok.at c.args.layer live found)
    ∙ ap (λ (xs : Places). with_place xs c.args.number c.args.layer) c.self.view_is

-- one that now holds nothing leaves the list
pub invariant_of-self-in-Ok : goal.invariant_of-self-in-Ok
invariant_of-self-in-Ok c =
    let items : Places = c.self.inside.places.items in
    let dead : is_live c.args.layer ≡ false = sym c.is_live.ensures ∙ c.if-is_live.false in
    let found : IsAt items c.args.number c.in-Ok.at = rw c.self.view_is c.in-Ok.ensures.found in
    kept-remove items c.args.number c.in-Ok.at c.args.layer c.requires.number c.self.inside.places.len c.self.inside.places.cap
    (vec_len c.remove.new.self) (vec_capacity c.remove.new.self) c.remove.new.self.items c.self.invariant dead found
    c.remove.ensures.items c.remove.ensures.len c.remove.ensures.capacity

pub returns-else-is_live : goal.returns-else-is_live
returns-else-is_live c =
    let items : Places = c.self.inside.places.items in
    let dead : is_live c.args.layer ≡ false = sym c.is_live.ensures ∙ c.if-is_live.false in
    let found : IsAt items c.args.number c.in-Ok.at = rw c.self.view_is c.in-Ok.ensures.found in
    c.remove.ensures.items ∙ sym (with_place-remove items c.self.invariant.rising c.args.number c.in-Ok.at c.args.layer dead found)
    ∙ ap (λ (xs : Places). with_place xs c.args.number c.args.layer) c.self.view_is

-- one that holds nothing and was not there changes nothing
pub returns-then-not-is_live : goal.returns-then-not-is_live
returns-then-not-is_live c =
    let items : Places = c.self.inside.places.items in
    let dead : is_live c.args.layer ≡ false = sym c.is_live-in-Err.ensures ∙ c.if-not-is_live.true in
    let gap : IsGapFor items c.args.number c.in-Err.at = rw c.self.view_is c.in-Err.ensures.absent in
    sym c.self.view_is ∙ sym (with_place-none items c.args.number c.in-Err.at c.args.layer dead gap)
    ∙ ap (λ (xs : Places). with_place xs c.args.number c.args.layer) c.self.view_is

-- and a live one is put in
pub invariant_of-self-in-Err : goal.invariant_of-self-in-Err
invariant_of-self-in-Err c =
    let items : Places = c.self.inside.places.items in
    let live : is_live c.args.layer ≡ true = sym c.is_live-in-Err.ensures ∙ c.if-not-is_live.false in
    let gap : IsGapFor items c.args.number c.in-Err.at = rw c.self.view_is c.in-Err.ensures.absent in
    let old : length items ≡ length c.args.self.now = ap (λ (xs : Places). length xs) c.self.view_is in
    let free : c.self.inside.places.len ≤ MAX_LIVE_LAYERS + 2 = omega (arith, old, c.requires.room, c.self.invariant.counted) in
    let added : is_ok c.insert.result ≡ true = ap is_ok c.unwrap.ensures in
    let put : c.insert.new.self.items ≡ insert items c.in-Err.at (c.args.number, c.args.layer) = c.insert.ensures.items ∙ cond-true (is_ok c.insert.result) _ _ added in
    let count : vec_len c.insert.new.self ≡ c.self.inside.places.len + 1 = c.insert.ensures.len ∙ cond-true (is_ok c.insert.result) _ _ added in
    kept-insert items c.args.number c.in-Err.at c.args.layer c.requires.number c.self.inside.places.len c.self.inside.places.cap
    (vec_len c.insert.new.self) (vec_capacity c.insert.new.self) c.insert.new.self.items c.self.invariant live gap put count free c.insert.ensures.capacity

pub returns-else-not-is_live : goal.returns-else-not-is_live
returns-else-not-is_live c =
    let items : Places = c.self.inside.places.items in
    let live : is_live c.args.layer ≡ true = sym c.is_live-in-Err.ensures ∙ c.if-not-is_live.false in
    let gap : IsGapFor items c.args.number c.in-Err.at = rw c.self.view_is c.in-Err.ensures.absent in
    let added : is_ok c.insert.result ≡ true = ap is_ok c.unwrap.ensures in
    let put : c.insert.new.self.items ≡ insert items c.in-Err.at (c.args.number, c.args.layer) = c.insert.ensures.items ∙ cond-true (is_ok c.insert.result) _ _ added in
    put ∙ sym (with_place-insert items c.args.number c.in-Err.at c.args.layer live gap)
    ∙ ap (λ (xs : Places). with_place xs c.args.number c.args.layer) c.self.view_is
