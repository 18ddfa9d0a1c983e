use Rattle.std.proofs.Common.{◌≡◌, ◌++◌, ◌∙◌, ℕ, List, All, true, sym, ap, subst}
use Rattle.rtrb.specs.Ring.{known_items, received, sent}
use Rattle.scene_pipe.specs.Items.{IsClosed, fits_returned, fits_taken}
use Rattle.scene_pipe.specs.Views.{StageView, WriteView}
use Rattle.scene_pipe.specs.declared.item.Taken.{Taken}
use Rattle.scene_pipe.specs.declared.item.Returned.{Returned}
use Rattle.scene_pipe.proofs.Closing.{all_front, all_taken}
use Rattle.scene_pipe.proofs.settling.settle.Goals as goal

pub returns-clause-taken : goal.returns-clause-taken
returns-clause-taken c =
    all_taken _ _ _ c.slots_beside.ensures.fifo
    (subst IsClosed (sym (c.slots_beside.ensures.looked.1 ∙ ap (λ (v : WriteView). v.taken) c.write.view_is)) c.requires.done)
    (subst IsClosed (sym (c.slots_beside.ensures.producer.1 ∙ ap (λ (v : StageView). v.sent) c.stage.view_is)) c.requires.finished)

pub returns-clause-none_passed : goal.returns-clause-none_passed
returns-clause-none_passed c =
    let channels : ℕ = c.stage.inside.channels in
    let same : channels ≡ c.write.inside.channels =
    ap (λ (v : StageView). v.channels) c.stage.view_is ∙ c.requires.ends.channels ∙ sym (ap (λ (v : WriteView). v.channels) c.write.view_is) in
    let given : List Returned = sent c.write.inside.back in
    let came : List Returned = received c.slots_beside-2.new.self in
    let known : List Returned = known_items c.slots_beside-2.new.self in
    let all : came ++ known ≡ given = c.slots_beside-2.ensures.fifo ∙ c.slots_beside-2.ensures.producer.1 in
    let fits : All (λ item. fits_returned channels item ≡ true) given =
    subst (λ (n : ℕ). All (λ item. fits_returned n item ≡ true) given) (sym same) c.write.invariant in (
      subst (λ (items : List Taken). All (λ item. fits_taken channels item ≡ true) items)
          (sym (returns-clause-taken c ∙ c.slots_beside.ensures.producer.1)) c.stage.invariant.1,
      all_front (λ (item : Returned). fits_returned channels item ≡ true) came known
          (subst (λ (items : List Returned). All (λ item. fits_returned channels item ≡ true) items) (sym all) fits),
    )
