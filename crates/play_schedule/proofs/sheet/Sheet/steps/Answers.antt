use Rattle.std.proofs.Common.{List, sym, ap, ◌∙◌, subst, length}
use Rattle.play_schedule.specs.declared.cue.Cue.{Cue}
use Rattle.play_schedule.specs.SheetView.{SheetView}
use Rattle.play_schedule.specs.Unfolding.{script_of}
use Rattle.play_schedule.specs.Order.{IsOrderOf}
use Rattle.play_schedule.proofs.Unfolded.{are_of-true, lines_left_all}
use Rattle.play_schedule.proofs.sheet.Sheet.steps.Goals as goal

pub invariant_of-result : goal.invariant_of-result
invariant_of-result c =
    let cues = c.as_slice-2.result.now in
    let ticks = c.self.inside.ticks in
    let entries = c.in_ok-later.later.entries in
    let Ordered : List Cue → Type 0 = λ l. IsOrderOf l ticks (length l) entries in
    let order : IsOrderOf cues ticks (length cues) entries = subst Ordered (c.as_slice.ensures.value ∙ sym c.as_slice-2.ensures.value) c.in_ok-later.ensures in
    c.new.ensures.within (length cues) (are_of-true ticks (length cues) entries order.each)

pub returns : goal.returns
returns c =
    let cues = c.as_slice-2.result.now in
    let ticks = c.self.inside.ticks in
    let entries = c.in_ok-later.later.entries in
    let Ordered : List Cue → Type 0 = λ l. IsOrderOf l ticks (length l) entries in
    let order : IsOrderOf cues ticks (length cues) entries = subst Ordered (c.as_slice.ensures.value ∙ sym c.as_slice-2.ensures.value) c.in_ok-later.ensures in
    let sheet : List Cue → SheetView = λ l. record { cues = l; ticks = ticks } in
    c.new.ensures.left cues ∙ (lines_left_all cues ticks entries order ∙ (ap (λ l. script_of (sheet l)) c.as_slice-2.ensures.value ∙ ap script_of c.self.view_is))
