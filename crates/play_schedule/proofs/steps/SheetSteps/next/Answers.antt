use Rattle.std.proofs.Common.{◌≡◌, ◌≤◌, ◌<◌, ◌+◌, ◌-◌, ℕ, List, ◌∷◌, length, get_or, sym, ap, ◌∙◌, arith}
use Rattle.std.specs.Prelude.{Some, slice_get}
use Rattle.std.proofs.lemmas.Bool.{ltb-false}
use Rattle.std.proofs.lemmas.Option.{slice_get-get_or}
use Rattle.history_model.specs.scripts.Line.{ScriptLine, Said}
use Rattle.play_schedule.specs.Order.{lines_left}
use Rattle.play_schedule.proofs.LinesLeft.{lines_left_copy}
use Rattle.play_schedule.proofs.steps.SheetSteps.next.Goals as goal

pub returns-clause-ok : goal.returns-clause-ok
returns-clause-ok c =
    let cursor = c.turn.new.self in
    let cues = c.self.inside.cues.now in
    let cue = get_or cues cursor.cue c.index-self-self.result in
    let due : cursor.moment ≤ cursor.taken = ltb-false _ _ (sym c.is_waiting.ensures ∙ c.if-is_waiting.false) in
    let some : 0 < cursor.copies = omega arith in
    let more : cursor.copies ≡ (cursor.copies - 1) + 1 = omega arith in
    let found : slice_get cues cursor.cue ≡ Some cue =
    slice_get-get_or cues cursor.cue c.index-self-self.result ((c.turn.ensures.within (length cues) c.self.invariant).next some) in
    let left : ℕ → List ScriptLine = λ n. lines_left cues cursor.ticks cursor.taken (((cursor.moment, cursor.cue), n) ∷ cursor.later.entries) in
    let next : left cursor.copies ≡ Said cue.tag cue.text ∷ left (cursor.copies - 1) =
    ap left more ∙ lines_left_copy cues cursor.ticks cursor.taken cursor.moment cursor.cue (cursor.copies - 1) cue cursor.later.entries due found in
    sym c.self.view_is ∙ (sym (c.turn.ensures.left cues) ∙ (next ∙ ap (λ text. Said cue.tag text ∷ left (cursor.copies - 1)) (sym c.in_ok-text.ensures)))
