use Rattle.std.proofs.Common.{◌≡◌, ℕ, ◌≤◌, length, sym, ap, ◌∙◌, subst, arith}
use Rattle.play_types.specs.declared.place.TheConstants.{MAX_CHANNELS}
use Rattle.play_journal.specs.Journal.{JournalView}
use Rattle.stage_core.specs.Kept.{IsStage}
use Rattle.stage_core.proofs.Stages.{IsStage-new}
use Rattle.stage_core.proofs.stage.Stage.new.Goals as goal

-- a new live state has no live places and no waiting settings
pub invariant_of-result : goal.invariant_of-result
invariant_of-result c =
    let n : ℕ = c.len-count.result in
    let count : n ≡ length c.args.config.now.channels = c.len-count.ensures.value ∙ ap length c.channels.ensures.value in
    let some : 1 ≤ n = omega (arith, count, c.channels.ensures.range.parts) in
    let few : n ≤ MAX_CHANNELS = omega (arith, count, c.channels.ensures.range.parts) in
    subst (λ (j : JournalView). IsStage j.events c.in_ok-new-2.field-0 c.in_ok-new-3.field-0 c.in_ok-new-4.field-0 c.in_ok-new-5.field-0) (sym c.in_ok-new.ensures)
    (IsStage-new n c.in_ok-new-2.field-0 c.in_ok-new-3.field-0 c.in_ok-new-4.field-0 c.in_ok-new-5.field-0 some few c.in_ok-new-2.ensures c.in_ok-new-3.ensures
    c.in_ok-new-4.ensures.channels (c.in_ok-new-4.ensures.acts 0) c.in_ok-new-5.ensures.value)
