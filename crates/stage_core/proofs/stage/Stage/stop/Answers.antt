use Rattle.std.proofs.Common.{◌≡◌, List, length, sym, ap, ◌∙◌, subst}
use Rattle.std.specs.Prelude.{Some, None, is_some}
use Rattle.play_types.specs.History.{stop_at}
use Rattle.play_types.specs.declared.event.Event.{Event}
use Rattle.play_journal.specs.Journal.{JournalView}
use Rattle.stage_core.specs.Kept.{IsStage}
use Rattle.stage_core.proofs.Stages.{IsStage-stop, stop_at-more}
use Rattle.stage_core.proofs.stage.Stage.stop.Goals as goal

-- the stop that was added is found
pub unwrap-requires : goal.unwrap-requires
unwrap-requires c =
    let events : List Event = c.self.inside.journal.events in
    let none : stop_at events ≡ None = sym c.stopped.ensures.value ∙ c.in_default.is in
    let found : stop_at c.push_stop.new.self.events ≡ Some (length events) =
    ap (λ (j : JournalView). stop_at j.events) c.push_stop.ensures ∙ stop_at-more events c.args.tag none in
    ap is_some (c.stopped-2.ensures.value ∙ found)

pub invariant_of-self : goal.invariant_of-self
invariant_of-self c =
    subst (λ (j : JournalView). IsStage j.events c.self.inside.live c.self.inside.saved c.self.inside.mixer c.self.inside.routes) (sym c.push_stop.ensures)
    (IsStage-stop c.self.inside.journal.events c.self.inside.live c.self.inside.saved c.self.inside.mixer c.self.inside.routes c.self.invariant c.args.tag)
