use Rattle.std.proofs.Common.{◌≡◌, ℕ, ◌≤◌, ◌++◌, ◌∷◌, [], Bool, true, false, All, List, length, sym, ap, ◌∙◌, subst, subst₂, arith}
use Rattle.play_types.specs.declared.command.Cmd.{Cmd}
use Rattle.play_types.specs.declared.event.Event.TheVariants.{Batch}
use Rattle.history_model.specs.stage.Answer.{StageAnswer, answer, outcome_of}
use Rattle.history_model.specs.stage.Act.{Act}
use Rattle.history_model.specs.stage.StageState.{acts_after_all}
use Rattle.mixer_state.specs.Past.{Represents}
use Rattle.stage_core.specs.inner.Settled.{CanTake, counted, settings_of_all, waits_on}
use Rattle.stage_core.proofs.Needs.{if_ok}
use Rattle.play_journal.specs.Journal.{JournalView}
use Rattle.history_model.specs.commands.Channels.{IsServed}
use Rattle.stage_core.specs.Stage.{StageView}
use Rattle.stage_core.specs.LiveState.{LiveView, some_is_refused_on}
use Rattle.stage_core.specs.Kept.{IsStage}
use Rattle.stage_core.proofs.Stages.{IsStage-as_before, IsStage-batch_refused, IsStage-batch_taken, answer-batch, can_take_each, each_by_mixer, needs_counted}
use Rattle.stage_core.proofs.stage.Stage.apply_batch.Goals as goal

-- the memory that was taken for the mixer changes nothing else
pub invariant_of-self : goal.invariant_of-self
invariant_of-self c =
    IsStage-as_before c.self.inside.journal.events c.self.inside.live c.self.inside.saved c.self.inside.mixer c.self.inside.routes c.self.invariant c.reserve_for.new.mixer
    c.reserve_for.ensures.same

pub invariant_of-self-in_err-push_batch : goal.invariant_of-self-in_err-push_batch
invariant_of-self-in_err-push_batch c =
    subst (λ (j : JournalView). IsStage j.events c.self.inside.live c.self.inside.saved c.reserve_for.new.mixer c.self.inside.routes) (sym c.in_err-push_batch.ensures.err)
    (IsStage-as_before c.self.inside.journal.events c.self.inside.live c.self.inside.saved c.self.inside.mixer c.self.inside.routes c.self.invariant c.reserve_for.new.mixer
    c.reserve_for.ensures.same)

-- after a refused batch the live state is the one that was saved
pub invariant_of-self-then-apply_all : goal.invariant_of-self-then-apply_all
invariant_of-self-then-apply_all c =
    let live : LiveView = c.self.inside.live in
    let cmds : List Cmd = c.args.cmds.now in
    let each : All (IsServed (length live.places)) cmds = subst (λ (n : ℕ). All (IsServed n) cmds) (ap (λ (s : StageView). s.channels) (sym c.self.view_is)) c.requires.each in
    let refused : some_is_refused_on cmds live ≡ true = sym c.apply_all.ensures.refused ∙ c.if-apply_all.true in
    subst (λ (j : JournalView). IsStage j.events c.copy_from-then-apply_all.new.self c.copy_from.new.self c.reserve_for.new.mixer c.self.inside.routes) (sym c.in_ok-push_batch.ensures.ok)
    (subst₂ (λ (b saved : LiveView). IsStage (c.self.inside.journal.events ++ Batch c.args.tag cmds ∷ []) b saved c.reserve_for.new.mixer c.self.inside.routes) (sym (c.copy_from-then-apply_all.ensures ∙ c.copy_from.ensures)) (sym c.copy_from.ensures)
    (IsStage-batch_refused c.self.inside.journal.events c.args.tag cmds live c.self.inside.saved c.reserve_for.new.mixer c.self.inside.routes (IsStage-as_before c.self.inside.journal.events c.self.inside.live c.self.inside.saved c.self.inside.mixer c.self.inside.routes c.self.invariant c.reserve_for.new.mixer c.reserve_for.ensures.same) each refused))

pub returns-then-apply_all-clause-answer : goal.returns-then-apply_all-clause-answer
returns-then-apply_all-clause-answer c setup =
    let live : LiveView = c.self.inside.live in
    let cmds : List Cmd = c.args.cmds.now in
    let each : All (IsServed (length live.places)) cmds = subst (λ (n : ℕ). All (IsServed n) cmds) (ap (λ (s : StageView). s.channels) (sym c.self.view_is)) c.requires.each in
    ap (λ (s : StageView). answer setup s.journal.events (Batch c.args.tag cmds)) (sym c.self.view_is)
    ∙ answer-batch c.self.inside.journal.events c.args.tag cmds live c.self.inside.saved c.reserve_for.new.mixer c.self.inside.routes (IsStage-as_before c.self.inside.journal.events c.self.inside.live c.self.inside.saved c.self.inside.mixer c.self.inside.routes c.self.invariant c.reserve_for.new.mixer c.reserve_for.ensures.same) each setup
    ∙ ap (λ (b : Bool). StageAnswer.Answered (outcome_of b)) (sym c.apply_all.ensures.refused ∙ c.if-apply_all.true)

-- another has acted on the live state
pub invariant_of-self-2 : goal.invariant_of-self-2
invariant_of-self-2 c =
    let live : LiveView = c.self.inside.live in
    let cmds : List Cmd = c.args.cmds.now in
    let each : All (IsServed (length live.places)) cmds = subst (λ (n : ℕ). All (IsServed n) cmds) (ap (λ (s : StageView). s.channels) (sym c.self.view_is)) c.requires.each in
    let taken : some_is_refused_on cmds live ≡ false = sym c.apply_all.ensures.refused ∙ c.if-apply_all.false in
    subst (λ (j : JournalView). IsStage j.events c.apply_all.new.self c.copy_from.new.self c.settle_all.new.mixer c.self.inside.routes) (sym c.in_ok-push_batch.ensures.ok)
    (subst₂ (λ (b saved : LiveView). IsStage (c.self.inside.journal.events ++ Batch c.args.tag cmds ∷ []) b saved c.settle_all.new.mixer c.self.inside.routes) (sym (c.apply_all.ensures.after c.if-apply_all.false)) (sym c.copy_from.ensures)
    (IsStage-batch_taken c.self.inside.journal.events c.args.tag cmds live c.self.inside.saved c.reserve_for.new.mixer c.self.inside.routes (IsStage-as_before c.self.inside.journal.events c.self.inside.live c.self.inside.saved c.self.inside.mixer c.self.inside.routes c.self.invariant c.reserve_for.new.mixer c.reserve_for.ensures.same) each
    c.settle_all.new.mixer c.settle_all.ensures.channels
    (subst (λ (t : ℕ). (earlier : List Act) → Represents c.reserve_for.new.mixer earlier t → Represents c.settle_all.new.mixer (acts_after_all t cmds earlier) t)
    c.ticks-ticks.ensures.value c.settle_all.ensures.past) taken))

pub returns-clause-answer : goal.returns-clause-answer
returns-clause-answer c setup =
    let live : LiveView = c.self.inside.live in
    let cmds : List Cmd = c.args.cmds.now in
    let each : All (IsServed (length live.places)) cmds = subst (λ (n : ℕ). All (IsServed n) cmds) (ap (λ (s : StageView). s.channels) (sym c.self.view_is)) c.requires.each in
    ap (λ (s : StageView). answer setup s.journal.events (Batch c.args.tag cmds)) (sym c.self.view_is)
    ∙ answer-batch c.self.inside.journal.events c.args.tag cmds live c.self.inside.saved c.reserve_for.new.mixer c.self.inside.routes (IsStage-as_before c.self.inside.journal.events c.self.inside.live c.self.inside.saved c.self.inside.mixer c.self.inside.routes c.self.invariant c.reserve_for.new.mixer c.reserve_for.ensures.same) each setup
    ∙ ap (λ (b : Bool). StageAnswer.Answered (outcome_of b)) (sym c.apply_all.ensures.refused ∙ c.if-apply_all.false)

-- the mixer can take it
pub settle_all-requires-clause-served : goal.settle_all-requires-clause-served
settle_all-requires-clause-served c =
    let live : LiveView = c.self.inside.live in
    let cmds : List Cmd = c.args.cmds.now in
    let each : All (IsServed (length live.places)) cmds = subst (λ (n : ℕ). All (IsServed n) cmds) (ap (λ (s : StageView). s.channels) (sym c.self.view_is)) c.requires.each in
    each_by_mixer c.self.inside.journal.events c.args.tag cmds live c.self.inside.saved c.reserve_for.new.mixer c.self.inside.routes (IsStage-as_before c.self.inside.journal.events c.self.inside.live c.self.inside.saved c.self.inside.mixer c.self.inside.routes c.self.invariant c.reserve_for.new.mixer c.reserve_for.ensures.same) each

pub settle_all-requires-clause-taken : goal.settle_all-requires-clause-taken
settle_all-requires-clause-taken c =
    let live : LiveView = c.self.inside.live in
    let cmds : List Cmd = c.args.cmds.now in
    let each : All (IsServed (length live.places)) cmds = subst (λ (n : ℕ). All (IsServed n) cmds) (ap (λ (s : StageView). s.channels) (sym c.self.view_is)) c.requires.each in
    subst (λ (t : ℕ). CanTake cmds t c.reserve_for.new.mixer) (sym c.ticks-ticks.ensures.value)
    (can_take_each c.self.inside.journal.events c.args.tag cmds live c.self.inside.saved c.reserve_for.new.mixer c.self.inside.routes (IsStage-as_before c.self.inside.journal.events c.self.inside.live c.self.inside.saved c.self.inside.mixer c.self.inside.routes c.self.invariant c.reserve_for.new.mixer c.reserve_for.ensures.same) each
    (sym c.apply_all.ensures.refused ∙ c.if-apply_all.false))

pub settle_all-requires-clause-memory : goal.settle_all-requires-clause-memory
settle_all-requires-clause-memory c =
    let i = c.self.inside in
    let cmds : List Cmd = c.args.cmds.now in
    let each : All (IsServed (length i.live.places)) cmds = subst (λ (n : ℕ). All (IsServed n) cmds) (ap (λ (s : StageView). s.channels) (sym c.self.view_is)) c.requires.each in
    let fits : settings_of_all (counted c.waiting-waiting.result) cmds ≤ c.reserve_for.new.mixer.spare =
    if_ok c.reserve_for.result (sym c.is_err.ensures.value ∙ c.if-is_err.false) c.reserve_for.ensures.ok in
    let counts : settings_of_all (waits_on c.reserve_for.new.mixer) cmds ≡ settings_of_all (counted c.waiting-waiting.result) cmds =
    needs_counted i.journal.events i.live i.saved i.mixer i.routes c.self.invariant c.reserve_for.new.mixer c.reserve_for.ensures.same cmds each
    ∙ ap (λ (waiting : List ℕ). settings_of_all (counted waiting) cmds) (sym c.waiting-waiting.ensures) in
    omega (arith, fits, counts)
