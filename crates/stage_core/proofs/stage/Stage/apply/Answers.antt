use Rattle.std.proofs.Common.{◌≡◌, ℕ, ◌+◌, ◌≤◌, ◌++◌, ◌∷◌, [], All, List, true, false, length, sym, ap, ap₂, ◌∙◌, subst, subst₂, arith}
use Rattle.std.proofs.lemmas.List.Elements.{All-cons, All-nil}
use Rattle.play_types.specs.declared.command.Cmd.{Cmd}
use Rattle.std.proofs.lemmas.Bool.{cond-true, cond-false}
use Rattle.play_types.specs.declared.event.Event.TheVariants.{Do}
use Rattle.history_model.specs.stage.Answer.{StageAnswer, answer, command_answer}
use Rattle.history_model.specs.stage.Act.{Act, acts_of}
use Rattle.mixer_state.specs.Past.{Represents}
use Rattle.stage_core.specs.inner.Settled.{CanTake, counted, settings_of, settings_of_all, waits_on}
use Rattle.stage_core.proofs.Needs.{if_ok}
use Rattle.play_journal.specs.Journal.{JournalView}
use Rattle.history_model.specs.commands.Channels.{IsServed}
use Rattle.stage_core.specs.Stage.{StageView}
use Rattle.stage_core.specs.LiveState.{LiveView, live_with, is_refused_on}
use Rattle.stage_core.specs.Kept.{IsStage}
use Rattle.stage_core.proofs.Stages.{IsStage-as_before, IsStage-refused, IsStage-taken, answer-refused, answer-taken, can_take_one, needs_counted, served_by_mixer}
use Rattle.stage_core.proofs.stage.Stage.apply.Goals as goal

-- the memory that was taken for the mixer changes nothing else
pub invariant_of-self : goal.invariant_of-self
invariant_of-self c =
    IsStage-as_before c.self.inside.journal.events c.self.inside.live c.self.inside.saved c.self.inside.mixer c.self.inside.routes c.self.invariant c.reserve_for.new.mixer
    c.reserve_for.ensures.same

pub invariant_of-self-in_err-push : goal.invariant_of-self-in_err-push
invariant_of-self-in_err-push c =
    subst (λ (j : JournalView). IsStage j.events c.self.inside.live c.self.inside.saved c.reserve_for.new.mixer c.self.inside.routes) (sym c.in_err-push.ensures.err)
    (IsStage-as_before c.self.inside.journal.events c.self.inside.live c.self.inside.saved c.self.inside.mixer c.self.inside.routes c.self.invariant c.reserve_for.new.mixer
    c.reserve_for.ensures.same)

-- a refused command changes nothing but the journal
pub invariant_of-self-then-apply : goal.invariant_of-self-then-apply
invariant_of-self-then-apply c =
    let live : LiveView = c.self.inside.live in
    let served : IsServed (length live.places) c.args.cmd = subst (λ (n : ℕ). IsServed n c.args.cmd) (ap (λ (s : StageView). s.channels) (sym c.self.view_is)) c.requires in
    let refused : is_refused_on c.args.cmd live ≡ true = sym c.apply.ensures.refused ∙ c.if-apply.true in
    subst₂ (λ (j : JournalView) (b : LiveView). IsStage j.events b c.self.inside.saved c.reserve_for.new.mixer c.self.inside.routes) (sym c.in_ok-push.ensures.ok)
    (sym (c.apply.ensures.after ∙ cond-true (is_refused_on c.args.cmd live) live (live_with c.args.cmd live) refused))
    (IsStage-refused c.self.inside.journal.events c.args.tag c.args.cmd live c.self.inside.saved c.reserve_for.new.mixer c.self.inside.routes (IsStage-as_before c.self.inside.journal.events c.self.inside.live c.self.inside.saved c.self.inside.mixer c.self.inside.routes c.self.invariant c.reserve_for.new.mixer c.reserve_for.ensures.same) served refused)

pub returns-then-apply-clause-answer : goal.returns-then-apply-clause-answer
returns-then-apply-clause-answer c setup same =
    let live : LiveView = c.self.inside.live in
    let served : IsServed (length live.places) c.args.cmd = subst (λ (n : ℕ). IsServed n c.args.cmd) (ap (λ (s : StageView). s.channels) (sym c.self.view_is)) c.requires in
    let refused : is_refused_on c.args.cmd live ≡ true = sym c.apply.ensures.refused ∙ c.if-apply.true in
    ap (λ (s : StageView). answer setup s.journal.events (Do c.args.tag c.args.cmd)) (sym c.self.view_is)
    ∙ answer-refused c.self.inside.journal.events c.args.tag c.args.cmd live c.self.inside.saved c.reserve_for.new.mixer c.self.inside.routes (IsStage-as_before c.self.inside.journal.events c.self.inside.live c.self.inside.saved c.self.inside.mixer c.self.inside.routes c.self.invariant c.reserve_for.new.mixer c.reserve_for.ensures.same) served setup refused

-- another acts on the live state
pub invariant_of-self-2 : goal.invariant_of-self-2
invariant_of-self-2 c =
    let live : LiveView = c.self.inside.live in
    let served : IsServed (length live.places) c.args.cmd = subst (λ (n : ℕ). IsServed n c.args.cmd) (ap (λ (s : StageView). s.channels) (sym c.self.view_is)) c.requires in
    let taken : is_refused_on c.args.cmd live ≡ false = sym c.apply.ensures.refused ∙ c.if-apply.false in
    subst₂ (λ (j : JournalView) (b : LiveView). IsStage j.events b c.self.inside.saved c.settle.new.mixer c.self.inside.routes) (sym c.in_ok-push.ensures.ok)
    (sym (c.apply.ensures.after ∙ cond-false (is_refused_on c.args.cmd live) live (live_with c.args.cmd live) taken))
    (IsStage-taken c.self.inside.journal.events c.args.tag c.args.cmd live c.self.inside.saved c.reserve_for.new.mixer c.self.inside.routes (IsStage-as_before c.self.inside.journal.events c.self.inside.live c.self.inside.saved c.self.inside.mixer c.self.inside.routes c.self.invariant c.reserve_for.new.mixer c.reserve_for.ensures.same) served
    c.settle.new.mixer c.settle.ensures.channels
    (subst (λ (t : ℕ). (earlier : List Act) → Represents c.reserve_for.new.mixer earlier t → Represents c.settle.new.mixer (acts_of t c.args.cmd ++ earlier) t)
    c.ticks-ticks.ensures.value c.settle.ensures.past) taken)

pub returns-clause-answer : goal.returns-clause-answer
returns-clause-answer c setup same =
    let live : LiveView = c.self.inside.live in
    let served : IsServed (length live.places) c.args.cmd = subst (λ (n : ℕ). IsServed n c.args.cmd) (ap (λ (s : StageView). s.channels) (sym c.self.view_is)) c.requires in
    let taken : is_refused_on c.args.cmd live ≡ false = sym c.apply.ensures.refused ∙ c.if-apply.false in
    ap (λ (s : StageView). answer setup s.journal.events (Do c.args.tag c.args.cmd)) (sym c.self.view_is)
    ∙ answer-taken c.self.inside.journal.events c.args.tag c.args.cmd live c.self.inside.saved c.reserve_for.new.mixer c.self.inside.routes (IsStage-as_before c.self.inside.journal.events c.self.inside.live c.self.inside.saved c.self.inside.mixer c.self.inside.routes c.self.invariant c.reserve_for.new.mixer c.reserve_for.ensures.same) served setup taken
    ∙ ap (λ (s : StageView). StageAnswer.Answered (command_answer setup s.journal.events false c.args.cmd)) c.self.view_is
    ∙ ap StageAnswer.Answered (sym (c.reply-reply.ensures setup same))

-- the mixer can take it
pub settle-requires-clause-served : goal.settle-requires-clause-served
settle-requires-clause-served c =
    let live : LiveView = c.self.inside.live in
    let served : IsServed (length live.places) c.args.cmd = subst (λ (n : ℕ). IsServed n c.args.cmd) (ap (λ (s : StageView). s.channels) (sym c.self.view_is)) c.requires in
    served_by_mixer c.self.inside.journal.events c.args.tag c.args.cmd live c.self.inside.saved c.reserve_for.new.mixer c.self.inside.routes (IsStage-as_before c.self.inside.journal.events c.self.inside.live c.self.inside.saved c.self.inside.mixer c.self.inside.routes c.self.invariant c.reserve_for.new.mixer c.reserve_for.ensures.same) served

pub settle-requires-clause-taken : goal.settle-requires-clause-taken
settle-requires-clause-taken c =
    let live : LiveView = c.self.inside.live in
    let served : IsServed (length live.places) c.args.cmd = subst (λ (n : ℕ). IsServed n c.args.cmd) (ap (λ (s : StageView). s.channels) (sym c.self.view_is)) c.requires in
    subst (λ (t : ℕ). CanTake (c.args.cmd ∷ []) t c.reserve_for.new.mixer) (sym c.ticks-ticks.ensures.value)
    (can_take_one c.self.inside.journal.events c.args.tag c.args.cmd live c.self.inside.saved c.reserve_for.new.mixer c.self.inside.routes (IsStage-as_before c.self.inside.journal.events c.self.inside.live c.self.inside.saved c.self.inside.mixer c.self.inside.routes c.self.invariant c.reserve_for.new.mixer c.reserve_for.ensures.same) served
    (sym c.apply.ensures.refused ∙ c.if-apply.false))

pub settle-requires-clause-memory : goal.settle-requires-clause-memory
settle-requires-clause-memory c =
    let i = c.self.inside in
    let served : IsServed (length i.live.places) c.args.cmd = subst (λ (n : ℕ). IsServed n c.args.cmd) (ap (λ (s : StageView). s.channels) (sym c.self.view_is)) c.requires in
    let each : All (IsServed (length i.live.places)) (c.args.cmd ∷ []) =
    All-cons (IsServed (length i.live.places)) c.args.cmd [] served (All-nil (IsServed (length i.live.places))) in
    let fits : settings_of_all (counted c.waiting-waiting.result) c.from_ref.result.now ≤ c.reserve_for.new.mixer.spare =
    if_ok c.reserve_for.result (sym c.is_err.ensures.value ∙ c.if-is_err.false) c.reserve_for.ensures.ok in
    let counts : settings_of (waits_on c.reserve_for.new.mixer) c.args.cmd + 0 ≡ settings_of_all (counted c.waiting-waiting.result) c.from_ref.result.now =
    needs_counted i.journal.events i.live i.saved i.mixer i.routes c.self.invariant c.reserve_for.new.mixer c.reserve_for.ensures.same (c.args.cmd ∷ []) each
    ∙ ap₂ (λ (waiting : List ℕ) (cmds : List Cmd). settings_of_all (counted waiting) cmds) (sym c.waiting-waiting.ensures) (sym c.from_ref.ensures.value) in
    omega (arith, fits, counts)
