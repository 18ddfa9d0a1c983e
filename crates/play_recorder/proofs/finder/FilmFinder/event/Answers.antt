use Rattle.std.proofs.Common.{◌≡◌, ◌+◌, false, [], ◌∷◌, ◌++◌, sym, ap, ◌∙◌, subst}
use Rattle.play_types.specs.History.{ticks}
use Rattle.play_types.specs.declared.event.Event.{Event}
use Rattle.play_types.specs.declared.event.Event.TheVariants.{Do, Batch}
use Rattle.history_model.specs.stage.Acts.{is_refused}
use Rattle.play_recorder.specs.Finder.{FinderView, Represents}
use Rattle.play_recorder.specs.inner.Begun.{followed, followed_all}
use Rattle.play_recorder.proofs.Events.{Represents-batch, Represents-do, Represents-refused, Represents-stop, Represents-tick}
use Rattle.play_recorder.proofs.Marks.{followed_all-name}
use Rattle.play_recorder.proofs.finder.FilmFinder.event.Goals as goal

pub returns-then-not-refused-clause-represents : goal.returns-then-not-refused-clause-represents
returns-then-not-refused-clause-represents c past represents answered =
    let finder = c.args.self.now in
    let event : Event = Do c.in-Do.field-0 c.in-Do.cmd in
    let taken : is_refused past event ≡ false =
    ap (is_refused past) (sym c.in-Do.is) ∙ sym answered ∙ sym c.is_refusal-refused.ensures ∙ c.if-not-refused.true in
    subst (λ (one : FinderView). Represents one (past ++ c.args.event.now ∷ [])) (sym c.follow.ensures)
    (subst (λ (one : Event). Represents (followed finder c.in-Do.cmd) (past ++ one ∷ [])) (sym c.in-Do.is)
    (Represents-do finder.name finder.ticks finder.begun past represents c.in-Do.field-0 c.in-Do.cmd taken))

pub returns-else-not-refused-clause-represents : goal.returns-else-not-refused-clause-represents
returns-else-not-refused-clause-represents c past represents answered =
    Represents-refused c.args.self.now past c.args.event.now represents
    (sym answered ∙ sym c.is_refusal-refused.ensures ∙ c.if-not-refused.false) (ap (λ (one : Event). ticks (one ∷ [])) c.in-Do.is)

pub returns-then-not-refused-2-clause-name : goal.returns-then-not-refused-2-clause-name
returns-then-not-refused-2-clause-name c =
    ap (λ (finder : FinderView). finder.name) c.follow_all.ensures ∙ followed_all-name c.args.self.now c.in-Batch.cmds

pub returns-then-not-refused-2-clause-represents : goal.returns-then-not-refused-2-clause-represents
returns-then-not-refused-2-clause-represents c past represents answered =
    let finder = c.args.self.now in
    let event : Event = Batch c.in-Batch.field-0 c.in-Batch.cmds in
    let taken : is_refused past event ≡ false =
    ap (is_refused past) (sym c.in-Batch.is) ∙ sym answered ∙ sym c.is_refusal-refused.ensures ∙ c.if-not-refused-2.true in
    subst (λ (one : FinderView). Represents one (past ++ c.args.event.now ∷ [])) (sym c.follow_all.ensures)
    (subst (λ (one : Event). Represents (followed_all finder c.in-Batch.cmds) (past ++ one ∷ [])) (sym c.in-Batch.is)
    (Represents-batch finder.name finder.ticks finder.begun past represents c.in-Batch.field-0 c.in-Batch.cmds taken))

pub returns-else-not-refused-2-clause-represents : goal.returns-else-not-refused-2-clause-represents
returns-else-not-refused-2-clause-represents c past represents answered =
    Represents-refused c.args.self.now past c.args.event.now represents
    (sym answered ∙ sym c.is_refusal-refused.ensures ∙ c.if-not-refused-2.false) (ap (λ (one : Event). ticks (one ∷ [])) c.in-Batch.is)

pub returns-in-Tick-clause-represents : goal.returns-in-Tick-clause-represents
returns-in-Tick-clause-represents c past represents answered =
    let inside = c.self.inside in
    subst (λ (one : Event). Represents (record { name = inside.name; ticks = inside.ticks + 1; begun = inside.begun }) (past ++ one ∷ [])) (sym c.in-Tick.is)
    (Represents-tick inside.name inside.ticks inside.begun past (subst (λ (one : FinderView). Represents one past) (sym c.self.view_is) represents))

pub returns-in-Stop-clause-represents : goal.returns-in-Stop-clause-represents
returns-in-Stop-clause-represents c past represents answered =
    let finder = c.args.self.now in
    subst (λ (one : Event). Represents finder (past ++ one ∷ [])) (sym c.in-Stop.is)
    (Represents-stop finder.name finder.ticks finder.begun past represents c.in-Stop.field-0)
