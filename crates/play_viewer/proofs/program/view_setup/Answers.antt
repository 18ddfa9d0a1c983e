use Rattle.std.proofs.Common.{inl, inr, subst}
use Rattle.play_viewer.specs.Moves.{DeskState}
use Rattle.play_viewer.specs.Program.{viewed_of}
use Rattle.play_viewer.specs.Viewing.{Views}
use Rattle.play_viewer.proofs.Moves.{begins}
use Rattle.play_viewer.proofs.Runs.{lost_view, not_opened}
use Rattle.play_viewer.proofs.program.view_setup.Goals as goal

pub returns-in_err-open-clause-views : goal.returns-in_err-open-clause-views
returns-in_err-open-clause-views g c = inr (not_opened c.in_err-open.field-0.0 _ _ _ c.from_residual.ensures.1 c.in_err-open.ensures.told)

pub returns-in_err-view-clause-views : goal.returns-in_err-view-clause-views
returns-in_err-view-clause-views g c = inl (lost_view _ _ _ _ c.from_residual-in_err-view.ensures.1 c.in_ok-open.ensures.told)

pub returns-clause-views : goal.returns-clause-views
returns-clause-views g c =
    let viewed = viewed_of c.args.words.now c.args.setup in
    let made = c.in_ok-view.ensures in
    inl (subst (λ (s : DeskState). Views viewed c.view_log.result s (g.D.Desk.state c.view_log.new.desk)) c.in_ok-open.ensures.told
    (c.view_log.ensures.views viewed _ (begins viewed _ _ made.view made.pictures made.behind.1)))
