use Rattle.std.proofs.Common.{◌∙◌, refl}
use Rattle.play_viewer.proofs.Moves.{ends_so, goes_on, has_ended, view_after}
use Rattle.play_viewer.proofs.viewing.view_log.Goals as goal

pub loop-init : goal.loop-init
loop-init g c = record { view = c.requires; folder = refl; way = λ viewed before way. way }

pub loop-preserved : goal.loop-preserved
loop-preserved g c = record {
  view = view_after _ c.in-Some-2.next c.in-Some-2.is c.in_ok-next.ensures.view;
  folder = c.take_step.ensures.folder ∙ c.loop.invariant.folder;
  way = λ viewed before way. goes_on _ viewed before _ c.in-Some-2.next c.in-Some-2.is (c.in_ok-next.ensures.goes viewed before (c.loop.invariant.way viewed before way));
}

pub returns-in-None-2-clause-views : goal.returns-in-None-2-clause-views
returns-in-None-2-clause-views g c = λ viewed before way. has_ended _ viewed before _ c.in-None-2.is (c.in_ok-next.ensures.goes viewed before (c.loop.invariant.way viewed before way))

pub returns-in-None-2-clause-folder : goal.returns-in-None-2-clause-folder
returns-in-None-2-clause-folder g c = c.take_step.ensures.folder ∙ c.loop.invariant.folder

pub returns-in_err-next-clause-views : goal.returns-in_err-next-clause-views
returns-in_err-next-clause-views g c = λ viewed before way.
    ends_so viewed before _ _ _ c.from_residual.ensures.1 (c.in_err-next.ensures.goes viewed before (c.loop.invariant.way viewed before way))

pub returns-in_err-next-clause-folder : goal.returns-in_err-next-clause-folder
returns-in_err-next-clause-folder g c = c.take_step.ensures.folder ∙ c.loop.invariant.folder
