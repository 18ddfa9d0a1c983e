use Rattle.std.proofs.Common.{ap, ◌∙◌}
use Rattle.history_model.specs.stage.Timeline.{timeline_value}
use Rattle.history_model.specs.pictures.TimelineFrame.{timeline_pixel, timeline_sample, timeline_statuses}
use Rattle.history_model.proofs.Timelines.{pixel-timeline, sample-timeline, value-timeline, statuses-timeline}
use Rattle.history_model.proofs.Commits.{pixel-group, sample-group, value-group, statuses-group}
use Rattle.history_model.proofs.laws.groups.commit_in_a_history_starts_its_group.Goals as goal

pub returns-clause-pixels : goal.returns-clause-pixels
returns-clause-pixels c setup history later before committed channel x y stands =
    pixel-timeline setup history channel x y ∙ ap (λ entries. timeline_pixel setup entries channel x y) stands
    ∙ pixel-group setup later before committed channel x y

pub returns-clause-samples : goal.returns-clause-samples
returns-clause-samples c setup history later before committed channel pair side stands =
    sample-timeline setup history channel pair side ∙ ap (λ entries. timeline_sample setup entries channel pair side) stands
    ∙ sample-group setup later before committed channel pair side

pub returns-clause-values : goal.returns-clause-values
returns-clause-values c history later before committed place prop now stands =
    value-timeline history place prop now ∙ ap (λ entries. timeline_value entries place prop now) stands
    ∙ value-group later before committed place prop now

pub returns-clause-statuses : goal.returns-clause-statuses
returns-clause-statuses c setup history later before committed stands =
    statuses-timeline setup history ∙ ap (timeline_statuses setup) stands ∙ statuses-group setup later before committed
