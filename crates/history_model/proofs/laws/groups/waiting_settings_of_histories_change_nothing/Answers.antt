use Rattle.std.proofs.Common.{ap, sym, ◌∙◌}
use Rattle.history_model.specs.stage.Group.{without_waiting}
use Rattle.history_model.specs.stage.Timeline.{timeline}
use Rattle.history_model.proofs.Timelines.{pixel-timeline, sample-timeline, statuses-timeline, ticks-timeline, timeline-later, value-timeline}
use Rattle.history_model.proofs.Groups.{pixel-without, sample-without, statuses-without, ticks-without, value-without, without-before}
use Rattle.history_model.proofs.laws.groups.waiting_settings_of_histories_change_nothing.Goals as goal

pub returns-clause-pixels : goal.returns-clause-pixels
returns-clause-pixels c setup which history channel x y =
    pixel-timeline setup history channel x y ∙ sym (pixel-without setup which (timeline history) channel x y)

pub returns-clause-samples : goal.returns-clause-samples
returns-clause-samples c setup which history channel pair side =
    sample-timeline setup history channel pair side ∙ sym (sample-without setup which (timeline history) channel pair side)

pub returns-clause-values : goal.returns-clause-values
returns-clause-values c which history place prop now =
    value-timeline history place prop now ∙ sym (value-without which (timeline history) place prop now)

pub returns-clause-statuses : goal.returns-clause-statuses
returns-clause-statuses c setup which history =
    statuses-timeline setup history ∙ sym (statuses-without setup which (timeline history))

pub returns-clause-prefixes : goal.returns-clause-prefixes
returns-clause-prefixes c setup which history later =
    let (entries, whole) = timeline-later history later in
    let (some, parted) = without-before which entries (timeline history) in (
      without_waiting which entries,
      without_waiting some (timeline history),
      ap (without_waiting which) whole ∙ parted,
      record {
        time = ticks-timeline history ∙ sym (ticks-without some (timeline history));
        pixels = λ channel x y. pixel-timeline setup history channel x y ∙ sym (pixel-without setup some (timeline history) channel x y);
        samples = λ channel pair side.
            sample-timeline setup history channel pair side ∙ sym (sample-without setup some (timeline history) channel pair side);
        values = λ place prop now. value-timeline history place prop now ∙ sym (value-without some (timeline history) place prop now);
        reported = statuses-timeline setup history ∙ sym (statuses-without setup some (timeline history));
      },
    )
