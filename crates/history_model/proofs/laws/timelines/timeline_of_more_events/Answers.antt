use Rattle.history_model.proofs.Timelines.{timeline-one_more, timeline-later}
use Rattle.history_model.proofs.laws.timelines.timeline_of_more_events.Goals as goal

pub returns-clause-one : goal.returns-clause-one
returns-clause-one c = timeline-one_more

pub returns-clause-later : goal.returns-clause-later
returns-clause-later c = timeline-later
