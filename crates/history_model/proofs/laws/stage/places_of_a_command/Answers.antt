use Rattle.history_model.proofs.stage.Changes.{ArePlaces-live_after, live_after-other, standing-exchanged, waiting_count_after-other}
use Rattle.history_model.proofs.laws.stage.places_of_a_command.Goals as goal

pub returns-clause-list : goal.returns-clause-list
returns-clause-list c = ArePlaces-live_after

pub returns-clause-swap : goal.returns-clause-swap
returns-clause-swap c = standing-exchanged

pub returns-clause-other : goal.returns-clause-other
returns-clause-other c cmd before channel apart = live_after-other before channel cmd apart

pub returns-clause-other_waiting : goal.returns-clause-other_waiting
returns-clause-other_waiting c = waiting_count_after-other
