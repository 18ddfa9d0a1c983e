use Rattle.play_recorder.proofs.Events.{have_events}
use Rattle.play_recorder.proofs.each_event.each_event.Goals as goal

pub invariant_of-result : goal.invariant_of-result
invariant_of-result c = have_events c.events.result c.events.ensures.times
