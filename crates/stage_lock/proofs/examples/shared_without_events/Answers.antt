use Rattle.std.proofs.Common.{List, ◌++◌, ap}
use Rattle.play_types.specs.declared.event.Event.{Event}
use Rattle.stage_lock.proofs.examples.shared_without_events.Goals as goal

pub returns : goal.returns
returns c = λ sizes history none. ap (λ (given : List Event). given ++ history) none
