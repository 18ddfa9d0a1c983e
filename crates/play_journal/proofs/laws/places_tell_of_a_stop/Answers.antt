use Rattle.play_journal.proofs.Places.{behind_stop}
use Rattle.play_journal.proofs.laws.places_tell_of_a_stop.Goals as goal

pub returns : goal.returns
returns c = behind_stop
