use Rattle.mixer_state.proofs.Tables.{table-none}
use Rattle.mixer_state.proofs.places.Places.new.Goals as goal

pub returns-clause-entries : goal.returns-clause-entries
returns-clause-entries c place = table-none c.loop-channel.list.items place c.loop-channel.invariant.none
