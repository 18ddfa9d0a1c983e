use Rattle.route_graph.proofs.Past.{source_of_tick}
use Rattle.route_graph.proofs.laws.sources_by_a_tick.Goals as goal

pub returns : goal.returns
returns c = source_of_tick
