use Rattle.route_graph.proofs.ShownLayers.{added-new, shown_on-other, shown_on-same}
use Rattle.route_graph.proofs.laws.layers_after_a_show.Goals as goal

pub returns-clause-same : goal.returns-clause-same
returns-clause-same c = shown_on-same

pub returns-clause-other : goal.returns-clause-other
returns-clause-other c = shown_on-other

pub returns-clause-new : goal.returns-clause-new
returns-clause-new c = added-new
