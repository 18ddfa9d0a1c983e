use Rattle.fixed_params.proofs.Places.{PlacesLeft}
use Rattle.fixed_params.proofs.print.MicroText.push_places.Given as goal

abbrev pub invariant-loop-rest : goal.invariant-loop-rest
invariant-loop-rest l = PlacesLeft l.self l.fn.self l.fn.rest l.rest l.weight

abbrev pub decreases-loop-rest : goal.decreases-loop-rest
decreases-loop-rest l = l.weight
