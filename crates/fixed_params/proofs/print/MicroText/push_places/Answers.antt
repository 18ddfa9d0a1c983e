use Rattle.std.proofs.Common.{arith}
use Rattle.fixed_params.proofs.Places.{places_start, weight_above, places_next, places_end}
use Rattle.fixed_params.proofs.print.MicroText.push_places.Goals as goal

pub loop-rest-init : goal.loop-rest-init
loop-rest-init c = places_start c.args.self.now c.args.rest c.requires.places c.requires.room

pub nonzero_div-rest : goal.nonzero_div-rest
nonzero_div-rest c = weight_above c.loop-rest.invariant c.loop-rest-test.true

pub nonzero_rem-rest : goal.nonzero_rem-rest
nonzero_rem-rest c = weight_above c.loop-rest.invariant c.loop-rest-test.true

pub loop-rest-smaller : goal.loop-rest-smaller
loop-rest-smaller c = omega (arith, weight_above c.loop-rest.invariant c.loop-rest-test.true)

pub loop-rest-preserved : goal.loop-rest-preserved
loop-rest-preserved c = places_next c.push.new.self c.loop-rest.invariant c.loop-rest-test.true c.push.ensures

pub returns : goal.returns
returns c = places_end c.loop-rest.invariant (omega arith)
