use Rattle.lane_blend.proofs.Vectors.{are_bytes, both_fit, evens_bytes, high_fits, odds_bytes, pairs_scaled}
use Rattle.lane_blend.proofs.lanes.scaled_pairs.Goals as goal

pub scaled_lanes-first-requires-clause-values : goal.scaled_lanes-first-requires-clause-values
scaled_lanes-first-requires-clause-values c = evens_bytes c.args.values c.args.by c.fits-values.0 c.fits-by.0 (are_bytes c.args.values c.fits-values.1) c.requires

pub scaled_lanes-second-requires-clause-values : goal.scaled_lanes-second-requires-clause-values
scaled_lanes-second-requires-clause-values c = odds_bytes c.args.values c.args.by c.fits-values.0 c.fits-by.0 (are_bytes c.args.values c.fits-values.1) c.requires

pub overflow_mul-both : goal.overflow_mul-both
overflow_mul-both c = high_fits c.args.values c.args.by c.fits-values.0 c.fits-by.0 (are_bytes c.args.values c.fits-values.1) c.requires c.scaled_lanes-first.result c.scaled_lanes-second.result c.scaled_lanes-first.ensures c.scaled_lanes-second.ensures

pub overflow_add-both : goal.overflow_add-both
overflow_add-both c = both_fit c.args.values c.args.by c.fits-values.0 c.fits-by.0 (are_bytes c.args.values c.fits-values.1) c.requires c.scaled_lanes-first.result c.scaled_lanes-second.result c.scaled_lanes-first.ensures c.scaled_lanes-second.ensures

pub returns : goal.returns
returns c = pairs_scaled c.args.values c.args.by c.fits-values.0 c.fits-by.0 (are_bytes c.args.values c.fits-values.1) c.requires c.scaled_lanes-first.result c.scaled_lanes-second.result c.scaled_lanes-first.ensures c.scaled_lanes-second.ensures
