use Rattle.lane_blend.proofs.Vectors.{are_bytes, over_is, rests_bytes, rests_fit, sum_fits}
use Rattle.lane_blend.proofs.lanes.over_lanes.Goals as goal

pub overflow_sub-alphas : goal.overflow_sub-alphas
overflow_sub-alphas c = rests_fit c.args.src c.args.dst c.fits-src.0 c.fits-dst.0 (are_bytes c.args.src c.fits-src.1) (are_bytes c.args.dst c.fits-dst.1)

pub scaled_pairs-below-requires : goal.scaled_pairs-below-requires
scaled_pairs-below-requires c = rests_bytes c.args.src c.args.dst c.fits-src.0 c.fits-dst.0 (are_bytes c.args.src c.fits-src.1) (are_bytes c.args.dst c.fits-dst.1)

pub overflow_add-result : goal.overflow_add-result
overflow_add-result c = sum_fits c.args.src c.args.dst c.fits-src.0 c.fits-dst.0 (are_bytes c.args.src c.fits-src.1) (are_bytes c.args.dst c.fits-dst.1) c.scaled_pairs-below.result c.scaled_pairs-below.ensures c.requires

pub returns : goal.returns
returns c = over_is c.args.src c.args.dst c.fits-src.0 c.fits-dst.0 (are_bytes c.args.src c.fits-src.1) (are_bytes c.args.dst c.fits-dst.1) c.scaled_pairs-below.result c.scaled_pairs-below.ensures
