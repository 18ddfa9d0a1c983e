use Rattle.lane_blend.proofs.Vectors.{product_fits, rounded_fits, rounded_wide, shares_fit, divides, quotient_fits, scaled_is}
use Rattle.lane_blend.proofs.lanes.scaled_lanes.Goals as goal

pub overflow_mul-product : goal.overflow_mul-product
overflow_mul-product c = product_fits c.args.values c.args.by c.requires.values c.requires.by

pub overflow_add-rounded : goal.overflow_add-rounded
overflow_add-rounded c = rounded_fits c.args.values c.args.by c.requires.values c.requires.by

pub overflow_cast-shares : goal.overflow_cast-shares
overflow_cast-shares c = rounded_wide c.args.values c.args.by c.requires.values c.requires.by

pub overflow_mul-shares : goal.overflow_mul-shares
overflow_mul-shares c = shares_fit c.args.values c.args.by c.requires.values c.requires.by

pub nonzero_div-whole : goal.nonzero_div-whole
nonzero_div-whole c = divides c.args.values c.args.by c.requires.values c.requires.by

pub overflow_cast-result : goal.overflow_cast-result
overflow_cast-result c = quotient_fits c.args.values c.args.by c.requires.values c.requires.by

pub returns : goal.returns
returns c = scaled_is 8 c.args.values c.args.by c.fits-values.0 c.fits-by.0 c.requires.values c.requires.by
