use Rattle.std.proofs.Common.{◌∙◌}
use Rattle.lane_blend.proofs.Vectors.{are_bytes, keyed_is, reds_bytes}
use Rattle.lane_blend.proofs.lanes.key_lanes.Goals as goal

pub scaled_pairs-requires : goal.scaled_pairs-requires
scaled_pairs-requires c = reds_bytes c.args.keys c.fits-keys.0 (are_bytes c.args.keys c.fits-keys.1)

pub returns : goal.returns
returns c = c.scaled_pairs.ensures ∙ keyed_is c.args.row c.args.keys c.fits-keys.0 (are_bytes c.args.keys c.fits-keys.1)
