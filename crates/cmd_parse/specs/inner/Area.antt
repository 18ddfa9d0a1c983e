-- The ranges of a channel and a layer as they are written.
use Rattle.std.specs.Prelude.{ℕ, ◌≤◌, Option, unwrap_or}
use Rattle.play_types.specs.declared.place.TheConstants.{MAX_CHANNELS, MAX_LAYER}

-- the channel and the layer, if one is written, are in their ranges
pub record IsArea (channel : ℕ) (layer : Option ℕ) : Type 0 where
  pub from_one : 1 ≤ channel
  pub channels : channel ≤ MAX_CHANNELS
  pub layers : unwrap_or layer 0 ≤ MAX_LAYER
