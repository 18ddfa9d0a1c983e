-- What contracts see of a place.
use Rattle.std.specs.Prelude.{ℕ, ◌≤◌}
use Rattle.play_types.specs.declared.place.TheConstants.{MAX_CHANNELS, MAX_LAYER}

-- a layer of a channel
pub record PlaceView : Type 0 where
  pub channel : ℕ
  pub layer : ℕ

-- the channel is 1 to 16, and the layer at most 9999
pub record IsPlace (channel layer : ℕ) : Type 0 where
  pub from_one : 1 ≤ channel
  pub channels : channel ≤ MAX_CHANNELS
  pub layers : layer ≤ MAX_LAYER
