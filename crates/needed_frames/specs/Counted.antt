-- The depths of all channels, counted tick by tick.
use Rattle.std.specs.Prelude.{◌≡◌, ◌≤◌, ℕ, List, All, length}
use Rattle.play_types.specs.ChannelItems.{channel_item}
use Rattle.play_types.specs.History.{ticks}
use Rattle.play_types.specs.Scene.{IsConfigured}
use Rattle.play_types.specs.declared.event.Event.{Event}
use Rattle.play_types.specs.declared.place.TheConstants.{MAX_CHANNELS}
use Rattle.needed_frames.specs.Depth.{last_depth}

-- the number of ticks so far, and a number for each channel that there may be, that of channel 1 first
pub record DepthsView : Type 0 where
  pub ticks : ℕ
  pub depths : List ℕ

-- no channel needs more ticks than there were
pub record AreDepths (depths : DepthsView) : Type 0 where
  pub channels : length depths.depths ≡ MAX_CHANNELS
  pub within : All (λ one. one ≤ depths.ticks) depths.depths

-- the depth of a channel
abbrev pub depth_at : ℕ → DepthsView → ℕ
depth_at channel depths = channel_item channel depths.depths 0

-- the depths of the first `channels` channels are those at the last tick of a history
pub record HasDepths (channels : ℕ) (history : List Event) (depths : DepthsView) : Type 0 where
  pub ticks : depths.ticks ≡ ticks history
  pub each : (channel : ℕ) → IsConfigured channels channel → depth_at channel depths ≡ last_depth history channel
