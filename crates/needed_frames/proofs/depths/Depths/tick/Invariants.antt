use Rattle.std.proofs.Common.{◌≡◌, ◌+◌, ◌≤◌, All, ℕ, length}
use Rattle.play_types.specs.Scene.{IsConfigured, scene_at}
use Rattle.needed_frames.specs.Counted.{depth_at}
use Rattle.needed_frames.specs.Depth.{depth_behind, shown_channels}
use Rattle.needed_frames.proofs.depths.Depths.tick.Given as goal

-- the depths of the channels below the index
abbrev pub invariant-loop-at : goal.invariant-loop-at
invariant-loop-at l = record {
  long : length l.depths ≡ 16;
  within : All (λ one. one ≤ l.fn.self.ticks + 1) l.depths;
  each : (channel : ℕ) → IsConfigured l.at channel
      → depth_at channel (record { ticks = 0; depths = l.depths }) ≡ depth_behind (λ one. depth_at one l.fn.self) (shown_channels (scene_at channel l.scenes));
}
