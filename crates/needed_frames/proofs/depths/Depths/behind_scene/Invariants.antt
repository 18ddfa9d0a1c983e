use Rattle.std.proofs.Common.{◌≡◌, ◌+◌, ◌≤◌, max, drop}
use Rattle.needed_frames.specs.Counted.{depth_at}
use Rattle.needed_frames.specs.Depth.{depth_behind, shown_channels}
use Rattle.needed_frames.proofs.depths.Depths.behind_scene.Given as goal

-- the layers so far, and those that are left
abbrev pub invariant-loop-layer : goal.invariant-loop-layer
invariant-loop-layer l = record {
  value : depth_behind (λ channel. depth_at channel l.self) (shown_channels l.scene)
      ≡ max l.deepest (depth_behind (λ channel. depth_at channel l.self) (shown_channels (drop l.layer-index l.layer-items)));
  within : l.deepest ≤ l.self.ticks + 1;
}
