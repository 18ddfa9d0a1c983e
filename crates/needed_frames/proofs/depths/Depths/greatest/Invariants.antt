use Rattle.std.proofs.Common.{◌≡◌, ◌+◌, ◌-◌, ◌≤◌, max, map}
use Rattle.std.specs.List.{range_with_len}
use Rattle.needed_frames.specs.Counted.{depth_at}
use Rattle.needed_frames.specs.Depth.{greatest}
use Rattle.needed_frames.proofs.depths.Depths.greatest.Given as goal

-- the channels so far, and those that are left
abbrev pub invariant-loop-before : goal.invariant-loop-before
invariant-loop-before l = record {
  value : greatest (map (λ channel. depth_at channel l.self) (range_with_len 1 l.channels))
      ≡ max l.greatest (greatest (map (λ channel. depth_at channel l.self) (range_with_len (l.before + 1) (l.channels - l.before))));
  within : l.greatest ≤ l.self.ticks;
}
