use Rattle.std.proofs.Common.{◌≡◌, ◌*◌, ◌≤◌, take, length, map}
use Rattle.play_scene.specs.Frames.{zero_frame}
use Rattle.play_scene.specs.Parts.{BeginAt, parts_length, transparent}
use Rattle.play_scene.proofs.frames.Frames.new.Given as goal

-- the channels before this one, each with at most 2 to the 26th bytes of pixels
abbrev pub invariant-loop-channel : goal.invariant-loop-channel
invariant-loop-channel l = record {
  frames : map transparent l.parts.items ≡ map zero_frame (take (length l.yielded) l.config.channels);
  starts : BeginAt 0 l.parts.items;
  counted : l.count ≡ parts_length l.parts.items;
  small : l.count ≤ 67108864 * length l.yielded;
}
