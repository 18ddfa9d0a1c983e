use Rattle.std.proofs.Common.{◌≡◌, ℕ, ◌*◌, ◌%◌, ◌<◌, ◌≤◌, length, slice_index}
use Rattle.std.specs.Prelude.{◌&&◌, nat_lt, if◌then◌else◌}
use Rattle.clip_format.specs.Preparing.{AreBytes, straight_colour}
use Rattle.clip_format.specs.Recolouring.{made_at}
use Rattle.clip_format.proofs.straight.straighten_frames.Given as goal

-- the colours of the pictures of the frames before this one are straight, and the other bytes are as they were
abbrev pub invariant-loop-number : goal.invariant-loop-number
invariant-loop-number l = record {
  of_bytes : AreBytes l.initial.bytes;
  len : length l.bytes ≡ length l.initial.bytes;
  done : (k : ℕ) → k < l.number * l.frame → slice_index l.bytes k
      ≡ (if nat_lt (k % l.frame) l.picture && nat_lt (k % 4) 3 then made_at straight_colour l.initial.bytes k else slice_index l.initial.bytes k);
  rest : (k : ℕ) → l.number * l.frame ≤ k → slice_index l.bytes k ≡ slice_index l.initial.bytes k;
}
