use Rattle.std.proofs.Common.{◌≡◌, ℕ, ◌%◌, ◌<◌, ◌≤◌, slice_index}
use Rattle.std.specs.Prelude.{◌&&◌, nat_le, nat_lt, if◌then◌else◌}
use Rattle.clip_format.specs.Preparing.{straight_colour}
use Rattle.clip_format.specs.Recolouring.{made_at}
use Rattle.clip_format.proofs.straight.straighten.Given as goal

-- the colour bytes before this place are straight, and the others are as they were
abbrev pub invariant-loop-at : goal.invariant-loop-at
invariant-loop-at l = record {
  done : (k : ℕ) → k < l.at → slice_index l.bytes k
      ≡ (if nat_le l.from k && nat_lt (k % 4) 3 then made_at straight_colour l.initial.bytes k else slice_index l.initial.bytes k);
  rest : (k : ℕ) → l.at ≤ k → slice_index l.bytes k ≡ slice_index l.initial.bytes k;
}
