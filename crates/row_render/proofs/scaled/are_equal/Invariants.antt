use Rattle.std.proofs.Common.{◌≡◌, ℕ, ◌<◌, ◌-◌, true, length, slice_index}
use Rattle.row_render.proofs.scaled.are_equal.Given as goal

-- the bytes so far are the same, unless a difference was found
abbrev pub invariant-bytes : goal.invariant-bytes
invariant-bytes l = l.same ≡ true → (k : ℕ) → k < l.at → slice_index l.one k ≡ slice_index l.other k

abbrev pub decreases-bytes : goal.decreases-bytes
decreases-bytes l = length l.one - l.at
