use Rattle.std.proofs.Common.{◌≡◌, ℕ, ◌<◌, [], get_or, length}
use Rattle.stage_core.proofs.channels.LivePlaces.copy_from.Given as goal

-- the channels below the index are copied
abbrev pub invariant-loop-at : goal.invariant-loop-at
invariant-loop-at l = record {
  same : (k : ℕ) → k < l.at → get_or l.self-inside.channels.items k [] ≡ get_or l.fn.other k [];
  count : length l.self-inside.channels.items ≡ length l.fn.other;
}
