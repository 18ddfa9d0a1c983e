use Rattle.std.proofs.Common.{◌≡◌, ℕ, ◌<◌, ◌≤◌, get_or, length}
use Rattle.mixer_state.specs.Found.{HaveRoom, entries_of}
use Rattle.mixer_state.proofs.Tables.{no_layers}
use Rattle.mixer_state.proofs.places.reserve_each.Given as goal

-- the channels below the index have room, and none has less than before
abbrev pub invariant-loop-at : goal.invariant-loop-at
invariant-loop-at l = record {
  entries : entries_of l.channels ≡ entries_of l.initial.channels;
  len : length l.channels ≡ length l.initial.channels;
  done : (k : ℕ) → k < l.at → l.count ≤ (get_or l.channels k no_layers).room;
  room : (spare : ℕ) → HaveRoom spare l.initial.channels → HaveRoom spare l.channels;
}
