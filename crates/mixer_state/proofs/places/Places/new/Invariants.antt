use Rattle.std.proofs.Common.{◌≡◌, ◌≤◌, [], vec_len}
use Rattle.std.specs.Prelude.{All}
use Rattle.std.specs.Vec.{vec_capacity}
use Rattle.mixer_state.specs.Found.{LayersView}
use Rattle.mixer_state.proofs.places.Places.new.Given as goal

-- the channels so far have no entries, and there is room for the others
abbrev pub invariant-loop-channel : goal.invariant-loop-channel
invariant-loop-channel l = record {
  none : All (λ (layers : LayersView). layers.entries ≡ []) l.list.items;
  count : vec_len l.list ≡ l._channel;
  room : l.channels ≤ vec_capacity l.list;
}
