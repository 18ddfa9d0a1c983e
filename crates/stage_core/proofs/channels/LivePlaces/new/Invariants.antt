use Rattle.std.proofs.Common.{◌≡◌, ◌≤◌, [], replicate, vec_len, vec_capacity}
use Rattle.stage_core.proofs.channels.LivePlaces.new.Given as goal

-- the channels so far have no places, and there is room for all
abbrev pub invariant-loop-channel : goal.invariant-loop-channel
invariant-loop-channel l = record {
  channels : l.channels.items ≡ replicate l._channel [];
  len : vec_len l.channels ≡ l._channel;
  room : l.count ≤ vec_capacity l.channels;
}
