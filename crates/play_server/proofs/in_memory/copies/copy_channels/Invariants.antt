use Rattle.std.proofs.Common.{◌≡◌, take, length}
use Rattle.play_server.proofs.in_memory.copies.copy_channels.Given as goal

-- the channels before this one
abbrev pub invariant-loop-channel : goal.invariant-loop-channel
invariant-loop-channel l = l.copies ≡ take (length l.yielded) l.channels
