use Rattle.std.proofs.Common.{◌≤◌, All, take}
use Rattle.band_render.proofs.rooms.widest.Given as goal

-- the channels before this one are not wider
abbrev pub invariant-loop-at : goal.invariant-loop-at
invariant-loop-at l = All (λ channel. channel.width ≤ l.widest) (take l.at l.channels)
