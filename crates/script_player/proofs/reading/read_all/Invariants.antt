use Rattle.std.proofs.Common.{◌≡◌, ◌+◌, ◌-◌, ◌≤◌, length}
use Rattle.play_outside.specs.Source.{Consumes}
use Rattle.script_player.specs.declared.reading.TheConstants.{PIECE_BYTES}
use Rattle.script_player.proofs.reading.read_all.Given as goal

-- what was read so far is held
abbrev pub invariant-pieces : goal.invariant-pieces
invariant-pieces g l = record {
  buffer : length l.buffer ≡ PIECE_BYTES;
  few : length l.bytes.items ≤ l.fn.most;
  consumed : Consumes l.bytes.items (g.I.Source.state l.initial.input) (g.I.Source.state l.input);
}

-- each turn that goes on takes at least one of the bytes that are allowed
abbrev pub decreases-pieces : goal.decreases-pieces
decreases-pieces g l = l.fn.most + 1 - length l.bytes.items
