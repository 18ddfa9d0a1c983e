use Rattle.std.proofs.Common.{◌≡◌, ◌++◌, take, vec_capacity}
use Rattle.play_server.proofs.in_memory.copies.push_line.Given as goal

abbrev pub invariant-loop-byte : goal.invariant-loop-byte
invariant-loop-byte l = record {
  items : l.to.items ≡ l.initial.to.items ++ take l.byte-index l.line;
  capacity : vec_capacity l.to ≡ vec_capacity l.initial.to;
}
