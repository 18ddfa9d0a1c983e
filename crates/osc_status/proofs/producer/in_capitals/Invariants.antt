use Rattle.std.proofs.Common.{◌≡◌, length, map, take}
use Rattle.std.specs.Char.{to_ascii_uppercase}
use Rattle.osc_status.proofs.producer.in_capitals.Given as goal

-- the digits before this one are in capitals
abbrev pub invariant-loop-at : goal.invariant-loop-at
invariant-loop-at l = record {
  len : length l.capitals ≡ length l.digits;
  done : take l.at l.capitals ≡ map to_ascii_uppercase (take l.at l.digits);
}
