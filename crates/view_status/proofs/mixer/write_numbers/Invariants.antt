use Rattle.std.proofs.Common.{◌≡◌, ◌++◌, take}
use Rattle.std.specs.List.{flat_map}
use Rattle.view_status.specs.Tokens.{signed}
use Rattle.view_status.proofs.mixer.write_numbers.Given as goal

-- the numbers so far were written
abbrev pub invariant-loop-number : goal.invariant-loop-number
invariant-loop-number l = l.document ≡ l.initial.document ++ flat_map signed (take l.number-index l.numbers)
