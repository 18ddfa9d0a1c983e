use Rattle.std.proofs.Common.{◌≡◌, ◌++◌, length}
use Rattle.std.specs.List.{flat_map}
use Rattle.play_journal.proofs.entries.EntriesIterator.next.Given as goal

-- no entry was passed over
abbrev pub invariant-loop-entry : goal.invariant-loop-entry
invariant-loop-entry l = l.self-inside.entries.now ++ flat_map (λ block. block.items) l.self-inside.blocks.now ≡ l.fn.self

abbrev pub decreases-loop-entry : goal.decreases-loop-entry
decreases-loop-entry l = length l.self-inside.blocks.now
