use Rattle.std.proofs.Common.{◌≡◌, length, drop}
use Rattle.std.specs.List.{flat_map}
use Rattle.play_journal.proofs.entries.entries_from.Given as goal

-- the entries of the blocks that are left, without the first `left`, are all entries without the first `at`
abbrev pub invariant-loop-block : goal.invariant-loop-block
invariant-loop-block l = drop l.left (flat_map (λ block. block.items) l.blocks) ≡ drop l.at (flat_map (λ block. block.items) l.fn.blocks)

abbrev pub decreases-loop-block : goal.decreases-loop-block
decreases-loop-block l = length l.blocks
