use Rattle.std.proofs.Common.{◌≡◌, ◌++◌, take}
use Rattle.std.specs.List.{enumerate_from, flat_map}
use Rattle.view_status.specs.Status.{numbered_tokens, source_of}
use Rattle.view_status.proofs.status.write_channels.Given as goal

-- the channels before this one were written
abbrev pub invariant-loop-at : goal.invariant-loop-at
invariant-loop-at l =
    l.document ≡ l.initial.document
    ++ flat_map (numbered_tokens (source_of l.fn.source)) (take l.at (enumerate_from 1 l.fn.source.config.now.channels))
