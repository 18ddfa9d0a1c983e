use Rattle.std.proofs.Common.{◌≡◌, map}
use Rattle.std.specs.List.{range_with_len}
use Rattle.live_view.specs.Page.{levels_at}
use Rattle.live_view.specs.inner.Maker.{source_in}
use Rattle.live_view.proofs.maker.PageMaker.levels.Given as goal

-- the levels of the channels before this one are listed
abbrev pub invariant-loop-at : goal.invariant-loop-at
invariant-loop-at l = l.list.items ≡ map (levels_at (source_in l.fn.self)) (range_with_len 1 l.at)
