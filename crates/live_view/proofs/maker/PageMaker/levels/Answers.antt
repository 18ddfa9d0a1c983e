use Rattle.live_view.specs.inner.Maker.{source_in}
use Rattle.live_view.proofs.Pages.{levels_more}
use Rattle.live_view.proofs.maker.PageMaker.levels.Goals as goal

pub loop-at-preserved : goal.loop-at-preserved
loop-at-preserved c =
    levels_more (source_in c.args.self) c.loop-at.at c.loop-at.list.items c.push.new.self.items c.levels_of-levels.result c.loop-at.invariant c.levels_of-levels.ensures
    c.in_ok-push.ensures.items
