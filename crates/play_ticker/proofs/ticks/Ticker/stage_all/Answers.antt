use Rattle.std.proofs.Common.{refl}
use Rattle.play_ticker.proofs.StagedTicks.{has_staged}
use Rattle.play_ticker.proofs.ticks.Ticker.stage_all.Goals as goal

pub returns-clause-staged : goal.returns-clause-staged
returns-clause-staged g c =
    has_staged c.args.self.now.stage.now.sizes.given c.stage_ticks-end.result
    (record { pass = c.args.pass.now; clock = g.C.Clock.state c.args.clock.now; pipe = c.args.pipe.now })
    (record { pass = c.stage_ticks-end.new.pass; clock = g.C.Clock.state c.stage_ticks-end.new.clock; pipe = c.stage_ticks-end.new.pipe })
    (record { pass = c.stop.new.pass; clock = g.C.Clock.state c.stage_ticks-end.new.clock; pipe = c.finish.new.self })
    c.stage_ticks-end.ensures.staged c.stop.ensures.stops refl c.finish.ensures
