use Rattle.std.proofs.Common.{◌∙◌, List}
use Rattle.play_types.specs.declared.event.Event.{Event}
use Rattle.play_ticker.specs.inner.Staging.{Staging}
use Rattle.play_ticker.proofs.StagedTicks.{IsStaging, staging_ends, staging_first, staging_goes}
use Rattle.play_ticker.proofs.ticks.Ticker.stage_ticks.Goals as goal

pub loop-init : goal.loop-init
loop-init g c = record {
  of = c.requires.tick.of;
  first = c.requires.tick.first;
  channels = c.requires.channels;
  staging = staging_first c.args.self.now.stage.now.sizes.given (record { pass = c.args.pass.now; clock = g.C.Clock.state c.args.clock.now; pipe = c.args.pipe.now })
      c.requires.tick.few c.requires.tick.first c.requires.tick.made c.requires.sent c.requires.returned c.requires.held;
}

pub loop-preserved : goal.loop-preserved
loop-preserved g c =
    let base : Staging = record { pass = c.args.pass.now; clock = g.C.Clock.state c.args.clock.now; pipe = c.args.pipe.now } in
    let old : Staging = record { pass = c.loop.pass; clock = g.C.Clock.state c.loop.clock; pipe = c.loop.pipe } in
    let new : Staging = record { pass = c.stage_tick.new.pass; clock = g.C.Clock.state c.stage_tick.new.clock; pipe = c.stage_tick.new.pipe } in
    let given : List Event = c.args.self.now.stage.now.sizes.given in
    let goes : IsStaging given base new = staging_goes given base old new c.in-Ok.ensures.step c.loop.invariant.staging in
    record {
      of = c.in-Ok.ensures.of;
      first = goes.pass.first;
      channels = goes.same.channels ∙ c.requires.channels;
      staging = goes;
    }

pub returns-in-Err : goal.returns-in-Err
returns-in-Err g c = record {
  of = c.in-Err.ensures.of;
  staged = staging_ends c.args.self.now.stage.now.sizes.given c.in-Err.end
      (record { pass = c.args.pass.now; clock = g.C.Clock.state c.args.clock.now; pipe = c.args.pipe.now })
      (record { pass = c.loop.pass; clock = g.C.Clock.state c.loop.clock; pipe = c.loop.pipe })
      (record { pass = c.stage_tick.new.pass; clock = g.C.Clock.state c.stage_tick.new.clock; pipe = c.stage_tick.new.pipe })
      c.in-Err.ensures.step c.loop.invariant.staging;
}
