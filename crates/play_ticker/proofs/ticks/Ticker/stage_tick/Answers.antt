use Rattle.std.proofs.Common.{◌∙◌, refl, sym}
use Rattle.stage_lock.proofs.Calls.{counted_tick}
use Rattle.play_ticker.proofs.Counts.{room_channels}
use Rattle.play_ticker.proofs.Ticking.{scenes_many, stages_tick}
use Rattle.play_ticker.proofs.ticks.Ticker.stage_tick.Goals as goal

pub send-requires : goal.send-requires
send-requires g c =
    scenes_many _ _ _ _ _ (counted_tick _ _ _ _ _ c.in_ok-ticked.ensures.call) ∙ sym c.requires.channels ∙ sym (room_channels c.room.result c.args.pipe.now c.room.new.self c.room.ensures)

pub returns-clause-step : goal.returns-clause-step
returns-clause-step g c =
    stages_tick c.args.self.now.stage.now.sizes.given
    (record { pass = c.args.pass.now; clock = g.C.Clock.state c.args.clock.now; pipe = c.args.pipe.now })
    (record { pass = c.tick_counted.new.pass; clock = g.C.Clock.state c.holds.new.self; pipe = c.send.new.self })
    c.room.new.self c.args.self.now.stage.now.sizes c.in_ok-ticked.ticked.number c.tick_counted.new.scenes refl
    (record { scenes = c.in-Free.scenes; room = c.in-Free.ensures }) (counted_tick _ _ _ _ _ c.in_ok-ticked.ensures.call) (c.holds.ensures ∙ c.in-Pulse.ensures) c.send.ensures
    (sym c.requires.channels ∙ sym (room_channels c.room.result c.args.pipe.now c.room.new.self c.room.ensures))
