use Rattle.play_ticker.proofs.Ticking.{stops_either, stops_unless}
use Rattle.play_ticker.proofs.ticks.Ticker.stop.Goals as goal

pub returns-in-ClockClosed : goal.returns-in-ClockClosed
returns-in-ClockClosed g c = record {
  of = c.stop.ensures.of;
  stops = stops_unless c.args.self.now.stage.now.sizes.given c.args.end c.args.pass.now c.stop.new.pass c.in-ClockClosed.is
      (stops_either c.args.self.now.stage.now.sizes.given c.stop.result c.args.pass.now c.stop.new.pass c.stop.ensures.call);
}
