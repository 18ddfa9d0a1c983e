use Rattle.std.proofs.Common.{◌∙◌}
use Rattle.view_status.proofs.Listed.{no_tick, no_ticks_of_run, ticks_of_ticks}
use Rattle.view_status.proofs.place.Place.after.Goals as goal
use Rattle.view_status.proofs.place.Place.after.Goals.{in-Tick, in-Do, in-Do-2, in-Do-3}

pub returns-clause-tick : goal.returns-clause-tick
returns-clause-tick c = elim c.match-event.branch [
  | in-Tick w ↦ cc (w.in-Tick.is, w.tick-is, ticks_of_ticks c.args.times)
  | in-Do w ↦ w.tick-is ∙ no_ticks_of_run c.args.event.now c.args.times c.args.self.tick c.requires.times (no_tick c.args.event.now w.in-Do.is)
  | in-Do-2 w ↦ w.tick-is ∙ no_ticks_of_run c.args.event.now c.args.times c.args.self.tick c.requires.times (no_tick c.args.event.now w.in-Do.is)
  | in-Do-3 w ↦ w.tick-is ∙ no_ticks_of_run c.args.event.now c.args.times c.args.self.tick c.requires.times (no_tick c.args.event.now w.in-Do.is)
]
