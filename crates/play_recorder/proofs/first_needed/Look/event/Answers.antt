use Rattle.play_recorder.proofs.Playing.{next_running, tick_time}
use Rattle.play_recorder.proofs.first_needed.Look.event.Goals as goal

pub tick-requires-clause-running : goal.tick-requires-clause-running
tick-requires-clause-running c = next_running c.args.self.now.replay.played.stage c.args.event.now c.requires.can

pub tick-requires-clause-time : goal.tick-requires-clause-time
tick-requires-clause-time c = tick_time c.args.self.now.replay.played.stage c.args.event.now c.requires.can c.in-Tick.is
