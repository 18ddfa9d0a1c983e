use Rattle.play_recorder.proofs.Playing.{next_running, tick_time}
use Rattle.play_recorder.proofs.recorder.Recorder.write_event.Goals as goal

pub write_tick-requires-clause-running : goal.write_tick-requires-clause-running
write_tick-requires-clause-running g c κs within = next_running c.args.self.now.replay.played.stage c.args.event.now c.requires.can

pub write_tick-requires-clause-time : goal.write_tick-requires-clause-time
write_tick-requires-clause-time g c κs within = tick_time c.args.self.now.replay.played.stage c.args.event.now c.requires.can c.in-Tick.is
