use Rattle.play_recorder.proofs.Playing.{from_ok, tick_taken}
use Rattle.play_recorder.proofs.replay.Replay.tick.Goals as goal

pub unwrap-requires : goal.unwrap-requires
unwrap-requires c = tick_taken c.args.self.now.stage c.tick.result c.tick.ensures.fault c.requires.running c.requires.time

pub returns-clause-scenes : goal.returns-clause-scenes
returns-clause-scenes c = from_ok c.tick.result c.unwrap.result c.unwrap.ensures c.tick.ensures.scenes

pub returns-clause-made : goal.returns-clause-made
returns-clause-made c = from_ok c.tick.result c.unwrap.result c.unwrap.ensures c.tick.ensures.journal
