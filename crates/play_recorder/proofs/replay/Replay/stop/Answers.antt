use Rattle.play_recorder.proofs.Playing.{from_ok, stop_taken}
use Rattle.play_recorder.proofs.replay.Replay.stop.Goals as goal

pub unwrap-requires : goal.unwrap-requires
unwrap-requires c = stop_taken c.args.self.now.stage.journal.events c.stop.result c.stop.ensures.ended c.requires

pub returns-clause-made : goal.returns-clause-made
returns-clause-made c = from_ok c.stop.result c.unwrap.result c.unwrap.ensures c.stop.ensures.journal
