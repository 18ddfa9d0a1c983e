use Rattle.history_replay.proofs.Marked.{replay_events, replay_output}
use Rattle.history_model.proofs.WithMemory.{HasMemory-with_memory}
use Rattle.history_replay.specs.Replay.{script_of}
use Rattle.history_replay.proofs.laws.replays_have_the_history.Goals as goal

pub returns-clause-history : goal.returns-clause-history
returns-clause-history c = replay_events

pub returns-clause-output : goal.returns-clause-output
returns-clause-output c = replay_output

pub returns-clause-some : goal.returns-clause-some
returns-clause-some c playout text = HasMemory-with_memory playout (script_of text)
