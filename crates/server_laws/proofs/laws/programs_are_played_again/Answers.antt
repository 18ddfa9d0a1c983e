use Rattle.history_replay.proofs.Marked.{replay_events, replay_output}
use Rattle.play_server.specs.Program.{program_of}
use Rattle.server_run.specs.Run.{playout_of}
use Rattle.server_laws.proofs.HasServedClients.{program_replayable, text_taken}
use Rattle.server_laws.proofs.laws.programs_are_played_again.Goals as goal

pub returns-clause-text : goal.returns-clause-text
returns-clause-text g c = λ line moments run text told.
    text_taken (record { clock = g.C.Clock.state; door = g.D.Listener.state; out = g.O.Sink.state }) g.D.Line.Sink.state line moments run text told

pub returns-clause-again : goal.returns-clause-again
returns-clause-again g c = λ line moments digests run named played same without.
    replay_events (playout_of (program_of run.setup) digests) run.served.serves.history played
    (program_replayable (record { clock = g.C.Clock.state; door = g.D.Listener.state; out = g.O.Sink.state }) g.D.Line.Sink.state line moments run digests named) same without

pub returns-clause-output : goal.returns-clause-output
returns-clause-output g c = λ line moments digests run named played same without.
    replay_output (playout_of (program_of run.setup) digests) run.served.serves.history played
    (program_replayable (record { clock = g.C.Clock.state; door = g.D.Listener.state; out = g.O.Sink.state }) g.D.Line.Sink.state line moments run digests named) same without
