use Rattle.clip_format.specs.Table.{media_names}
use Rattle.history_model.specs.text.History.{history_text}
use Rattle.history_replay.proofs.Marked.{replay_events, replay_output}
use Rattle.server_run.specs.Run.{playout_of}
use Rattle.server_laws.proofs.IsReplayable.{run_replayable, taken_by_new}
use Rattle.server_laws.proofs.laws.runs_are_played_again.Goals as goal

pub returns-clause-replayable : goal.returns-clause-replayable
returns-clause-replayable g c = λ program end devices digests run many named.
    run_replayable (record { clock = g.C.Clock.state; door = g.D.Listener.state; out = g.O.Sink.state }) g.D.Line.Sink.state program end devices digests run many named

pub returns-clause-text : goal.returns-clause-text
returns-clause-text g c = λ program end devices run new all text told.
    taken_by_new run.written (g.O.Sink.state devices.0.history) (g.O.Sink.state devices.1.history) (history_text (media_names program.media) run.history) text new all run.text told

pub returns-clause-again : goal.returns-clause-again
returns-clause-again g c = λ program end devices digests run many named played same without.
    replay_events (playout_of program digests) run.history played
    (run_replayable (record { clock = g.C.Clock.state; door = g.D.Listener.state; out = g.O.Sink.state }) g.D.Line.Sink.state program end devices digests run many named) same without

pub returns-clause-output : goal.returns-clause-output
returns-clause-output g c = λ program end devices digests run many named played same without.
    replay_output (playout_of program digests) run.history played
    (run_replayable (record { clock = g.C.Clock.state; door = g.D.Listener.state; out = g.O.Sink.state }) g.D.Line.Sink.state program end devices digests run many named) same without
