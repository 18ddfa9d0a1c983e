use Rattle.server_laws.proofs.LoggedAgain.{all_logged, log_taken, logged_events, logged_output, part_logged, whole_logged}
use Rattle.server_laws.proofs.laws.logs_are_played_again.Goals as goal

pub returns-clause-part : goal.returns-clause-part
returns-clause-part g c = λ program end devices run.
    part_logged (record { clock = g.C.Clock.state; door = g.D.Listener.state; out = g.O.Sink.state }) g.D.Line.Sink.state program end devices run

pub returns-clause-whole : goal.returns-clause-whole
returns-clause-whole g c = λ program end devices run all.
    all_logged (record { clock = g.C.Clock.state; door = g.D.Listener.state; out = g.O.Sink.state }) g.D.Line.Sink.state program end devices run all

pub returns-clause-again : goal.returns-clause-again
returns-clause-again g c = λ program end devices digests run all many named played same without.
    logged_events (record { clock = g.C.Clock.state; door = g.D.Listener.state; out = g.O.Sink.state }) g.D.Line.Sink.state program end devices run all digests many named played same without

pub returns-clause-output : goal.returns-clause-output
returns-clause-output g c = λ program end devices digests run all many named played same without.
    logged_output (record { clock = g.C.Clock.state; door = g.D.Listener.state; out = g.O.Sink.state }) g.D.Line.Sink.state program end devices run all digests many named played same without

pub returns-clause-text : goal.returns-clause-text
returns-clause-text g c = λ line moments run. (
  whole_logged (record { clock = g.C.Clock.state; door = g.D.Listener.state; out = g.O.Sink.state }) g.D.Line.Sink.state line moments run,
  λ text told. log_taken (record { clock = g.C.Clock.state; door = g.D.Listener.state; out = g.O.Sink.state }) g.D.Line.Sink.state line moments run text told,
)
