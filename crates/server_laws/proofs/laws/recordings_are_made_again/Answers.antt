use Rattle.std.proofs.Common.{List, ap, ◌∙◌}
use Rattle.play_types.specs.declared.event.Event.{Event}
use Rattle.history_model.specs.recordings.Film.{film}
use Rattle.history_replay.specs.Replay.{script_of}
use Rattle.history_replay.proofs.Marked.{replay_events}
use Rattle.play_server.specs.Program.{program_of}
use Rattle.server_run.specs.Run.{playout_of, setup_of}
use Rattle.server_laws.proofs.HasServedClients.{program_replayable, text_taken}
use Rattle.server_laws.proofs.Filmed.{film_on_air, run_taken}
use Rattle.server_laws.proofs.laws.recordings_are_made_again.Goals as goal

pub returns-clause-film : goal.returns-clause-film
returns-clause-film g c = λ line moments digests run named text told played same without name.
    ap (λ (events : List Event). film (setup_of (program_of run.setup)) events name)
    (replay_events (playout_of (program_of run.setup) digests) run.served.serves.history played
    (program_replayable (record { clock = g.C.Clock.state; door = g.D.Listener.state; out = g.O.Sink.state }) g.D.Line.Sink.state line moments run digests named)
    (same ∙ ap script_of (text_taken (record { clock = g.C.Clock.state; door = g.D.Listener.state; out = g.O.Sink.state }) g.D.Line.Sink.state line moments run text told))
    without)

pub returns-clause-taken : goal.returns-clause-taken
returns-clause-taken g c = λ line moments run.
    run_taken (record { clock = g.C.Clock.state; door = g.D.Listener.state; out = g.O.Sink.state }) g.D.Line.Sink.state line moments run

pub returns-clause-on_air : goal.returns-clause-on_air
returns-clause-on_air g c = film_on_air
