use Rattle.std.proofs.Common.{List, subst}
use Rattle.play_types.specs.declared.event.Event.{Event}
use Rattle.server_run.specs.Run.{Serves}
use Rattle.server_run.specs.Devices.{device_states}
use Rattle.server_run.proofs.serving.serve.Goals as goal

pub serve_from-requires-clause-begins : goal.serve_from-requires-clause-begins
serve_from-requires-clause-begins g c κs within = c.in-Ok.ensures.begins c.args.media.now

pub returns-in-Ok : goal.returns-in-Ok
returns-in-Ok g c =
    subst
    (λ (given : List Event). Serves (device_states g.C.Clock.state g.D.Listener.state g.O.Sink.state) g.D.Line.Sink.state
    (record { config = c.args.config.now; media = c.args.media.now; given = given }) c.serve_from.result.end (c.args.devices, c.serve_from.result.devices))
    c.in-Ok.ensures.none c.serve_from.ensures
