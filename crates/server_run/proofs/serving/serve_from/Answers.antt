use Rattle.std.proofs.Common.{List, ap, subst, sym}
use Rattle.play_types.specs.declared.event.Event.{Event}
use Rattle.stage_lock.specs.Views.{Sizes}
use Rattle.server_run.specs.Run.{Serves}
use Rattle.server_run.specs.Devices.{device_states}
use Rattle.server_run.specs.inner.Threads.{IsRunMemory}
use Rattle.server_run.proofs.serving.serve_from.Goals as goal

pub run-requires-clause-memory : goal.run-requires-clause-memory
run-requires-clause-memory g c κs within =
    subst (λ (given : List Event). IsRunMemory (record { config = c.args.config.now; media = c.args.media.now; given = given }) c.in-Ok.memory)
    (sym (ap (λ (s : Sizes). s.given) c.in-Ok.ensures.sizes_are)) c.in-Ok.ensures

pub returns-in-Ok : goal.returns-in-Ok
returns-in-Ok g c =
    subst
    (λ (given : List Event). Serves (device_states g.C.Clock.state g.D.Listener.state g.O.Sink.state) g.D.Line.Sink.state
    (record { config = c.args.config.now; media = c.args.media.now; given = given }) c.run.result.end (c.args.devices, c.run.result.devices))
    (ap (λ (s : Sizes). s.given) c.in-Ok.ensures.sizes_are) c.run.ensures
