use Rattle.std.proofs.Common.{refl}
use Rattle.std.specs.Prelude.{option_map}
use Rattle.conn_worker.specs.inner.Steps.{service_in}
use Rattle.conn_worker.proofs.Asking.{is_service}
use Rattle.conn_worker.proofs.Following.{kills_stage}
use Rattle.conn_worker.proofs.connection.Connection.kill.Goals as goal

pub returns-in-Ok-clause-kills : goal.returns-in-Ok-clause-kills
returns-in-Ok-clause-kills g c =
    let self = c.args.self.now in
    let worker = c.args.pass.now.number in
    kills_stage (service_in self worker) (option_map (λ t. t.now) c.args.token) self.server.stage.now.sizes worker self.number c.in-Ok.field-0 c.args.pass.now c.stop.new.pass
    (g.L.Sink.state c.args.link.now) (g.L.Sink.state c.send.new.link) c.send.result
    (is_service self worker c.requires.ready) refl c.in-Ok.ensures.call c.send.ensures
