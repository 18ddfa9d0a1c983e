use Rattle.conn_worker.proofs.Going.{looks_on}
use Rattle.conn_worker.proofs.server.Server.look.Goals as goal

pub returns-in-None-clause-looks : goal.returns-in-None-clause-looks
returns-in-None-clause-looks g c = looks_on c.args.self.now.stage.now.sizes.given c.args.pass.now c.ended.new.pass c.in-None.ensures.look
