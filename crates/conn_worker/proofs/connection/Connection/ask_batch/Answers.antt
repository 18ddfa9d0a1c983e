use Rattle.std.proofs.Common.{refl, sym, subst, IfOk}
use Rattle.history_model.specs.sessions.Session as model
use Rattle.history_model.specs.text.Replies.{IsReplyTo}
use Rattle.conn_worker.specs.inner.Steps.{AsksFor, service_in}
use Rattle.conn_worker.proofs.Asking.{asks_batch, fits_asked_batch, is_service}
use Rattle.conn_worker.proofs.connection.Connection.ask_batch.Goals as goal

pub returns-clause-fits : goal.returns-clause-fits
returns-clause-fits g c =
    let self = c.args.self.now in
    let worker = c.args.pass.now.number in
    subst (λ r. IfOk r (IsReplyTo self.server.config.now)) (sym c.reply_to.ensures)
    (fits_asked_batch (service_in self worker) self.server.stage.now.sizes worker self.number (is_service self worker c.requires.ready) c.args.cmds.now c.ask_batch-answered.result
    c.args.pass.now c.ask_batch-answered.new.pass c.ask_batch-answered.ensures.call)

pub returns-clause-asks : goal.returns-clause-asks
returns-clause-asks g c =
    let self = c.args.self.now in
    let worker = c.args.pass.now.number in
    subst (λ r. AsksFor (service_in self worker) (model.AskBatch c.args.cmds.now) r c.args.pass.now c.ask_batch-answered.new.pass) (sym c.reply_to.ensures)
    (asks_batch (service_in self worker) self.server.stage.now.sizes worker self.number (is_service self worker c.requires.ready) c.args.cmds.now c.ask_batch-answered.result
    c.args.pass.now c.ask_batch-answered.new.pass refl c.ask_batch-answered.ensures.call)
