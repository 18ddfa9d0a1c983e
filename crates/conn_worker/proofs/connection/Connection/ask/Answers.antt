use Rattle.std.proofs.Common.{◌≡◌, ap, refl, sym, subst, ◌∙◌, IfOk}
use Rattle.play_types.specs.Commands.{command_name}
use Rattle.history_model.specs.sessions.Session as model
use Rattle.history_model.specs.text.Replies.{IsReplyTo}
use Rattle.conn_worker.specs.inner.Steps.{AsksFor, replied, service_in}
use Rattle.conn_worker.proofs.Asking.{asks_command, fits_asked_command, is_service}
use Rattle.conn_worker.proofs.connection.Connection.ask.Goals as goal

pub returns-clause-fits : goal.returns-clause-fits
returns-clause-fits g c =
    let self = c.args.self.now in
    let worker = c.args.pass.now.number in
    let same : c.reply_to.result ≡ replied (command_name c.args.cmd) c.ask-answered.result = c.reply_to.ensures ∙ ap (λ n. replied n c.ask-answered.result) c.name.ensures in
    subst (λ r. IfOk r (IsReplyTo self.server.config.now)) (sym same)
    (fits_asked_command (service_in self worker) self.server.stage.now.sizes worker self.number (is_service self worker c.requires.ready) c.args.cmd c.ask-answered.result
    c.args.pass.now c.ask-answered.new.pass c.ask-answered.ensures.call)

pub returns-clause-asks : goal.returns-clause-asks
returns-clause-asks g c =
    let self = c.args.self.now in
    let worker = c.args.pass.now.number in
    let same : c.reply_to.result ≡ replied (command_name c.args.cmd) c.ask-answered.result = c.reply_to.ensures ∙ ap (λ n. replied n c.ask-answered.result) c.name.ensures in
    subst (λ r. AsksFor (service_in self worker) (model.Ask c.args.cmd) r c.args.pass.now c.ask-answered.new.pass) (sym same)
    (asks_command (service_in self worker) self.server.stage.now.sizes worker self.number (is_service self worker c.requires.ready) c.args.cmd c.ask-answered.result
    c.args.pass.now c.ask-answered.new.pass refl c.ask-answered.ensures.call)
