use Rattle.std.specs.Prelude.{option_map}
use Rattle.std.proofs.Common.{◌≡◌, false, Ok, Err, inl, inr, refl, sym, subst}
use Rattle.history_model.specs.sessions.Session as model
use Rattle.history_model.specs.text.Replies.{reply_bytes}
use Rattle.play_session.specs.Step.{gives_up, viewed}
use Rattle.conn_worker.specs.inner.Steps.{SendsBytes, service_in}
use Rattle.conn_worker.specs.inner.UnderWay.{FollowsStep}
use Rattle.conn_worker.specs.declared.link_end.LinkEnd.TheVariants.{Over}
use Rattle.conn_worker.proofs.Following.{leaves, sends_answer, sends_local, skips}
use Rattle.conn_worker.proofs.connection.Connection.follow.Goals as goal

pub returns-in-Local-clause-follows : goal.returns-in-Local-clause-follows
returns-in-Local-clause-follows g c = λ told kept.
    let service = service_in c.args.self.now c.args.pass.now.number in
    let old = g.L.Sink.state c.args.link.now in
    let new = g.L.Sink.state c.send.new.link in
    subst (λ s. FollowsStep service told (viewed s c.args.batch.now) c.send.result (record { pass = c.args.pass.now; link = old }) (record { pass = c.args.pass.now; link = new })) (sym c.in-Local.is)
    (sends_local service (option_map (λ t. t.now) c.args.token) told c.in-Local.reply c.args.pass.now old new c.send.result
    (subst (λ s. gives_up s ≡ false → option_map (λ t. t.now) c.args.token ≡ told) c.in-Local.is kept) c.requires.running c.send.ensures)

pub returns-in-Bye-clause-follows : goal.returns-in-Bye-clause-follows
returns-in-Bye-clause-follows g c = λ told kept.
    let service = service_in c.args.self.now c.args.pass.now.number in
    let old = g.L.Sink.state c.args.link.now in
    subst (λ s. FollowsStep service told (viewed s c.args.batch.now) (Err Over) (record { pass = c.args.pass.now; link = old }) (record { pass = c.args.pass.now; link = old })) (sym c.in-Bye.is)
    (leaves service told c.args.pass.now old c.requires.running)

pub returns-in-Skip-clause-follows : goal.returns-in-Skip-clause-follows
returns-in-Skip-clause-follows g c = λ told kept.
    let service = service_in c.args.self.now c.args.pass.now.number in
    let old = g.L.Sink.state c.args.link.now in
    elim c.in-Skip.is [
      | inl skip ↦
          subst (λ s. FollowsStep service told (viewed s c.args.batch.now) (Ok tt) (record { pass = c.args.pass.now; link = old }) (record { pass = c.args.pass.now; link = old })) (sym skip)
          (skips service told c.args.pass.now old c.requires.running)
      | inr none ↦
          subst (λ s. FollowsStep service told (viewed s c.args.batch.now) (Ok tt) (record { pass = c.args.pass.now; link = old }) (record { pass = c.args.pass.now; link = old })) (sym none)
          refl
    ]

pub returns-in_ok-reply-in-Ask-clause-follows : goal.returns-in_ok-reply-in-Ask-clause-follows
returns-in_ok-reply-in-Ask-clause-follows g c = λ told kept.
    let server = c.args.self.now.server in
    let service = service_in c.args.self.now c.args.pass.now.number in
    let old = g.L.Sink.state c.args.link.now in
    let new = g.L.Sink.state c.send-in-Ask.new.link in
    let same : option_map (λ t. t.now) c.args.token ≡ told = subst (λ s. gives_up s ≡ false → option_map (λ t. t.now) c.args.token ≡ told) c.in-Ask.is kept refl in
    let sends = subst (λ t. SendsBytes (reply_bytes server.config.now server.media.now t c.in_ok-reply-in-Ask.reply) c.send-in-Ask.result old new) same c.send-in-Ask.ensures in
    subst (λ s. FollowsStep service told (viewed s c.args.batch.now) c.send-in-Ask.result (record { pass = c.args.pass.now; link = old }) (record { pass = c.ask.new.pass; link = new })) (sym c.in-Ask.is)
    (sends_answer service told (model.Ask c.in-Ask.cmd) c.in_ok-reply-in-Ask.reply c.args.pass.now c.ask.new.pass old new c.send-in-Ask.result refl c.in_ok-reply-in-Ask.ensures.asks sends)

pub returns-in_ok-reply-in-AskBatch-clause-follows : goal.returns-in_ok-reply-in-AskBatch-clause-follows
returns-in_ok-reply-in-AskBatch-clause-follows g c = λ told kept.
    let server = c.args.self.now.server in
    let service = service_in c.args.self.now c.args.pass.now.number in
    let old = g.L.Sink.state c.args.link.now in
    let new = g.L.Sink.state c.send-in-AskBatch.new.link in
    let same : option_map (λ t. t.now) c.args.token ≡ told = subst (λ s. gives_up s ≡ false → option_map (λ t. t.now) c.args.token ≡ told) c.in-AskBatch.is kept refl in
    let sends = subst (λ t. SendsBytes (reply_bytes server.config.now server.media.now t c.in_ok-reply-in-AskBatch.reply) c.send-in-AskBatch.result old new) same c.send-in-AskBatch.ensures in
    subst (λ s. FollowsStep service told (viewed s c.args.batch.now) c.send-in-AskBatch.result (record { pass = c.args.pass.now; link = old }) (record { pass = c.ask_batch.new.pass; link = new })) (sym c.in-AskBatch.is)
    (sends_answer service told (model.AskBatch c.args.batch.now) c.in_ok-reply-in-AskBatch.reply c.args.pass.now c.ask_batch.new.pass old new c.send-in-AskBatch.result refl c.in_ok-reply-in-AskBatch.ensures.asks sends)
