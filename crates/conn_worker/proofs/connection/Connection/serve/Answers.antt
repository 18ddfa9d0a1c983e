use Rattle.std.proofs.Common.{[], ◌∷◌, ◌++◌, ap, refl, sym, subst}
use Rattle.std.proofs.lemmas.List.Elements.{All-nil}
use Rattle.history_model.specs.commands.Channels.{AreAimed, IsAimed}
use Rattle.conn_worker.specs.Explained.{Standing}
use Rattle.conn_worker.specs.inner.Steps.{service_in}
use Rattle.conn_worker.specs.inner.UnderWay.{Past}
use Rattle.conn_worker.proofs.Going.{begins}
use Rattle.conn_worker.proofs.connection.Connection.serve.Goals as goal

pub loop-init : goal.loop-init
loop-init g c =
    let server = c.args.self.now.server in
    let service = service_in c.args.self.now c.args.pass.now.number in
    let before : Standing = record { pass = c.args.pass.now; link = g.L.Sink.state c.args.link.now } in
    let aimed : AreAimed server.config.now c.restart.new.self.batch = subst (AreAimed server.config.now) (sym c.restart.ensures.batch) (All-nil (IsAimed server.config.now)) in
    record {
      of = c.requires.of;
      number = refl;
      between = ([], begins service before c.restart.new.self (c.restart.ensures.represents server.config.now server.media.now) c.restart.ensures.batch c.restart.ensures.ended c.requires.running aimed);
    }

pub loop-preserved : goal.loop-preserved
loop-preserved g c =
    let rounds = c.loop.invariant.between.0 in
    let before : Standing = record { pass = c.args.pass.now; link = g.L.Sink.state c.args.link.now } in
    let past : Past = record { service = service_in c.args.self.now c.args.pass.now.number; before = before; rounds = rounds } in
    let same = ap (service_in c.args.self.now) (sym c.loop.invariant.number) in
    let more = c.in-Ok.ensures.takes past same c.loop.invariant.between.1 in
    record {
      of = c.in-Ok.ensures.of;
      number = more.1.way.made.number;
      between = (rounds ++ more.0 ∷ [], more.1);
    }

pub returns-in-Err-clause-explained : goal.returns-in-Err-clause-explained
returns-in-Err-clause-explained g c =
    let rounds = c.loop.invariant.between.0 in
    let before : Standing = record { pass = c.args.pass.now; link = g.L.Sink.state c.args.link.now } in
    let past : Past = record { service = service_in c.args.self.now c.args.pass.now.number; before = before; rounds = rounds } in
    let same = ap (service_in c.args.self.now) (sym c.loop.invariant.number) in
    c.in-Err.ensures.takes past same c.loop.invariant.between.1
