use Rattle.std.proofs.Common.{◌≡◌, List}
use Rattle.conn_worker.specs.Rounds.{Round}
use Rattle.conn_worker.specs.inner.Steps.{service_in}
use Rattle.conn_worker.specs.inner.UnderWay.{IsBetweenLooks}
use Rattle.conn_worker.proofs.connection.Connection.serve.Given as goal

-- rounds led to this turn of the loop, after each of which all steps were executed
abbrev pub invariant-loop : goal.invariant-loop
invariant-loop g l = record {
  of : l.pass.stage ≡ l.self.server.stage.now;
  number : l.pass.number ≡ l.fn.pass.number;
  between : (rounds : List Round) × IsBetweenLooks
      (record {
        service = service_in l.self l.fn.pass.number;
        before = record { pass = l.fn.pass; link = g.L.Sink.state l.fn.link };
        rounds = rounds;
      })
      (record { standing = record { pass = l.pass; link = g.L.Sink.state l.link }; session = l.session });
}
