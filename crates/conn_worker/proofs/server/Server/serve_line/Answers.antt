use Rattle.std.proofs.Common.{inl, inr, refl, sym, subst}
use Rattle.conn_worker.specs.Work.{StopsAfter, LinkRun}
use Rattle.conn_worker.proofs.Doors.{IsUnstopped, looked_after_link}
use Rattle.conn_worker.proofs.server.Server.serve_line.Goals as goal

pub returns-in-Over-clause-gives_back : goal.returns-in-Over-clause-gives_back
returns-in-Over-clause-gives_back g c =
    let link_run : LinkRun g.row.D-Line.Denot = record { came = g.D.Line.Sink.state c.args.line; line = c.serve-end.new.link; end = c.serve-end.result; pass = c.serve-end.new.pass } in
    let other : IsUnstopped c.serve-end.result = elim c.in-Over.is [
      | inl over ↦ subst IsUnstopped (sym over) tt
      | inr (inl killed) ↦ subst IsUnstopped (sym killed) tt
      | inr (inr fault) ↦ subst IsUnstopped (sym fault) tt
    ] in
    record {
      link_run = link_run;
      came_is = refl;
      explained = c.serve-end.ensures.explained;
      door = c.give_back.ensures;
      pass = looked_after_link c.args.self.now.stage.now.sizes.given c.look.result link_run c.look.new.pass other c.look.ensures.looks;
    }

pub returns-in-Ended-clause-gives_back : goal.returns-in-Ended-clause-gives_back
returns-in-Ended-clause-gives_back g c =
    let after = c.serve-end.new.pass in
    let link_run : LinkRun g.row.D-Line.Denot = record { came = g.D.Line.Sink.state c.args.line; line = c.serve-end.new.link; end = c.serve-end.result; pass = after } in
    record {
      link_run = link_run;
      came_is = refl;
      explained = c.serve-end.ensures.explained;
      door = c.give_back.ensures;
      pass = subst (λ e. StopsAfter c.args.self.now.stage.now.sizes.given c.in-Ended.at e after after) (sym c.in-Ended.is) (refl, refl);
    }
