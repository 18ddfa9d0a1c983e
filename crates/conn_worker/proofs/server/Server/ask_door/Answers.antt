use Rattle.std.proofs.Common.{Err, refl, sym, ap, subst, ◌∙◌}
use Rattle.std.proofs.lemmas.Result.{err_from_is_err_and}
use Rattle.conn_worker.specs.Server.{setting_in}
use Rattle.conn_worker.specs.Work.{AtDoor}
use Rattle.conn_worker.specs.inner.Door.{TakesTurn}
use Rattle.conn_worker.proofs.Doors.{turn_failed, turn_served, turn_stopped}
use Rattle.conn_worker.proofs.server.Server.ask_door.Goals as goal

pub returns-in_ok-serve_line-in-Came-clause-takes : goal.returns-in_ok-serve_line-in-Came-clause-takes
returns-in_ok-serve_line-in-Came-clause-takes g c =
    let before : AtDoor g.row.D-Line.Denot = record { pass = c.args.pass.now; door = g.D.Listener.state c.args.door.now } in
    let middle : AtDoor g.row.D-Line.Denot = record { pass = c.args.pass.now; door = g.D.Listener.state c.next.new.self } in
    let after : AtDoor g.row.D-Line.Denot = record { pass = c.serve_line.new.pass; door = g.D.Listener.state c.serve_line.new.door } in
    turn_served (setting_in c.args.self.now c.args.pass.now.number g.D.Line.Sink.state) c.args.served (g.D.Line.Sink.state c.in-Came.line) c.in_ok-serve_line-in-Came.field-0
    before middle after c.requires.running c.in-Came.ensures.fresh refl c.in-Came.ensures.arrives c.in_ok-serve_line-in-Came.ensures.gives_back

pub returns-in_err-serve_line-in-Came-clause-takes : goal.returns-in_err-serve_line-in-Came-clause-takes
returns-in_err-serve_line-in-Came-clause-takes g c =
    let setting = setting_in c.args.self.now c.args.pass.now.number g.D.Line.Sink.state in
    let before : AtDoor g.row.D-Line.Denot = record { pass = c.args.pass.now; door = g.D.Listener.state c.args.door.now } in
    let middle : AtDoor g.row.D-Line.Denot = record { pass = c.args.pass.now; door = g.D.Listener.state c.next.new.self } in
    let after : AtDoor g.row.D-Line.Denot = record { pass = c.serve_line.new.pass; door = g.D.Listener.state c.serve_line.new.door } in
    let p = err_from_is_err_and c.from_residual.result c.from_residual.ensures.1 in
    subst (λ r. TakesTurn setting c.args.served r before after) (sym (p.1 ∙ ap Err p.2))
    (turn_stopped setting c.args.served (g.D.Line.Sink.state c.in-Came.line) c.in_err-serve_line-in-Came.field-0.0
    before middle after c.requires.running c.in-Came.ensures.fresh refl c.in-Came.ensures.arrives c.in_err-serve_line-in-Came.ensures.gives_back c.requires.served)

pub returns-in-Failed-clause-takes : goal.returns-in-Failed-clause-takes
returns-in-Failed-clause-takes g c =
    let before : AtDoor g.row.D-Line.Denot = record { pass = c.args.pass.now; door = g.D.Listener.state c.args.door.now } in
    let after : AtDoor g.row.D-Line.Denot = record { pass = c.stop.new.pass; door = g.D.Listener.state c.next.new.self } in
    turn_failed (setting_in c.args.self.now c.args.pass.now.number g.D.Line.Sink.state) c.args.served before after c.stop.result c.requires.running
    c.stop.ensures.call c.in-Failed.ensures.arrives
