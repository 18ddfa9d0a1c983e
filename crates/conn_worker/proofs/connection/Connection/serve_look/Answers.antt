use Rattle.std.proofs.Common.{◌≡◌, ◌++◌, List, ap, subst, sym, take}
use Rattle.std.specs.Prelude.{Some}
use Rattle.play_types.specs.History.{stop_at}
use Rattle.play_types.specs.declared.event.Event.{Event}
use Rattle.stage_lock.specs.Calls.{Looks}
use Rattle.conn_worker.specs.Followed.{Service}
use Rattle.conn_worker.specs.Rounds.{idle_round}
use Rattle.conn_worker.specs.inner.UnderWay.{Now}
use Rattle.conn_worker.proofs.Ending.{ends_over, ends_stopped, ends_unread}
use Rattle.conn_worker.proofs.Going.{looks_on, reads_piece, waits}
use Rattle.conn_worker.proofs.Pieces.{piece_round}
use Rattle.conn_worker.proofs.connection.Connection.serve_look.Goals as goal

pub returns-in-Got-clause-takes : goal.returns-in-Got-clause-takes
returns-in-Got-clause-takes g c = λ past same between.
    let piece = take c.in-Got.count c.read.new.buf in
    let now : Now = record { standing = record { pass = c.args.pass.now; link = g.L.Sink.state c.args.link.now }; session = c.args.session.now } in
    piece_round past piece c.take_piece.result _
    (c.take_piece.ensures.takes past same (reads_piece past now piece (g.L.Sink.state c.read.new.self) between (c.in-Got.ensures.2)))

pub returns-in-End-clause-takes : goal.returns-in-End-clause-takes
returns-in-End-clause-takes g c = λ past same between.
    let now : Now = record { standing = record { pass = c.args.pass.now; link = g.L.Sink.state c.args.link.now }; session = c.args.session.now } in
    ends_over past now (g.L.Sink.state c.read.new.self) between c.in-End.ensures

pub returns-in-None-clause-takes : goal.returns-in-None-clause-takes
returns-in-None-clause-takes g c = λ past same between.
    let now : Now = record { standing = record { pass = c.args.pass.now; link = g.L.Sink.state c.args.link.now }; session = c.args.session.now } in
    let looks = looks_on c.args.self.now.server.stage.now.sizes.given c.args.pass.now c.ended.new.pass c.in-None.ensures.look in
    (idle_round looks.history, waits past now (g.L.Sink.state c.read.new.self) c.ended.new.pass between c.in-Again.ensures looks)

pub returns-in-Some-clause-takes : goal.returns-in-Some-clause-takes
returns-in-Some-clause-takes g c = λ past same between.
    let now : Now = record { standing = record { pass = c.args.pass.now; link = g.L.Sink.state c.args.link.now }; session = c.args.session.now } in
    let look = subst (λ (given : List Event). Looks c.args.pass.now (λ history. Some c.in-Some.at ≡ stop_at (given ++ history)) c.ended.new.pass) (sym (ap (λ (s : Service). s.given) same)) c.in-Some.ensures.look in
    ends_stopped past now (g.L.Sink.state c.read.new.self) c.ended.new.pass c.in-Some.at between c.in-Again.ensures look

pub returns-in-Failed-clause-takes : goal.returns-in-Failed-clause-takes
returns-in-Failed-clause-takes g c = λ past same between.
    let now : Now = record { standing = record { pass = c.args.pass.now; link = g.L.Sink.state c.args.link.now }; session = c.args.session.now } in
    ends_unread past now (g.L.Sink.state c.read.new.self) between c.in-Failed.ensures
