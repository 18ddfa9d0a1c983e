use Rattle.std.proofs.Common.{◌≡◌, ◌+◌, ◌<◌, ◌≤◌, List, None}
use Rattle.play_types.specs.History.{stop_at}
use Rattle.play_outside.specs.declared.listener.TheConstants.{MOST_AWAY}
use Rattle.conn_worker.specs.declared.work_end.TheConstants.{MAX_SESSIONS}
use Rattle.conn_worker.specs.Server.{setting_in}
use Rattle.conn_worker.specs.Work.{TakesAll, Turn, number_came}
use Rattle.conn_worker.proofs.server.Server.work_from.Given as goal

-- links were served up to the session `last`, and the work goes on
abbrev pub invariant-loop : goal.invariant-loop
invariant-loop g l = record {
  of : l.pass.stage ≡ l.self.stage.now;
  number : l.pass.number ≡ l.fn.pass.number;
  few : l.last ≤ MAX_SESSIONS;
  running : stop_at l.pass.seen ≡ None;
  away : (g.D.Listener.state l.door).away < MOST_AWAY;
  turned : (turns : List (Turn _)) × (TakesAll
      (setting_in l.self l.fn.pass.number g.D.Line.Sink.state) (l.fn.served + 1) turns (record { pass = l.fn.pass; door = g.D.Listener.state l.fn.door }) (record { pass = l.pass; door = g.D.Listener.state l.door })
      × (l.last ≡ l.fn.served + number_came turns));
}
