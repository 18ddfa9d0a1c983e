use Rattle.std.proofs.Common.{ℕ, ◌∙◌, subst, sym}
use Rattle.conn_worker.specs.Server.{setting_in}
use Rattle.conn_worker.specs.Work.{HasWorkedFrom}
use Rattle.server_run.proofs.connection_workers.ConnectionWorker.work.Goals as goal

pub returns : goal.returns
returns g c =
    let setting = setting_in c.args.server.now c.args.self.now.pass.number g.D.Line.Sink.state in
    record {
      of = c.work_from-end.ensures.of ∙ sym c.requires.may_work.pass.of;
      worked = subst
          (λ (served : ℕ). HasWorkedFrom setting served c.work_from-end.result
          (record { pass = c.args.self.now.pass; door = g.D.Listener.state c.args.self.now.door })
          (record { pass = c.work_from-end.new.pass; door = g.D.Listener.state c.work_from-end.new.door }))
          c.requires.may_work.served c.work_from-end.ensures.worked;
    }
