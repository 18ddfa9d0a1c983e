use Rattle.std.proofs.Common.{All, sym, subst, ◌∙◌}
use Rattle.std.specs.List.{AllZip}
use Rattle.server_run.specs.inner.Workers.{HasWorkedAt, MayWork, door_states}
use Rattle.server_run.proofs.Reverse.{all_zip_many}
use Rattle.server_run.proofs.WorkerPasses.{written_whole}
use Rattle.server_run.proofs.run_threads.OtherThreads.run.Goals as goal

pub work_and_log-requires-clause-connection_workers : goal.work_and_log-requires-clause-connection_workers
work_and_log-requires-clause-connection_workers g c κs within =
    let states = door_states g.D.Listener.state g.D.Line.Sink.state in
    subst (All (MayWork states c.args.server.now.stage.now)) (sym c.as_mut_slice.ensures.value) c.requires.connection_workers

pub returns-clause-worked : goal.returns-clause-worked
returns-clause-worked g c =
    let states = door_states g.D.Listener.state g.D.Line.Sink.state in
    let olds = c.args.self.now.connection_workers in
    let news = c.work_and_log.new.connection_workers in
    let worked = subst (λ workers. AllZip (HasWorkedAt states c.args.server.now) workers news) c.as_mut_slice.ensures.value c.work_and_log.ensures.worked in
    let many = all_zip_many (HasWorkedAt states c.args.server.now) olds.items news worked ∙ sym olds.ok.0 in
    subst (AllZip (HasWorkedAt states c.args.server.now) olds.items) (sym (written_whole olds.len news olds.items many (sym olds.ok.0))) worked
