use Rattle.std.proofs.Common.{inr, refl}
use Rattle.play_server.proofs.GoesOn.{serves_from}
use Rattle.play_server.proofs.RunsServer.{not_ready, ran_on, served_on}
use Rattle.play_server.proofs.resuming.serve_history.Goals as goal

pub returns-in_err-devices-clause-run : goal.returns-in_err-devices-clause-run
returns-in_err-devices-clause-run g c =
    inr (not_ready _ _ _ c.in_err-devices.field-0.0 _ _ _ c.from_residual-in_err-devices.ensures.1 c.in_err-devices.ensures.told c.journal_path.ensures)

pub returns-clause-run : goal.returns-clause-run
returns-clause-run g c =
    inr
    (ran_on _ _ _ _ _
    (served_on _ _ _ _ _ _ _ _ _ _ _ _ _ c.in_ok-devices.ensures.ready
    (serves_from _ _ c.args.history.setup.config c.args.history.setup.media c.in_ok-beginning.beginning.stage c.args.history.stage _ _ c.in_ok-beginning.ensures.stage c.serve_from-served.ensures)
    refl c.in_ok-devices.ensures.told c.journal_path.ensures c.finish-step.ensures.told)
    _ c.result_of.ensures)
