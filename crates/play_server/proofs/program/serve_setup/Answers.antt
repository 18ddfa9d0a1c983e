use Rattle.std.proofs.Common.{refl}
use Rattle.play_server.proofs.RunsServer.{ran_on, served_on}
use Rattle.play_server.proofs.program.serve_setup.Goals as goal

pub returns-clause-run : goal.returns-clause-run
returns-clause-run g c =
    ran_on _ _ _ _ _
    (served_on _ _ _ _ _ _ _ _ _ _ _ _ _ c.in_ok-devices.ensures.ready c.serve-served.ensures refl c.in_ok-devices.ensures.told
    c.journal_path.ensures c.finish-step.ensures.told)
    _ c.result_of.ensures
