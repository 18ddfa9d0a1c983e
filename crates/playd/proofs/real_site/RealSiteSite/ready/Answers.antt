use Rattle.playd.proofs.Ready.{ready_devices}
use Rattle.playd.proofs.real_site.RealSiteSite.ready.Goals as goal

pub returns-in-Ok-clause-ready : goal.returns-in-Ok-clause-ready
returns-in-Ok-clause-ready g c =
    let made = c.in-Ok.ensures in
    ready_devices _ c.args.config.now c.in-Ok.devices made.clock made.doors made.outs made.history made.log
