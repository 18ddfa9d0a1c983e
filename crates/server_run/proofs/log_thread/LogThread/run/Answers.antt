use Rattle.std.proofs.Common.{◌∙◌, sym}
use Rattle.server_run.proofs.log_thread.LogThread.run.Goals as goal

pub returns : goal.returns
returns g c = record { of = c.keep_log.ensures.of ∙ sym c.requires; keeps = c.keep_log.ensures.keeps }
