use Rattle.cmd_print.proofs.Spaced.{nothing_added}
use Rattle.cmd_print.proofs.command.add_arguments.Goals as goal

pub returns-in-Info : goal.returns-in-Info
returns-in-Info g c = rw c.in-Info.is (nothing_added c.args.text.now (g.K.Sink.state c.args.to.now))
