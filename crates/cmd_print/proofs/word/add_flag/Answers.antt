use Rattle.cmd_print.proofs.Spaced.{nothing_added}
use Rattle.cmd_print.proofs.word.add_flag.Goals as goal

pub returns-else-is_set : goal.returns-else-is_set
returns-else-is_set g c = rw c.if-is_set.false (nothing_added c.args.text.now (g.K.Sink.state c.args.to.now))
