use Rattle.fixed_params.proofs.ReadsBack.{reads_back}
use Rattle.fixed_params.proofs.print.print_micro.Goals as goal

pub returns-clause-reads_back : goal.returns-clause-reads_back
returns-clause-reads_back g c = reads_back c.args.value c.requires.low c.requires.high
