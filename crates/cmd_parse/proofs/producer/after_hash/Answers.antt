use Rattle.cmd_parse.proofs.Prefixes.{hash_prefix}
use Rattle.cmd_parse.proofs.producer.after_hash.Goals as goal

pub returns : goal.returns
returns c = hash_prefix c.args.word.now c.strip_prefix.result c.utf8.word c.strip_prefix.ensures.cases
