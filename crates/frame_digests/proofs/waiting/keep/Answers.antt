use Rattle.std.proofs.Common.{[]}
use Rattle.std.proofs.lemmas.List.{get_or-set_other}
use Rattle.frame_digests.proofs.waiting.keep.Goals as goal

pub returns-clause-others : goal.returns-clause-others
returns-clause-others c = λ i other. get_or-set_other c.args.frames.now.items c.args.at i c.keep.new.self [] other
