use Rattle.std.proofs.Common.{rules}
use Rattle.std.proofs.lemmas.List.{drop-replicate}
use Rattle.play_types.proofs.rec_name.padded.Goals as goal

pub returns : goal.returns
returns c = rw drop-replicate (search rules)
