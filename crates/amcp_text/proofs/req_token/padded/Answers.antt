use Rattle.std.proofs.Common.{rules}
use Rattle.std.proofs.lemmas.List.{drop-replicate}
use Rattle.amcp_text.proofs.req_token.padded.Goals as goal

pub returns : goal.returns
returns c = rw drop-replicate (search rules)
