use Rattle.std.proofs.Common.{arith}
use Rattle.std.proofs.lemmas.Bool.Decides.{nat_tests}
use Rattle.amcp_text.proofs.req_token.is_token.Goals as goal

pub returns-then-word-le-MAX_TOKEN_BYTES : goal.returns-then-word-le-MAX_TOKEN_BYTES
returns-then-word-le-MAX_TOKEN_BYTES c = grind (arith, nat_tests)
