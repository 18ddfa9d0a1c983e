use Rattle.std.proofs.Common.{arith}
use Rattle.std.proofs.lemmas.Bool.Decides.{nat_tests}
use Rattle.play_types.proofs.rec_name.is_rec_word.Goals as goal

pub returns-then-word-le-MAX_REC_NAME_BYTES : goal.returns-then-word-le-MAX_REC_NAME_BYTES
returns-then-word-le-MAX_REC_NAME_BYTES c = grind (arith, nat_tests)
