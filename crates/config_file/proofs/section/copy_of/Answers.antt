use Rattle.std.proofs.Common.{◌≡◌, ◌<◌, ℕ, List, length, IsUtf8, Result, Ok, Err, IfOk, arith}
use Rattle.std.specs.Str.{chars}
use Rattle.std.proofs.lemmas.Bool.Decides.{nat_tests}
use Rattle.play_types.proofs.Texts.{no_bytes}
use Rattle.config_file.proofs.section.copy_of.Goals as goal

-- a text that has bytes has characters
some_chars : (text : List ℕ) → IsUtf8 text → 0 < length text → 0 < length (chars text)
some_chars text utf8 some = let same = no_bytes text utf8 in grind (arith, nat_tests)

copied : {E : Type 0} (result : Result (List ℕ) E) (text : List ℕ) → IsUtf8 text → 0 < length text → IfOk result (λ t. t ≡ chars text) → IfOk result (λ t. 0 < length t)
copied (Ok t) text utf8 some same = rw same (some_chars text utf8 some)
copied (Err e) text utf8 some same = same

pub returns-clause-some : goal.returns-clause-some
returns-clause-some c = copied c.copy.result c.args.text.now c.utf8.text c.requires c.copy.ensures
