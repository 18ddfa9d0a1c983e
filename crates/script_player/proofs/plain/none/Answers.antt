use Rattle.std.proofs.Common.{◌≡◌, ◌∙◌, List, ℕ, rules}
use Rattle.std.specs.Prelude.{Result, Ok, Err, IfOk, codes}
use Rattle.std.specs.Str.{chars}
use Rattle.std.proofs.lemmas.Str.{chars-IsAscii}
use Rattle.script_player.proofs.plain.none.Goals as goal

copied : {E : Type 0} (result : Result (List ℕ) E) → IfOk result (λ text. text ≡ chars (codes "none")) → IfOk result (λ text. text ≡ codes "none")
copied (Ok text) is = is ∙ chars-IsAscii (codes "none") (search rules)
copied (Err e) is = tt

pub returns : goal.returns
returns c = copied c.copy.result c.copy.ensures
