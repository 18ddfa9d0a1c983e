use Rattle.std.proofs.Common.{◌≢◌, ◌∙◌, get_or, arith}
use Rattle.std.proofs.lemmas.Bool.Decides.{nat_tests}
use Rattle.std.proofs.lemmas.Grind.{common_steps}
use Rattle.run_script.proofs.Seeds.{seed_parsed}
use Rattle.run_script.proofs.command_line.seed_of.Goals.{in_default-via-then-as_bytes-lt1, in_default-via-else-as_bytes-lt1+in_default-1}
use Rattle.run_script.proofs.command_line.seed_of.Goals as goal

pub returns-in_default : goal.returns-in_default
returns-in_default c =
    let other : get_or c.args.word.now 0 0 ≢ 43 =
    elim c.in_default.branch [
      | in_default-via-then-as_bytes-lt1 w ↦ λ plus. grind (arith, nat_tests, common_steps)
      | in_default-via-else-as_bytes-lt1+in_default-1 w ↦ λ plus. grind (arith, nat_tests, common_steps)
    ] in
    c.ok.ensures.value ∙ seed_parsed c.parse.result c.args.word.now other c.parse.ensures.value.0
