use Rattle.std.proofs.Common.{refl}
use Rattle.std.specs.Fmt.{digits}
use Rattle.hex.specs.Hex.{encode_with}
use Rattle.history_model.specs.scripts.Generator.{generated_lines, generated_script, made_in, next_state, number_of, step_lines}
use Rattle.history_model.proofs.examples.generator.scripts_of_seeds.Goals as goal

pub returns-clause-seed_0 : goal.returns-clause-seed_0
unfolding generated_script generated_lines step_lines made_in next_state number_of digits encode_with
returns-clause-seed_0 c = refl

pub returns-clause-commit : goal.returns-clause-commit
unfolding generated_script generated_lines step_lines made_in next_state number_of digits encode_with
returns-clause-commit c = refl

pub returns-clause-opacity : goal.returns-clause-opacity
unfolding generated_script generated_lines step_lines made_in next_state number_of digits encode_with
returns-clause-opacity c = refl
