use Rattle.std.proofs.Common.{ℕ, ◌%◌, ◌/◌, ◌^◌, ap, arith}
use Rattle.history_model.specs.scripts.Generator.{next_state, number_of}
use Rattle.made_script.proofs.generator.Generator.draw.Goals as goal

pub returns-clause-state : goal.returns-clause-state
unfolding next_state
returns-clause-state c = omega arith

pub returns-clause-number : goal.returns-clause-number
unfolding number_of
returns-clause-number c = ap (λ (state : ℕ). state / 2 ^ 33 % c.args.limit) (returns-clause-state c)
