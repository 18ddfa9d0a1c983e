use Rattle.history_model.proofs.Aiming.{command_is_aimed}
use Rattle.history_model.proofs.laws.scripts.commands_of_words.Goals as goal

pub returns : goal.returns
returns c = command_is_aimed
