use Rattle.std.proofs.Common.{refl, arith}
use Rattle.history_model.proofs.places.Limits.{AreBy-more}
use Rattle.history_model.proofs.stage.Histories.{AreBy-all}
use Rattle.history_model.proofs.laws.stage.acts_of_commands.Goals as goal

pub returns-clause-swap : goal.returns-clause-swap
returns-clause-swap c acts t now a b place transforms = refl

pub returns-clause-swap_channels : goal.returns-clause-swap_channels
returns-clause-swap_channels c acts t now a b place transforms = refl

pub returns-clause-by : goal.returns-clause-by
returns-clause-by c acts t cmd by = AreBy-more acts t cmd (omega arith) by

pub returns-clause-by_all : goal.returns-clause-by_all
returns-clause-by_all c = AreBy-all
