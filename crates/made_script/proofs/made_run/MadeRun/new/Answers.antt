use Rattle.std.proofs.Common.{[], refl, subst}
use Rattle.script_player.specs.Shown.{Frames}
use Rattle.script_player.specs.Player.{Represents}
use Rattle.made_script.proofs.Making.{none_made}
use Rattle.made_script.proofs.made_run.MadeRun.new.Goals as goal

pub returns-clause-made : goal.returns-clause-made
returns-clause-made c =
    none_made _ (subst (λ playout. Represents Frames playout c.in_ok-new.field-0 []) c.requires (c.in_ok-new.ensures.represents Frames refl)) c.new-2.ensures refl
