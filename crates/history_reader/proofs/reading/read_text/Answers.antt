use Rattle.std.proofs.Common.{false, refl, ap, ◌∙◌, take}
use Rattle.std.specs.Prelude.{Ok}
use Rattle.script_player.specs.Playouts.{playout_of}
use Rattle.history_reader.proofs.ReadTexts.{ends_as, plays_on, read_before_kill, read_whole}
use Rattle.history_reader.proofs.reading.read_text.Goals as goal

pub returns-in-Whole : goal.returns-in-Whole
returns-in-Whole g c =
    read_whole c.args.setup _ refl c.args.text.now _ _ _ _ (ends_as _ _ _ _ c.in-Whole.is _ c.in_ok-end.ensures.0) c.history_of.ensures c.in_ok-end.ensures.1

pub returns-in_ok-again-in-Killed : goal.returns-in_ok-again-in-Killed
returns-in_ok-again-in-Killed g c =
    let back = c.setup_of-setup.ensures ∙ c.in_ok-end.ensures.1 in
    read_before_kill c.args.setup _ refl c.args.text.now _ _ _ (ends_as _ _ _ _ c.in-Killed.is _ c.in_ok-end.ensures.0) _ _ c.in_ok-again-in-Killed.field-0-0
    (plays_on _ _ (ap (λ setup. playout_of setup false) back) (take c.in-Killed.front c.args.text.now) (Ok c.in_ok-again-in-Killed.field-0-0) _ c.in_ok-again-in-Killed.ensures.0)
    c.history_of-in-Killed.ensures (c.in_ok-again-in-Killed.ensures.1 ∙ back)
