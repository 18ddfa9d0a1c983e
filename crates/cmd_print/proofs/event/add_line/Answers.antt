use Rattle.std.proofs.Common.{[], ◌∷◌, ◌++◌}
use Rattle.play_outside.proofs.Following.{added-then, added-left}
use Rattle.history_model.specs.scripts.Output.{tag_text}
use Rattle.history_model.specs.text.History.{connection_line}
use Rattle.cmd_print.proofs.event.add_line.Goals as goal

pub returns-in_err-add_tag : goal.returns-in_err-add_tag
unfolding connection_line
returns-in_err-add_tag g c =
    added-left _ _ _ (tag_text c.args.tag) (c.args.words.now ++ 10 ∷ []) _ _ _ c.add_tag.ensures c.in_err-add_tag.ensures c.from_residual.ensures

pub returns : goal.returns
unfolding connection_line
returns g c =
    added-then _ _ (tag_text c.args.tag) (c.args.words.now ++ 10 ∷ []) _ _ _ _ _ (rw c.in_ok-add_tag.ensures at c.add_tag.ensures)
    c.add_parts.ensures
