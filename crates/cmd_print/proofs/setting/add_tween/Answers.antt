use Rattle.std.proofs.Common.{[], ◌∷◌}
use Rattle.play_types.specs.Words.{curve_text}
use Rattle.history_model.specs.text.Commands.{Plain, number_word}
use Rattle.cmd_print.proofs.Spaced.{words-then, words-left}
use Rattle.cmd_print.proofs.setting.add_tween.Goals as goal

pub returns-in_err-add_number : goal.returns-in_err-add_number
returns-in_err-add_number g c =
    words-left (number_word c.args.duration ∷ []) (Plain (curve_text c.args.curve) ∷ []) _ _ _ _ _ _ c.add_number.ensures c.in_err-add_number.ensures c.from_residual.ensures

pub returns : goal.returns
returns g c =
    words-then (number_word c.args.duration ∷ []) (Plain (curve_text c.args.curve) ∷ []) _ _ _ _ _ _ _ (rw c.in_ok-add_number.ensures at c.add_number.ensures)
    (rw c.as_str.ensures.text at c.add_word.ensures)
