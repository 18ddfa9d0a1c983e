use Rattle.std.proofs.Common.{[], ◌∷◌}
use Rattle.history_model.specs.text.Commands.{place_word, setting_words}
use Rattle.cmd_print.proofs.Spaced.{words-then, words-left}
use Rattle.cmd_print.proofs.command.add_place_and_setting.Goals as goal

pub returns-in_err-add_place : goal.returns-in_err-add_place
returns-in_err-add_place g c =
    words-left (place_word c.args.setting.place ∷ []) (setting_words c.args.setting) _ _ _ _ _ _ (rw c.place.ensures at c.add_place.ensures) c.in_err-add_place.ensures c.from_residual.ensures

pub returns : goal.returns
returns g c =
    words-then (place_word c.args.setting.place ∷ []) (setting_words c.args.setting) _ _ _ _ _ _ _ (rw (c.place.ensures, c.in_ok-add_place.ensures) at c.add_place.ensures)
    c.add_setting.ensures
