use Rattle.std.proofs.Common.{[], ◌∷◌}
use Rattle.history_model.specs.text.Commands.{number_word, Plain}
use Rattle.cmd_print.proofs.Spaced.{words-then, words-left}
use Rattle.cmd_print.proofs.command.add_channel_and_word.Goals as goal

pub returns-in_err-add_number : goal.returns-in_err-add_number
returns-in_err-add_number g c =
    words-left (number_word c.args.channel ∷ []) (Plain c.args.word.now ∷ []) _ _ _ _ _ _ (rw c.from.ensures at c.add_number.ensures) c.in_err-add_number.ensures c.from_residual.ensures

pub returns : goal.returns
returns g c =
    words-then (number_word c.args.channel ∷ []) (Plain c.args.word.now ∷ []) _ _ _ _ _ _ _ (rw (c.from.ensures, c.in_ok-add_number.ensures) at c.add_number.ensures)
    c.add_word.ensures
