use Rattle.std.proofs.Common.{[], ◌∷◌, ◌++◌}
use Rattle.std.specs.Prelude.{codes}
use Rattle.history_model.specs.text.Commands.{number_word, flag_words}
use Rattle.cmd_print.proofs.Spaced.{words-then, words-left}
use Rattle.cmd_print.proofs.command.add_channels.Goals as goal

pub returns-in_err-add_number : goal.returns-in_err-add_number
returns-in_err-add_number g c =
    words-left (number_word c.args.one ∷ []) (number_word c.args.other ∷ [] ++ flag_words c.args.transforms (codes "TRANSFORMS")) _ _ _ _ _ _ (rw c.from.ensures at c.add_number.ensures) c.in_err-add_number.ensures c.from_residual.ensures

pub returns-in_err-add_number-2 : goal.returns-in_err-add_number-2
returns-in_err-add_number-2 g c =
    words-then (number_word c.args.one ∷ []) (number_word c.args.other ∷ [] ++ flag_words c.args.transforms (codes "TRANSFORMS")) _ _ _ _ _ _ _ (rw (c.from.ensures, c.in_ok-add_number.ensures) at c.add_number.ensures)
    (words-left (number_word c.args.other ∷ []) (flag_words c.args.transforms (codes "TRANSFORMS")) _ _ _ _ _ _ (rw c.from-2.ensures at c.add_number-2.ensures) c.in_err-add_number-2.ensures c.from_residual-in_err-add_number-2.ensures)

pub returns : goal.returns
returns g c =
    words-then (number_word c.args.one ∷ []) (number_word c.args.other ∷ [] ++ flag_words c.args.transforms (codes "TRANSFORMS")) _ _ _ _ _ _ _ (rw (c.from.ensures, c.in_ok-add_number.ensures) at c.add_number.ensures)
    (words-then (number_word c.args.other ∷ []) (flag_words c.args.transforms (codes "TRANSFORMS")) _ _ _ _ _ _ _ (rw (c.from-2.ensures, c.in_ok-add_number-2.ensures) at c.add_number-2.ensures)
    c.add_flag.ensures)
