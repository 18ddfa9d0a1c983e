use Rattle.std.proofs.Common.{[], ◌∷◌, ◌++◌}
use Rattle.std.specs.Prelude.{codes}
use Rattle.history_model.specs.text.Commands.{place_word, flag_words}
use Rattle.cmd_print.proofs.Spaced.{words-then, words-left}
use Rattle.cmd_print.proofs.command.add_layers.Goals as goal

pub returns-in_err-add_place : goal.returns-in_err-add_place
returns-in_err-add_place g c =
    words-left (place_word c.args.one ∷ []) (place_word c.args.other ∷ [] ++ flag_words c.args.transforms (codes "TRANSFORMS")) _ _ _ _ _ _ c.add_place.ensures c.in_err-add_place.ensures c.from_residual.ensures

pub returns-in_err-add_place-2 : goal.returns-in_err-add_place-2
returns-in_err-add_place-2 g c =
    words-then (place_word c.args.one ∷ []) (place_word c.args.other ∷ [] ++ flag_words c.args.transforms (codes "TRANSFORMS")) _ _ _ _ _ _ _ (rw c.in_ok-add_place.ensures at c.add_place.ensures)
    (words-left (place_word c.args.other ∷ []) (flag_words c.args.transforms (codes "TRANSFORMS")) _ _ _ _ _ _ c.add_place-2.ensures c.in_err-add_place-2.ensures c.from_residual-in_err-add_place-2.ensures)

pub returns : goal.returns
returns g c =
    words-then (place_word c.args.one ∷ []) (place_word c.args.other ∷ [] ++ flag_words c.args.transforms (codes "TRANSFORMS")) _ _ _ _ _ _ _ (rw c.in_ok-add_place.ensures at c.add_place.ensures)
    (words-then (place_word c.args.other ∷ []) (flag_words c.args.transforms (codes "TRANSFORMS")) _ _ _ _ _ _ _ (rw c.in_ok-add_place-2.ensures at c.add_place-2.ensures)
    c.add_flag.ensures)
