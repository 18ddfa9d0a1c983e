use Rattle.std.proofs.Common.{[], ◌∷◌, ◌++◌}
use Rattle.std.specs.Prelude.{codes}
use Rattle.history_model.specs.text.Commands.{producer_word, part_words, transition_words, flag_words}
use Rattle.cmd_print.proofs.Spaced.{words-then, words-left}
use Rattle.cmd_print.proofs.take.add_take.Goals as goal

pub returns-in_err-add_producer : goal.returns-in_err-add_producer
returns-in_err-add_producer g c =
    words-left (producer_word c.args.media.now c.args.take.spec ∷ []) (part_words c.args.take.spec c.args.take ++ (transition_words c.args.take.trans.kind c.args.take.trans ++ flag_words c.args.take.auto (codes "AUTO"))) _ _ _ _ _ _ (rw c.spec.ensures at c.add_producer.ensures) c.in_err-add_producer.ensures c.from_residual.ensures

pub returns-in_err-add_part : goal.returns-in_err-add_part
returns-in_err-add_part g c =
    words-then (producer_word c.args.media.now c.args.take.spec ∷ []) (part_words c.args.take.spec c.args.take ++ (transition_words c.args.take.trans.kind c.args.take.trans ++ flag_words c.args.take.auto (codes "AUTO"))) _ _ _ _ _ _ _ (rw (c.spec.ensures, c.in_ok-add_producer.ensures) at c.add_producer.ensures)
    (words-left (part_words c.args.take.spec c.args.take) (transition_words c.args.take.trans.kind c.args.take.trans ++ flag_words c.args.take.auto (codes "AUTO")) _ _ _ _ _ _ c.add_part.ensures c.in_err-add_part.ensures c.from_residual-in_err-add_part.ensures)

pub returns-in_err-add_transition : goal.returns-in_err-add_transition
returns-in_err-add_transition g c =
    words-then (producer_word c.args.media.now c.args.take.spec ∷ []) (part_words c.args.take.spec c.args.take ++ (transition_words c.args.take.trans.kind c.args.take.trans ++ flag_words c.args.take.auto (codes "AUTO"))) _ _ _ _ _ _ _ (rw (c.spec.ensures, c.in_ok-add_producer.ensures) at c.add_producer.ensures)
    (words-then (part_words c.args.take.spec c.args.take) (transition_words c.args.take.trans.kind c.args.take.trans ++ flag_words c.args.take.auto (codes "AUTO")) _ _ _ _ _ _ _ (rw c.in_ok-add_part.ensures at c.add_part.ensures)
    (words-left (transition_words c.args.take.trans.kind c.args.take.trans) (flag_words c.args.take.auto (codes "AUTO")) _ _ _ _ _ _ (rw c.trans.ensures at c.add_transition.ensures) c.in_err-add_transition.ensures c.from_residual-in_err-add_transition.ensures))

pub returns : goal.returns
returns g c =
    words-then (producer_word c.args.media.now c.args.take.spec ∷ []) (part_words c.args.take.spec c.args.take ++ (transition_words c.args.take.trans.kind c.args.take.trans ++ flag_words c.args.take.auto (codes "AUTO"))) _ _ _ _ _ _ _ (rw (c.spec.ensures, c.in_ok-add_producer.ensures) at c.add_producer.ensures)
    (words-then (part_words c.args.take.spec c.args.take) (transition_words c.args.take.trans.kind c.args.take.trans ++ flag_words c.args.take.auto (codes "AUTO")) _ _ _ _ _ _ _ (rw c.in_ok-add_part.ensures at c.add_part.ensures)
    (words-then (transition_words c.args.take.trans.kind c.args.take.trans) (flag_words c.args.take.auto (codes "AUTO")) _ _ _ _ _ _ _ (rw (c.trans.ensures, c.in_ok-add_transition.ensures) at c.add_transition.ensures)
    (rw c.auto.ensures at c.add_flag.ensures)))
