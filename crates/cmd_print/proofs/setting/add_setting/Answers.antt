use Rattle.std.proofs.Common.{[], ◌∷◌, ◌++◌}
use Rattle.std.specs.Prelude.{codes, map, take}
use Rattle.history_model.specs.stage.Answer.{number_count}
use Rattle.history_model.specs.text.Commands.{Plain, micro_word, timing_words, flag_words}
use Rattle.play_types.specs.Words.{prop_text}
use Rattle.cmd_print.proofs.Spaced.{words-then, words-left}
use Rattle.cmd_print.proofs.setting.add_setting.Goals as goal

pub returns-in_err-add_word : goal.returns-in_err-add_word
returns-in_err-add_word g c =
    words-left (Plain (prop_text c.args.setting.prop) ∷ []) (map micro_word (take (number_count c.args.setting.prop) c.args.setting.values) ++ (timing_words c.args.setting.prop c.args.setting ++ flag_words c.args.setting.deferred (codes "DEFER"))) _ _ _ _ _ _ (rw (c.as_str.ensures.text, c.prop.ensures) at c.add_word.ensures) c.in_err-add_word.ensures c.from_residual.ensures

pub returns-in_err-add_numbers : goal.returns-in_err-add_numbers
returns-in_err-add_numbers g c =
    words-then (Plain (prop_text c.args.setting.prop) ∷ []) (map micro_word (take (number_count c.args.setting.prop) c.args.setting.values) ++ (timing_words c.args.setting.prop c.args.setting ++ flag_words c.args.setting.deferred (codes "DEFER"))) _ _ _ _ _ _ _ (rw (c.as_str.ensures.text, c.prop.ensures, c.in_ok-add_word.ensures) at c.add_word.ensures)
    (words-left (map micro_word (take (number_count c.args.setting.prop) c.args.setting.values)) (timing_words c.args.setting.prop c.args.setting ++ flag_words c.args.setting.deferred (codes "DEFER")) _ _ _ _ _ _ c.add_numbers.ensures c.in_err-add_numbers.ensures c.from_residual-in_err-add_numbers.ensures)

pub returns-in_err-add_timing : goal.returns-in_err-add_timing
returns-in_err-add_timing g c =
    words-then (Plain (prop_text c.args.setting.prop) ∷ []) (map micro_word (take (number_count c.args.setting.prop) c.args.setting.values) ++ (timing_words c.args.setting.prop c.args.setting ++ flag_words c.args.setting.deferred (codes "DEFER"))) _ _ _ _ _ _ _ (rw (c.as_str.ensures.text, c.prop.ensures, c.in_ok-add_word.ensures) at c.add_word.ensures)
    (words-then (map micro_word (take (number_count c.args.setting.prop) c.args.setting.values)) (timing_words c.args.setting.prop c.args.setting ++ flag_words c.args.setting.deferred (codes "DEFER")) _ _ _ _ _ _ _ (rw c.in_ok-add_numbers.ensures at c.add_numbers.ensures)
    (words-left (timing_words c.args.setting.prop c.args.setting) (flag_words c.args.setting.deferred (codes "DEFER")) _ _ _ _ _ _ c.add_timing.ensures c.in_err-add_timing.ensures c.from_residual-in_err-add_timing.ensures))

pub returns : goal.returns
returns g c =
    words-then (Plain (prop_text c.args.setting.prop) ∷ []) (map micro_word (take (number_count c.args.setting.prop) c.args.setting.values) ++ (timing_words c.args.setting.prop c.args.setting ++ flag_words c.args.setting.deferred (codes "DEFER"))) _ _ _ _ _ _ _ (rw (c.as_str.ensures.text, c.prop.ensures, c.in_ok-add_word.ensures) at c.add_word.ensures)
    (words-then (map micro_word (take (number_count c.args.setting.prop) c.args.setting.values)) (timing_words c.args.setting.prop c.args.setting ++ flag_words c.args.setting.deferred (codes "DEFER")) _ _ _ _ _ _ _ (rw c.in_ok-add_numbers.ensures at c.add_numbers.ensures)
    (words-then (timing_words c.args.setting.prop c.args.setting) (flag_words c.args.setting.deferred (codes "DEFER")) _ _ _ _ _ _ _ (rw c.in_ok-add_timing.ensures at c.add_timing.ensures)
    (rw c.deferred.ensures at c.add_flag.ensures)))
