use Rattle.std.proofs.Common.{[], ◌∷◌}
use Rattle.std.specs.Prelude.{codes}
use Rattle.history_model.specs.text.Commands.{Plain, number_word, flag_words}
use Rattle.cmd_print.specs.inner.Bytes.{spaced}
use Rattle.cmd_print.proofs.Spaced.{words-then, words-left}
use Rattle.cmd_print.proofs.take.add_clip_part.Goals as goal

pub returns-in_err-add_flag : goal.returns-in_err-add_flag
unfolding spaced
returns-in_err-add_flag g c =
    words-left (flag_words c.args.looped (codes "LOOP")) (Plain (codes "SEEK") ∷ number_word c.args.seek ∷ Plain (codes "LENGTH") ∷ number_word c.args.length ∷ []) _ _ _ _ _ _ c.add_flag.ensures c.in_err-add_flag.ensures c.from_residual.ensures

pub returns : goal.returns
unfolding spaced
returns g c =
    words-then (flag_words c.args.looped (codes "LOOP")) (Plain (codes "SEEK") ∷ number_word c.args.seek ∷ Plain (codes "LENGTH") ∷ number_word c.args.length ∷ []) _ _ _ _ _ _ _ (rw c.in_ok-add_flag.ensures at c.add_flag.ensures)
    (rw (c.as_bytes.ensures.value, c.format.ensures.text, c.as_bytes-2.ensures.value, c.format-2.ensures.text) at c.add_parts.ensures)
