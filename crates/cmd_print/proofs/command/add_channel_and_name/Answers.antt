use Rattle.std.proofs.Common.{[], ◌∷◌}
use Rattle.std.specs.Prelude.{codes}
use Rattle.history_model.specs.text.Commands.{number_word, recording_word, Plain}
use Rattle.cmd_print.proofs.Spaced.{words-then, words-left}
use Rattle.cmd_print.proofs.command.add_channel_and_name.Goals as goal

pub returns-in_err-add_channel_and_word : goal.returns-in_err-add_channel_and_word
returns-in_err-add_channel_and_word g c =
    words-left (number_word c.args.channel ∷ Plain (codes "FILE") ∷ []) (recording_word c.args.name ∷ []) _ _ _ _ _ _ c.add_channel_and_word.ensures c.in_err-add_channel_and_word.ensures c.from_residual.ensures

pub returns : goal.returns
returns g c =
    words-then (number_word c.args.channel ∷ Plain (codes "FILE") ∷ []) (recording_word c.args.name ∷ []) _ _ _ _ _ _ _ (rw c.in_ok-add_channel_and_word.ensures at c.add_channel_and_word.ensures)
    c.add_rec_name.ensures
