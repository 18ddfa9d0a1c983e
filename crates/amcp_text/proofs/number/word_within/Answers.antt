use Rattle.std.proofs.Common.{◌∙◌, ap, sym}
use Rattle.std.specs.Prelude.{option_and_then}
use Rattle.amcp_text.specs.Numbers.{number_within, within}
use Rattle.amcp_text.proofs.TextLaws.{whole_number-chars}
use Rattle.amcp_text.proofs.number.word_within.Goals as goal

pub returns-clause-value : goal.returns-clause-value
returns-clause-value c =
    c.number_within.ensures.value ∙ ap (number_within c.args.least c.args.most) c.as_bytes.ensures.value
    ∙ ap (option_and_then (within c.args.least c.args.most)) (sym (whole_number-chars c.args.word.now c.utf8.word))
