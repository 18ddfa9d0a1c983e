use Rattle.std.proofs.Common.{◌∷◌, sym, subst, ◌∙◌}
use Rattle.std.specs.Str.{IsUtf8}
use Rattle.std.proofs.lemmas.Str.{IsUtf8-from_ascii}
use Rattle.history_model.specs.text.Commands.{capital_digits}
use Rattle.view_status.proofs.Words.{colour_ascii, pushed, no_error}
use Rattle.view_status.proofs.producer.push_colour.Goals as goal

pub unwrap-requires : goal.unwrap-requires
unwrap-requires c =
    let utf8 : IsUtf8 (35 ∷ capital_digits 8 c.args.value) = IsUtf8-from_ascii (35 ∷ capital_digits 8 c.args.value) (colour_ascii c.args.value) in
    no_error c.from_utf8.result (λ e is. (rw is at c.from_utf8.ensures.cases).0 (subst IsUtf8 (sym c.colour_word-digits.ensures) utf8))

pub returns : goal.returns
returns c =
    pushed c.push_str.result _ _ c.unwrap.result.now _ c.push_str.ensures.bytes
    ((rw c.unwrap.ensures at c.from_utf8.ensures.cases).0 ∙ c.colour_word-digits.ensures)
