use Rattle.std.proofs.Common.{◌≡◌, ◌<◌, length, sym, ap, ◌∙◌, arith}
use Rattle.std.specs.Prelude.{not}
use Rattle.std.proofs.lemmas.Bool.Decides.{nat_tests}
use Rattle.amcp_text.specs.Numbers.{are_digits}
use Rattle.amcp_text.proofs.Digits.{whole_number_empty, whole_number_some}
use Rattle.amcp_text.proofs.number.is_whole_number.Goals as goal

pub returns-then-not-is_empty : goal.returns-then-not-is_empty
returns-then-not-is_empty c =
    let some : 0 < length c.args.word.now = grind (arith, nat_tests) in
    c.are_digits.ensures ∙ ap are_digits c.as_bytes.ensures.value ∙ sym (whole_number_some c.args.word.now c.utf8.word some)

pub returns-else-not-is_empty : goal.returns-else-not-is_empty
returns-else-not-is_empty c =
    let none : length c.args.word.now ≡ 0 = grind (arith, nat_tests) in
    ap not c.if-not-is_empty.false ∙ sym (whole_number_empty c.args.word.now c.utf8.word none)
