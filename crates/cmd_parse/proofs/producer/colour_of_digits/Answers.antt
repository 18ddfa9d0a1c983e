use Rattle.std.proofs.Common.{◌≡◌, true, false, sym, ap, ◌∙◌, refl, length}
use Rattle.std.specs.Prelude.{◌==◌}
use Rattle.std.specs.Char.{is_ascii_hexdigit}
use Rattle.std.specs.List.{list_all}
use Rattle.std.proofs.lemmas.Bool.Decides.{nat_tests}
use Rattle.std.proofs.Common.{arith}
use Rattle.cmd_parse.proofs.Hexadecimal.{colour_of_bytes}
use Rattle.cmd_parse.proofs.producer.colour_of_digits.Goals as goal

pub returns-then-not-are_hexadecimal : goal.returns-then-not-are_hexadecimal
returns-then-not-are_hexadecimal c =
    let text = c.args.digits.now in
    let other : list_all is_ascii_hexdigit text ≡ false =
    ap (list_all is_ascii_hexdigit) (sym c.as_bytes.ensures.value) ∙ sym c.are_hexadecimal.ensures ∙ c.if-not-are_hexadecimal.true in
    rw (colour_of_bytes text c.utf8.digits, other) refl

pub returns-in-8 : goal.returns-in-8
returns-in-8 c =
    let text = c.args.digits.now in
    let digits : list_all is_ascii_hexdigit text ≡ true =
    ap (list_all is_ascii_hexdigit) (sym c.as_bytes.ensures.value) ∙ sym c.are_hexadecimal.ensures ∙ c.if-not-are_hexadecimal.false in
    rw (colour_of_bytes text c.utf8.digits, digits, c.in-8.is, c.hexadecimal_value.ensures.value) refl

pub returns-in-6 : goal.returns-in-6
returns-in-6 c =
    let text = c.args.digits.now in
    let digits : list_all is_ascii_hexdigit text ≡ true =
    ap (list_all is_ascii_hexdigit) (sym c.as_bytes.ensures.value) ∙ sym c.are_hexadecimal.ensures ∙ c.if-not-are_hexadecimal.false in
    rw (colour_of_bytes text c.utf8.digits, digits, c.in-6.is, c.hexadecimal_value-in-6.ensures.value) refl

pub returns-in_default : goal.returns-in_default
returns-in_default c =
    let text = c.args.digits.now in
    let digits : list_all is_ascii_hexdigit text ≡ true =
    ap (list_all is_ascii_hexdigit) (sym c.as_bytes.ensures.value) ∙ sym c.are_hexadecimal.ensures ∙ c.if-not-are_hexadecimal.false in
    let no_eight : (length text == 8) ≡ false = grind (arith, nat_tests) in
    let no_six : (length text == 6) ≡ false = grind (arith, nat_tests) in
    rw (colour_of_bytes text c.utf8.digits, digits, no_eight, no_six) refl
