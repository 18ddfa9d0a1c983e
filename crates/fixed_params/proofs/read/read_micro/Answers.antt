use Rattle.std.proofs.Common.{◌≡◌, true, false, Some, sym, ap, ◌∙◌}
use Rattle.std.specs.Str.Parse.{starts_with_minus, without_leading_sign}
use Rattle.fixed_params.proofs.Values.{signed, micro_of_text, within, plus_value, minus_value}
use Rattle.fixed_params.proofs.read.read_micro.Goals as goal

pub returns-in_err-read_unsigned-clause-value : goal.returns-in_err-read_unsigned-clause-value
returns-in_err-read_unsigned-clause-value c =
    let unsigned = c.without_sign.ensures ∙ ap without_leading_sign c.as_bytes-text.ensures.value in
    c.from_residual.ensures ∙ sym (micro_of_text c.args.text.now _ _ c.utf8.text unsigned c.in_err-read_unsigned.ensures)

pub returns-then-is_negative-clause-value : goal.returns-then-is_negative-clause-value
returns-then-is_negative-clause-value c =
    let n = c.in_ok-read_unsigned.field-0 in
    let unsigned = c.without_sign.ensures ∙ ap without_leading_sign c.as_bytes-text.ensures.value in
    let minus : starts_with_minus c.args.text.now ≡ true =
    ap starts_with_minus (sym c.as_bytes-text.ensures.value) ∙ sym c.is_negative.ensures ∙ c.if-is_negative.true in
    let value = minus_value n c.from-micros.result c.from-micros.ensures (within c.without_sign.result.now n c.in_ok-read_unsigned.ensures) in
    ap Some (value ∙ ap (λ m. signed m n) (sym minus)) ∙ sym (micro_of_text c.args.text.now _ _ c.utf8.text unsigned c.in_ok-read_unsigned.ensures)

pub returns-else-is_negative-clause-value : goal.returns-else-is_negative-clause-value
returns-else-is_negative-clause-value c =
    let n = c.in_ok-read_unsigned.field-0 in
    let unsigned = c.without_sign.ensures ∙ ap without_leading_sign c.as_bytes-text.ensures.value in
    let plus : starts_with_minus c.args.text.now ≡ false =
    ap starts_with_minus (sym c.as_bytes-text.ensures.value) ∙ sym c.is_negative.ensures ∙ c.if-is_negative.false in
    let value = plus_value n c.from-micros.result c.from-micros.ensures (within c.without_sign.result.now n c.in_ok-read_unsigned.ensures) in
    ap Some (value ∙ ap (λ m. signed m n) (sym plus)) ∙ sym (micro_of_text c.args.text.now _ _ c.utf8.text unsigned c.in_ok-read_unsigned.ensures)
