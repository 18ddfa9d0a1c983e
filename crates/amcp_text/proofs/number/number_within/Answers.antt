use Rattle.std.proofs.Common.{◌<◌, ◌∙◌, ◌+◌, ◌*◌, ap, sym, length, arith}
use Rattle.amcp_text.proofs.Digits.{number_within-large, value_more, digits_more}
use Rattle.amcp_text.proofs.number.number_within.Goals as goal

pub returns-then-value-from-clause-value : goal.returns-then-value-from-clause-value
returns-then-value-from-clause-value c =
    let text = c.args.text.now in
    let i = c.loop-digit.digit-index in
    let inside : i < length text = omega arith in
    let value = value_more text i c.loop-digit.value inside (sym c.is_ascii_digit.ensures.value ∙ c.if-not-is_ascii_digit.false) c.loop-digit.invariant.value in
    sym (number_within-large c.args.least c.args.most text (i + 1) c.loop-digit.invariant.some
    (omega (arith, value, c.from.ensures, c.from-in-loop-digit.ensures, c.if-value-from.true)))

pub loop-digit-preserved : goal.loop-digit-preserved
loop-digit-preserved c =
    let text = c.args.text.now in
    let i = c.loop-digit.digit-index in
    let inside : i < length text = omega arith in
    record {
      some = c.loop-digit.invariant.some;
      value = ap (λ d. c.loop-digit.value * 10 + d) c.from.ensures
          ∙ value_more text i c.loop-digit.value inside (sym c.is_ascii_digit.ensures.value ∙ c.if-not-is_ascii_digit.false) c.loop-digit.invariant.value;
      digits = digits_more text i inside (sym c.is_ascii_digit.ensures.value ∙ c.if-not-is_ascii_digit.false) c.loop-digit.invariant.digits;
      bounded = omega (arith, c.from-in-loop-digit.ensures, c.if-value-from.false);
    }
