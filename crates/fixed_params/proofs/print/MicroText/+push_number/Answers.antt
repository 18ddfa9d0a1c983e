use Rattle.std.proofs.Common.{◌≡◌, ◌+◌, ◌/◌, ◌%◌, ◌∷◌, [], ◌++◌, length, arith, ap, ◌∙◌, inl, inr, length-append}
use Rattle.std.specs.Fmt.{decimal}
use Rattle.std.proofs.lemmas.Fmt.{decimal_step}
use Rattle.fixed_params.proofs.Places.{number_done}
use Rattle.fixed_params.proofs.print.MicroText.+push_number.Goals as goal
use Rattle.fixed_params.proofs.print.MicroText.+push_number.Goals.{then-number-ge10, else-number-ge10}

pub push_number-requires : goal.push_number-requires
push_number-requires t c =
    let n = c.args.number in
    let step = decimal_step n c.if-number-ge10.true (omega (arith, c.ranges.number.fits)) in
    (omega (arith, c.decreases), omega (arith, c.requires, ap length step, length-append (decimal (n / 10)) ((48 + n % 10) ∷ [])))

pub push-requires : goal.push-requires
push-requires t c =
    let n = c.args.number in
    let done : c.if-number-ge10.self ++ (48 + n % 10) ∷ [] ≡ c.args.self.now ++ decimal n =
    number_done c.args.self.now c.if-number-ge10.self n (omega (arith, c.ranges.number.fits)) (elim c.if-number-ge10.branch [
      | then-number-ge10 w ↦ inl (w.if-number-ge10.true, w.self-is ∙ w.push_number.ensures)
      | else-number-ge10 w ↦ inr (w.if-number-ge10.false, w.self-is)
    ]) in
    omega (arith, c.requires, ap length done, length-append c.if-number-ge10.self ((48 + n % 10) ∷ []), length-append c.args.self.now (decimal n))

pub returns : goal.returns
returns t c =
    c.push.ensures
    ∙ number_done c.args.self.now c.if-number-ge10.self c.args.number (omega (arith, c.ranges.number.fits)) (elim c.if-number-ge10.branch [
      | then-number-ge10 w ↦ inl (w.if-number-ge10.true, w.self-is ∙ w.push_number.ensures)
      | else-number-ge10 w ↦ inr (w.if-number-ge10.false, w.self-is)
    ])
