use Rattle.std.proofs.Common.{◌≡◌, get_or, ap, ◌∙◌, arith}
use Rattle.std.specs.Char.{digit_value}
use Rattle.amcp_text.specs.Numbers.{six_places}
use Rattle.fixed_params.proofs.Digits.{digit_here, place_inside, place_past, places_more}
use Rattle.fixed_params.proofs.read.millionths.Goals as goal
use Rattle.fixed_params.proofs.read.millionths.Goals.{in-Some, in-None}

pub loop-place-preserved : goal.loop-place-preserved
loop-place-preserved c =
    let digits = c.args.digits.now in
    let place = c.loop-place.place in
    elim c.match-get.branch [
      | in-Some w ↦
          let lookup = w.in-Some.ensures.lookup in
          let here = digit_here digits place c.requires lookup.3.0 in
          let digit : digit_value (get_or (six_places digits) place 0) ≡ c.from.result =
          ap digit_value (place_inside digits place c.loop-place-test.true lookup.3.0) ∙ omega (arith, here.2, w.digit-is, lookup.3.1 0, c.from.ensures) in
          places_more digits place c.loop-place.value c.from.result c.loop-place-test.true digit (omega (arith, here.1, w.digit-is, lookup.3.1 0, c.from.ensures)) c.loop-place.invariant.0 c.loop-place.invariant.1
      | in-None w ↦
          let lookup = w.in-None.ensures.lookup in
          let digit : digit_value (get_or (six_places digits) place 0) ≡ c.from.result =
          ap digit_value (place_past digits place c.loop-place-test.true lookup.3) ∙ omega (arith, w.digit-is, c.from.ensures) in
          places_more digits place c.loop-place.value c.from.result c.loop-place-test.true digit (omega (arith, w.digit-is, c.from.ensures)) c.loop-place.invariant.0 c.loop-place.invariant.1
    ]
