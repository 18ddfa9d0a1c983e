use Rattle.std.proofs.Common.{◌/◌, ◌∷◌, [], ap, length, arith, length-append}
use Rattle.std.specs.Fmt.{decimal}
use Rattle.fixed_params.proofs.Values.{whole_length}
use Rattle.fixed_params.proofs.print.MicroText.push_unsigned.Goals as goal

pub push_number-requires : goal.push_number-requires
push_number-requires c = omega (arith, whole_length c.args.micros c.requires.small)

pub push-requires : goal.push-requires
push-requires c =
    omega (arith, whole_length c.args.micros c.requires.small, ap length c.push_number.ensures, length-append c.args.self.now (decimal (c.args.micros / 1000000)))

pub push_places-requires-clause-room : goal.push_places-requires-clause-room
push_places-requires-clause-room c =
    omega (
      arith,
      whole_length c.args.micros c.requires.small,
      ap length c.push_number.ensures,
      length-append c.args.self.now (decimal (c.args.micros / 1000000)),
      ap length c.push.ensures,
      length-append c.push_number.new.self (46 ∷ []),
    )
