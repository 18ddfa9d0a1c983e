use Rattle.std.proofs.Common.{◌≡◌, ◌<◌, ◌^◌, take}
use Rattle.std.specs.Str.Parse.{digits_value}
use Rattle.amcp_text.specs.Numbers.{six_places}
use Rattle.fixed_params.proofs.read.millionths.Given as goal

abbrev pub invariant-loop-place : goal.invariant-loop-place
invariant-loop-place l = (l.value ≡ digits_value 10 (take l.place (six_places l.digits))) × (l.value < 10 ^ l.place)
