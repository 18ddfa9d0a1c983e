use Rattle.std.proofs.Common.{◌≡◌, ap, ◌∙◌, map}
use Rattle.std.specs.Char.{to_ascii_uppercase}
use Rattle.hex.specs.Hex.{encode_lower}
use Rattle.osc_status.proofs.Digits.{colour_in_capitals}
use Rattle.osc_status.proofs.producer.colour_digits.Goals as goal

pub returns : goal.returns
returns c =
    let digits : c.encode_to_slice.new.output ≡ encode_lower c.to_be_bytes.result = rw c.unwrap.ensures at c.encode_to_slice.ensures.written in
    c.in_capitals.ensures ∙ ap (map to_ascii_uppercase) (digits ∙ ap encode_lower c.to_be_bytes.ensures) ∙ colour_in_capitals c.args.value c.ranges.value.fits
