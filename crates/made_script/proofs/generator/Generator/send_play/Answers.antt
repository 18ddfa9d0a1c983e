use Rattle.std.proofs.Common.{append-nil}
use Rattle.hex.specs.Hex.{encode_with}
use Rattle.made_script.proofs.generator.Generator.send_play.Goals as goal

pub returns-clause-line : goal.returns-clause-line
unfolding encode_with
returns-clause-line g c = rw (
  c.as_bytes.ensures.value,
  c.format.ensures.text,
  c.two_digits.ensures,
  c.two_digits-2.ensures,
  c.two_digits-3.ensures,
  c.two_digits-4.ensures,
  c.draw-duration.ensures.number,
  c.draw-blue.ensures.number,
  c.draw-green.ensures.number,
  c.draw-red.ensures.number,
  c.draw-alpha.ensures.number,
  c.draw-blue.ensures.state,
  c.draw-green.ensures.state,
  c.draw-red.ensures.state,
  c.draw-alpha.ensures.state,
  append-nil,
) at c.send_at.ensures
