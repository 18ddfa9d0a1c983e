use Rattle.std.proofs.Common.{◌≡◌, ◌+◌, ◌*◌, ◌/◌, ◌≤◌, length, ap, ◌∙◌, arith, div-mul-le_self}
use Rattle.std.proofs.lemmas.Nat.{mul-le}
use Rattle.clip_format.specs.Preparing.{straight_colour}
use Rattle.clip_format.proofs.Recoloured.{four_of, recoloured-more, recoloured-rest}
use Rattle.clip_format.proofs.straight.straighten_frames.Goals as goal

pub straighten-requires-clause-pixels : goal.straighten-requires-clause-pixels
straighten-requires-clause-pixels c =
    let units : c.loop-number.number * c.args.frame ≡ c.loop-number.number * (c.args.frame / 4) * 4 =
    ap (λ n. c.loop-number.number * n) (omega (arith, c.requires.frame_of_pixels)) ∙ four_of c.loop-number.number (c.args.frame / 4) in
    omega (arith, units, c.requires.picture_of_pixels)

pub loop-number-preserved : goal.loop-number-preserved
loop-number-preserved c =
    let number = c.loop-number.number in
    let frame = c.args.frame in
    let first = c.args.bytes.now in
    let so = c.loop-number.invariant in
    let frames = mul-le (number + 1) frame (length first / frame) frame (omega (arith, c.loop-number-test.true)) (omega arith) in
    let within : (number + 1) * frame ≤ length first = omega (arith, frames, div-mul-le_self (length first) frame) in
    let next : (number + 1) * frame ≡ number * frame + frame = grind arith in record {
      of_bytes = so.of_bytes;
      len = c.straighten.ensures.len ∙ so.len;
      done = λ k below.
          recoloured-more straight_colour c.args.picture frame number first c.loop-number.bytes c.straighten.new.bytes c.requires.within so.len so.done so.rest c.straighten.ensures k (omega (arith, below, within)) below;
      rest = λ k le.
          recoloured-rest straight_colour (number * frame) (number * frame + c.args.picture) c.loop-number.bytes c.straighten.new.bytes c.straighten.ensures k (omega (arith, le, next, c.requires.within))
          ∙ so.rest k (omega (arith, le, next));
    }
