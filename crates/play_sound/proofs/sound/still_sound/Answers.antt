use Rattle.std.proofs.Common.{◌≡◌, ◌+◌, ◌*◌, ◌/◌, ◌%◌, ap, ◌∙◌, arith}
use Rattle.play_sound.specs.inner.Rows.{sample_at}
use Rattle.play_sound.proofs.Rows.{sample_from}
use Rattle.play_sound.proofs.sound.still_sound.Goals as goal

pub returns-clause-samples : goal.returns-clause-samples
returns-clause-samples c = λ i.
    let first = c.args.first in
    let whole = c.whole_sound.result.now in
    let place : 4 * (first + i / 2) + 2 * (i % 2) ≡ 4 * first + 2 * i = omega arith in
    ap (λ sound. sample_at sound i) c.from_pair.ensures
    ∙ sample_from whole (4 * first) (2 * i) (4 * (first + i / 2) + 2 * (i % 2)) place
    ∙ c.whole_sound.ensures.samples (first + i / 2) (i % 2) (omega arith)
