use Rattle.std.proofs.Common.{◌<◌, ◌^◌, sym, subst, arith, of_z}
use Rattle.std.specs.Int.{w64}
use Rattle.std.specs.Prelude.{ℤ}
use Rattle.play_sound.specs.inner.Ranges.{IsNear}
use Rattle.play_sound.proofs.Mean.{mean_is, mean_near, quotient_fits, sum_fits}
use Rattle.play_sound.proofs.sample.mean.Goals as goal

pub overflow_add-result : goal.overflow_add-result
overflow_add-result c =
    let small : c.args.d < 2 ^ 32 = omega arith in
    sum_fits c.args.old c.args.new c.from.result c.from-2.result c.args.j c.args.d
    c.requires.old c.requires.new c.requires.step small c.from.ensures c.from-2.ensures

pub nonzero_div-result : goal.nonzero_div-result
nonzero_div-result c =
    let small : c.args.d < 2 ^ 32 = omega arith in
    let some : 0 < c.args.d = omega arith in (
      subst (λ (z : ℤ). 0 < of_z w64 z) (sym c.from-3.ensures) some,
      quotient_fits c.args.old c.args.new c.from.result c.from-2.result c.from-3.result c.args.j c.args.d
          c.requires.old c.requires.new c.requires.step small c.from.ensures c.from-2.ensures c.from-3.ensures,
    )

pub returns-clause-value : goal.returns-clause-value
returns-clause-value c =
    let small : c.args.d < 2 ^ 32 = omega arith in
    mean_is c.args.old c.args.new c.from.result c.from-2.result c.from-3.result c.args.j c.args.d
    c.requires.old c.requires.new c.requires.step small c.from.ensures c.from-2.ensures c.from-3.ensures

pub returns-clause-near : goal.returns-clause-near
returns-clause-near c =
    let small : c.args.d < 2 ^ 32 = omega arith in
    subst (λ (z : ℤ). IsNear 32768 z)
    (sym (mean_is c.args.old c.args.new c.from.result c.from-2.result c.from-3.result c.args.j c.args.d
    c.requires.old c.requires.new c.requires.step small c.from.ensures c.from-2.ensures c.from-3.ensures))
    (mean_near c.args.old c.args.new c.args.j c.args.d c.requires.old c.requires.new c.requires.step)
