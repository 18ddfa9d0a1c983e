use Rattle.std.proofs.Common.{◌≡◌, ◌-◌, ◌≤◌, ℕ, ◌^◌, ◌<◌, ℤ, pos, ◌+ℤ◌, ◌-ℤ◌, ◌*ℤ◌, FitsSigned, to_z, of_z, w64, arith, sym, subst, ◌∙◌}
use mir.Syntax.{w128}
use Rattle.std.proofs.lemmas.Int.{ints, clamps, to_z-of_z, to_z_pos}
use Rattle.play_types.specs.Curve.{IsBetween, along}
use Rattle.play_types.proofs.Tweens.{gone-below, along-part, IsBetween-along}
use Rattle.mixer_tween.proofs.Parts.{whole_short, IsWay, times_fits, way_fits, wide_fits, divides, part_short, computed, computed_part, computed_fits, computed_is}
use Rattle.mixer_tween.proofs.tween.Tween.at.Goals as goal

-- the way between the two ends, as it is computed
way_is : (c : goal.After-from-2) → c.from-2.result ≡ c.args.self.now.to -ℤ c.args.self.now.from
way_is c =
    let tween = c.args.self.now in
    let short : FitsSigned w64 (tween.to -ℤ tween.from) = omega (arith, ints, c.requires.from, c.requires.to) in
    c.from-2.ensures
    ∙ rw (to_z-of_z w64 tween.from (wide_fits tween.from c.requires.from), to_z-of_z w64 tween.to (wide_fits tween.to c.requires.to)) (to_z-of_z w64 (tween.to -ℤ tween.from) short)

is_way : (c : goal.After-from-2) → IsWay c.from-2.result
is_way c = rw (way_is c) (omega (arith, ints, c.requires.from, c.requires.to))

running : (c : goal.After-from-2) → c.args.ticks - c.args.self.now.start < c.args.self.now.duration
running c = omega (arith, c.if-passed-from.false, c.from.ensures)

less : (c : goal.After-from-2) → c.parts_gone-gone.result < c.all_parts-whole.result
less c = rw (c.parts_gone-gone.ensures, c.all_parts-whole.ensures) (gone-below c.args.self.now.curve (c.args.ticks - c.args.self.now.start) c.args.self.now.duration (running c))

few : (c : goal.After-from-2) → c.all_parts-whole.result < 2 ^ 96
few c = rw (c.all_parts-whole.ensures) (whole_short c.args.self.now.curve c.args.self.now.duration (omega arith))

pub overflow_mul-result : goal.overflow_mul-result
overflow_mul-result c =
    rw (to_z-of_z w128 c.from-2.result (way_fits c.from-2.result (is_way c)), to_z_pos w128 c.parts_gone-gone.result (omega (arith, less c, few c)))
    (times_fits c.from-2.result c.parts_gone-gone.result (is_way c) (omega (arith, less c, few c)))

pub nonzero_div-result : goal.nonzero_div-result
nonzero_div-result c =
    (omega (arith, less c), divides c.from-2.result c.parts_gone-gone.result c.all_parts-whole.result (is_way c) (less c) (few c))

pub overflow_cast-result-3 : goal.overflow_cast-result-3
overflow_cast-result-3 c = part_short c.from-2.result c.parts_gone-gone.result c.all_parts-whole.result (is_way c) (less c) (few c)

sum_fits : (c : goal.After-from-2) → FitsSigned w64 (computed c.args.self.now.from c.from-2.result c.parts_gone-gone.result c.all_parts-whole.result)
sum_fits c =
    let tween = c.args.self.now in
    rw (way_is c) (computed_fits tween.from tween.to c.parts_gone-gone.result c.all_parts-whole.result c.requires.from c.requires.to (less c) (few c))

pub overflow_add-result : goal.overflow_add-result
overflow_add-result c = sum_fits c

sum_is : (c : goal.After-from-2) →
    computed c.args.self.now.from c.from-2.result c.parts_gone-gone.result c.all_parts-whole.result
    ≡ along c.args.self.now.curve c.args.self.now.from c.args.self.now.to (c.args.ticks - c.args.self.now.start) c.args.self.now.duration
sum_is c =
    let tween = c.args.self.now in
    computed_is tween.from c.from-2.result c.parts_gone-gone.result c.all_parts-whole.result c.requires.from (is_way c) (less c) (few c)
    ∙ rw (way_is c, c.parts_gone-gone.ensures, c.all_parts-whole.ensures)
    (sym (along-part tween.curve tween.from tween.to (c.args.ticks - tween.start) tween.duration (running c)))

pub returns-clause-value : goal.returns-clause-value
returns-clause-value c =
    to_z-of_z w64 (computed c.args.self.now.from c.from-2.result c.parts_gone-gone.result c.all_parts-whole.result) (sum_fits c)
    ∙ sum_is c

pub returns-clause-between : goal.returns-clause-between
returns-clause-between c =
    let tween = c.args.self.now in
    subst (IsBetween tween.from tween.to) (sym (returns-clause-value c))
    (IsBetween-along tween.curve tween.from tween.to (c.args.ticks - tween.start) tween.duration)
