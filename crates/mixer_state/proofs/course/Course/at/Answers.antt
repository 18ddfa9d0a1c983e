use Rattle.std.proofs.Common.{rules, ◌≡◌, ◌-◌, length, arith, sym, ap, ◌∙◌, w64}
use Rattle.std.proofs.lemmas.Int.{to_z-of_z}
use Rattle.play_types.specs.Curve.{along}
use Rattle.mixer_tween.specs.declared.tween.Tween.{Tween}
use Rattle.mixer_state.proofs.Numbers.{all_along-four, four_same, wide_at}
use Rattle.mixer_state.proofs.course.Course.at.Goals as goal

pub at-requires-clause-from : goal.at-requires-clause-from
at-requires-clause-from c =
    let few : length c.args.self.now.from ≡ 4 = search rules in
    rw c.tween.ensures (wide_at c.args.self.now.from 0 c.requires.from (omega (arith, few)))

pub returns : goal.returns
returns c =
    let course = c.args.self.now in
    let from_four : length course.from ≡ 4 = search rules in
    let to_four : length course.to ≡ 4 = search rules in
    let value = λ (tween : Tween). along tween.curve tween.from tween.to (c.args.ticks - tween.start) tween.duration in
    four_same (to_z-of_z w64 c.at.result (search rules) ∙ c.at.ensures.value ∙ ap value c.tween.ensures)
    (to_z-of_z w64 c.at-2.result (search rules) ∙ c.at-2.ensures.value ∙ ap value c.tween-2.ensures)
    (to_z-of_z w64 c.at-3.result (search rules) ∙ c.at-3.ensures.value ∙ ap value c.tween-3.ensures)
    (to_z-of_z w64 c.at-4.result (search rules) ∙ c.at-4.ensures.value ∙ ap value c.tween-4.ensures)
    ∙ sym (all_along-four course.curve course.from course.to (c.args.ticks - course.start) course.duration from_four to_four)
