use Rattle.std.proofs.Common.{◌≡◌, inl, inr, length, take, sym, ap, ◌∙◌, arith}
use Rattle.std.proofs.lemmas.List.{take_all}
use Rattle.history_model.specs.stage.Answer.{number_count}
use Rattle.cmd_print.proofs.Spaced.{numbers_added}
use Rattle.cmd_print.proofs.setting.add_numbers.Goals as goal

pub returns-in-Opacity : goal.returns-in-Opacity
returns-in-Opacity g c =
    let one : number_count c.args.setting.prop ≡ 1 = elim c.in-Opacity.is [
      | inl opacity ↦ ap number_count (sym c.prop.ensures ∙ opacity)
      | inr other ↦ elim other [
        | inl volume ↦ ap number_count (sym c.prop.ensures ∙ volume)
        | inr keyer ↦ ap number_count (sym c.prop.ensures ∙ keyer)
      ]
    ] in
    numbers_added (take (number_count c.args.setting.prop) c.args.setting.values) (take 1 c.values-values.result) _ _ _ _ _
    (ap (λ count. take count c.args.setting.values) one ∙ ap (take 1) (sym c.values-values.ensures.value)) c.add_micros.ensures

pub returns-in-Fill : goal.returns-in-Fill
returns-in-Fill g c =
    let four : number_count c.args.setting.prop ≡ 4 = elim c.in-Fill.is [
      | inl fill ↦ ap number_count (sym c.prop.ensures ∙ fill)
      | inr clip ↦ ap number_count (sym c.prop.ensures ∙ clip)
    ] in
    let long : length c.values-values.result ≡ 4 = omega arith in
    numbers_added (take (number_count c.args.setting.prop) c.args.setting.values) c.values-values.result _ _ _ _ _
    (ap (λ count. take count c.args.setting.values) four ∙ ap (take 4) (sym c.values-values.ensures.value) ∙ take_all 4 c.values-values.result (omega arith))
    c.add_micros-in-Fill.ensures
