use Rattle.std.proofs.Common.{◌≡◌, ℕ, List, [], ◌∷◌, ◌++◌, length, get_or, ℤ, pos, lit<, ◌<◌, refl, take, ap, subst, ◌∙◌, arith}
use Rattle.std.specs.Prelude.{codes}
use Rattle.std.specs.List.{flat_map, join_by}
use Rattle.play_types.specs.Setting.{IsWide}
use Rattle.history_model.specs.text.Replies.{values_line}
use Rattle.play_outside.specs.Gathered.{Adds}
use Rattle.amcp_text.specs.Micros.{printed_micro}
use Rattle.return_codes.specs.inner.Style.{styled_lines}
use Rattle.return_codes.proofs.Values.{wide_kept, joined_parts}
use Rattle.return_codes.proofs.value.add_values.Goals as goal

pub returns : goal.returns
unfolding values_line
returns g c =
    let values = c.values.result in
    let four : length values ≡ 4 = omega arith in
    let wide : (at : ℕ) → at < 4 → IsWide (get_or values at (pos 0)) =
    λ at small. (rw (← c.values.ensures.value) at c.values.ensures.range.in_range) at (pos 0) (omega arith) in
    let a = rw (wide_kept (get_or values 0 (pos 0)) (wide 0 (lit< tt))) at c.of-a.ensures in
    let b = rw (wide_kept (get_or values 1 (pos 0)) (wide 1 (lit< tt))) at c.of-b.ensures in
    let d = rw (wide_kept (get_or values 2 (pos 0)) (wide 2 (lit< tt))) at c.of-c.ensures in
    let e = rw (wide_kept (get_or values 3 (pos 0)) (wide 3 (lit< tt))) at c.of-d.ensures in
    subst (λ (line : List ℕ). Adds c.add_two_lines.result (c.args.text.now ++ styled_lines c.args.style.now (codes "201 MIXER OK" ∷ line ∷ [])) c.add_two_lines.new.text (g.K.Sink.state c.args.to.now) (g.K.Sink.state c.add_two_lines.new.to))
    (joined_parts (λ part. part.now) _ _ _ _ _ _ _ values c.args.micros.count c.saturating_sub-used.result four (omega arith)
    (c.as_bytes.ensures ∙ a) refl (c.as_bytes-2.ensures ∙ b) refl (c.as_bytes-3.ensures ∙ d) refl (c.as_bytes-4.ensures ∙ e)
    ∙ ap (λ (vs : List ℤ). join_by printed_micro (codes " ") (take c.args.micros.count vs)) c.values.ensures.value)
    c.add_two_lines.ensures
