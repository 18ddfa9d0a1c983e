use Rattle.std.proofs.Common.{◌≡◌, ◌∷◌, get_or, pos, ap, ◌∙◌, append-nil}
use Rattle.amcp_text.specs.Micros.{printed_micro}
use Rattle.play_outside.proofs.Gathering.{Gathered-none, Gathered-turn, Adds-turn}
use Rattle.cmd_print.proofs.Spaced.{wide_kept}
use Rattle.cmd_print.proofs.setting.add_micros.Goals as goal

pub loop-value-init : goal.loop-value-init
loop-value-init g c = rw append-nil (Gathered-none c.args.text.now (g.K.Sink.state c.args.to.now))

pub returns-in_err-add_parts : goal.returns-in_err-add_parts
returns-in_err-add_parts g c =
    let at = c.loop-value.value-index in
    let value = get_or c.args.values.now at (pos 0) in
    let wide = c.requires at (pos 0) c.loop-value-test.true in
    let text : c.as_bytes.result.now ≡ printed_micro value = c.as_bytes.ensures ∙ c.of.ensures ∙ ap printed_micro (wide_kept value wide) in
    rw c.from_residual.ensures
    (Adds-turn _ (λ v. 32 ∷ printed_micro v) c.args.values.now at (pos 0) _ _ _ _ _ c.loop-value-test.true c.loop-value.invariant
    (rw (c.in_err-add_parts.ensures, text, append-nil (printed_micro value)) at c.add_parts.ensures))

pub loop-value-preserved : goal.loop-value-preserved
loop-value-preserved g c =
    let at = c.loop-value.value-index in
    let value = get_or c.args.values.now at (pos 0) in
    let wide = c.requires at (pos 0) c.loop-value-test.true in
    let text : c.as_bytes.result.now ≡ printed_micro value = c.as_bytes.ensures ∙ c.of.ensures ∙ ap printed_micro (wide_kept value wide) in
    Gathered-turn _ (λ v. 32 ∷ printed_micro v) c.args.values.now at (pos 0) _ _ _ _ _ c.loop-value-test.true c.loop-value.invariant
    (rw (c.in_ok-add_parts.ensures, text, append-nil (printed_micro value)) at c.add_parts.ensures)
