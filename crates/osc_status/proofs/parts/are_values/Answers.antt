use Rattle.std.proofs.Common.{[], ◌∷◌, drop, sym, ap, ◌∙◌, ◌+◌}
use Rattle.std.specs.Prelude.{is_some}
use Rattle.osc_status.specs.Written.{arg_value}
use Rattle.osc_status.specs.inner.Reading.{values_at}
use Rattle.osc_status.proofs.Turns.{is-empty, some-after, values-all, values-end, values-turn}
use Rattle.osc_status.proofs.parts.are_values.Goals as goal

pub loop-kind-preserved : goal.loop-kind-preserved
loop-kind-preserved c =
    let turn = values-turn c.args.kinds.now c.loop-kind.kind-index 0 c.loop-kind.rest.now (arg_value c.in-Some.field-0-0) c.in-Some.after.now c.loop-kind-test.true (sym c.in-Some.ensures) in
    sym (some-after (arg_value c.in-Some.field-0-0 ∷ []) (values_at (drop (c.loop-kind.kind-index + 1) c.args.kinds.now) c.in-Some.after.now)) ∙ ap is_some (sym turn) ∙ c.loop-kind.invariant

pub returns-in-None : goal.returns-in-None
returns-in-None c =
    let none = values-end c.args.kinds.now c.loop-kind.kind-index 0 c.loop-kind.rest.now c.loop-kind-test.true (sym c.in-None.ensures) in
    ap is_some (sym none) ∙ c.loop-kind.invariant

pub returns : goal.returns
returns c =
    let all = values-all c.args.kinds.now c.loop-kind.kind-index c.loop-kind.rest.now c.loop-kind-test.false in
    c.is_empty.ensures ∙ sym (is-empty _) ∙ ap is_some (sym all) ∙ c.loop-kind.invariant
