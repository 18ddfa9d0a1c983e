use Rattle.std.proofs.Common.{◌≡◌, ◌++◌, [], ◌∷◌, drop, sym, ap, ◌∙◌, ◌+◌, true, List}
use Rattle.std.specs.Prelude.{is_some, option_map}
use Rattle.osc_status.specs.declared.arg.OscValue.{OscValue}
use Rattle.osc_status.specs.Written.{arg_value}
use Rattle.osc_status.specs.inner.Reading.{values_at}
use Rattle.osc_status.specs.inner.Views.{value_view}
use Rattle.osc_status.proofs.Turns.{after-after, after_args, all_read, some-after, some_seen, value-there, values-all, values-turn}
use Rattle.osc_status.proofs.parts.args_of.Goals as goal

pub unwrap-requires : goal.unwrap-requires
unwrap-requires c =
    let some : is_some (values_at (drop c.loop-kind.kind-index c.args.kinds.now) c.loop-kind.rest.now) ≡ true =
    sym (some-after c.loop-kind.args (values_at (drop c.loop-kind.kind-index c.args.kinds.now) c.loop-kind.rest.now)) ∙ ap is_some c.loop-kind.invariant ∙ c.requires in
    let there = value-there c.args.kinds.now c.loop-kind.kind-index 0 c.loop-kind.rest.now c.loop-kind-test.true some in
    some_seen value_view c.value_at.result (rw (← c.value_at.ensures) at there)

pub loop-kind-preserved : goal.loop-kind-preserved
loop-kind-preserved c =
    let found = sym c.value_at.ensures ∙ ap (option_map value_view) c.unwrap.ensures in
    let turn = values-turn c.args.kinds.now c.loop-kind.kind-index 0 c.loop-kind.rest.now (arg_value c.unwrap.result.0) c.unwrap.result.1.now c.loop-kind-test.true found in
    let pushed : c.push.new.self ≡ c.loop-kind.args ++ arg_value c.unwrap.result.0 ∷ [] = c.in_ok-push.ensures.ok ∙ ap (λ (last : OscValue). c.loop-kind.args ++ last ∷ []) c.in_ok-owned.ensures in
    ap (λ (args : List OscValue). after_args args (values_at (drop (c.loop-kind.kind-index + 1) c.args.kinds.now) c.unwrap.result.1.now)) pushed
    ∙ sym (after-after c.loop-kind.args (arg_value c.unwrap.result.0) (values_at (drop (c.loop-kind.kind-index + 1) c.args.kinds.now) c.unwrap.result.1.now))
    ∙ ap (after_args c.loop-kind.args) (sym turn) ∙ c.loop-kind.invariant

pub returns : goal.returns
returns c =
    let all = values-all c.args.kinds.now c.loop-kind.kind-index c.loop-kind.rest.now c.loop-kind-test.false in
    all_read c.loop-kind.args _ (values_at c.args.kinds.now c.args.bytes.now) (ap (after_args c.loop-kind.args) (sym all) ∙ c.loop-kind.invariant) c.requires
