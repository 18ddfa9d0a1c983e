-- The step of a generated script that was drawn, and its line.
use Rattle.std.proofs.Common.{◌≡◌, ℕ, ◌≤◌, ◌==◌, Bool, true, false, refl, sym, ap, ◌∙◌, subst, arith}
use Rattle.std.specs.Prelude.{codes, if◌then◌else◌}
use Rattle.std.proofs.lemmas.Bool.Decides.{nat_tests}
use Rattle.play_outside.specs.SinkState.{SinkState}
use Rattle.play_outside.specs.Sink.{Sends}
use Rattle.play_outside.specs.declared.sink.Sent.{Sent}
use Rattle.history_model.specs.scripts.Generator as script
use Rattle.history_model.specs.scripts.Generator.{Made, made_commit, made_fill, made_for, made_in, made_load, made_opacity, made_play, made_query, made_swap, step_drawn}
use Rattle.made_script.specs.declared.generator.DrawnStep.{DrawnStep}
use Rattle.made_script.specs.inner.Generator.{step_in}

-- the line of a step of this kind
abbrev pub of_kind : ℕ → script.Step → Made
of_kind kind step =
    if kind == 0 then record { text = codes "T"; state = step.state }
    else if kind == 1 then made_play step
    else if kind == 2 then made_opacity step
    else if kind == 3 then made_fill step
    else if kind == 4 then made_commit step
    else if kind == 5 then made_swap step
    else if kind == 6 then made_load step
    else made_query step

-- the line of the step that was drawn
pub line_drawn : (kind : ℕ) (step : DrawnStep) (state before : ℕ) → step_in step state ≡ step_drawn before → step.kind ≡ kind
    → made_in before ≡ of_kind kind (step_in step state)
unfolding made_in
line_drawn kind step state before drawn is = ap made_for (sym drawn) ∙ ap (λ (k : ℕ). of_kind k (step_in step state)) is

-- a step of the last kind is a query
query_kind : (step : script.Step) (b0 b1 b2 b3 b4 b5 b6 : Bool) → b0 ≡ false → b1 ≡ false → b2 ≡ false → b3 ≡ false → b4 ≡ false → b5 ≡ false → b6 ≡ false
    → (if b0 then record { text = codes "T"; state = step.state }
    else if b1 then made_play step
    else if b2 then made_opacity step
    else if b3 then made_fill step
    else if b4 then made_commit step
    else if b5 then made_swap step
    else if b6 then made_load step
    else made_query step) ≡ made_query step
query_kind step true b1 b2 b3 b4 b5 b6 e0 e1 e2 e3 e4 e5 e6 = cc
query_kind step false true b2 b3 b4 b5 b6 e0 e1 e2 e3 e4 e5 e6 = cc
query_kind step false false true b3 b4 b5 b6 e0 e1 e2 e3 e4 e5 e6 = cc
query_kind step false false false true b4 b5 b6 e0 e1 e2 e3 e4 e5 e6 = cc
query_kind step false false false false true b5 b6 e0 e1 e2 e3 e4 e5 e6 = cc
query_kind step false false false false false true b6 e0 e1 e2 e3 e4 e5 e6 = cc
query_kind step false false false false false false true e0 e1 e2 e3 e4 e5 e6 = cc
query_kind step false false false false false false false e0 e1 e2 e3 e4 e5 e6 = refl

other : (kind less : ℕ) → 7 ≤ kind → less ≤ 6 → (kind == less) ≡ false
other kind less high low = grind (arith, nat_tests, high, low)

pub query_drawn : (step : DrawnStep) (state before : ℕ) → step_in step state ≡ step_drawn before → 7 ≤ step.kind
    → made_in before ≡ made_query (step_in step state)
unfolding made_in
query_drawn step state before drawn high =
    let no : (less : ℕ) → less ≤ 6 → (step.kind == less) ≡ false = λ less low. other step.kind less high low in
    ap made_for (sym drawn)
    ∙ query_kind (step_in step state) _ _ _ _ _ _ _ (no 0 (omega arith)) (no 1 (omega arith)) (no 2 (omega arith)) (no 3 (omega arith)) (no 4 (omega arith))
    (no 5 (omega arith)) (no 6 (omega arith))

-- an equal line was written
pub sends_line : (sent : Sent) (one other : Made) (before after : SinkState) → other ≡ one → Sends sent one.text before after → Sends sent other.text before after
sends_line sent one other before after is sends = subst (λ (made : Made). Sends sent made.text before after) (sym is) sends
