-- The lines of a generated script, played step by step.
use Rattle.std.proofs.Common.{◌≡◌, ℕ, zero, suc, ◌+◌, ◌-◌, ◌<◌, List, [], ◌∷◌, ◌++◌, refl, sym, ap, ◌∙◌, subst, arith, append_assoc, add-one, zero-add}
use Rattle.std.proofs.Math.Nat.{suc-add}
use Rattle.std.specs.Prelude.{Some, None, Result, Ok, Err, codes}
use Rattle.play_outside.specs.SinkState.{SinkState, after_taking}
use Rattle.history_model.specs.scripts.Generator.{generated_lines, generated_run, made_in, step_lines}
use Rattle.history_model.specs.scripts.Memory.{AreLines}
use Rattle.history_model.proofs.Generated.{IsMadeLine, generated-lines, made_line}
use Rattle.server_setup.specs.declared.fault.RunFault.{RunFault}
use Rattle.made_script.specs.Generating.{Generates}
use Rattle.script_player.specs.Script.{meanings}
use Rattle.script_player.specs.declared.ending.Halt.{Halt}
use Rattle.script_player.specs.declared.ending.Halt.TheVariants as halt
use Rattle.made_script.specs.declared.made_run.MadeRun.{MadeRun}
use Rattle.made_script.specs.inner.Made.{EndsMade, HasMade, HasPlayed, PlaysAll, TakesLine, in_memory}
use Rattle.vec_sink.proofs.Taken.{text_taken}
use Rattle.made_script.proofs.Making.{all_made}

-- the state after some steps
pub step_state : ℕ → ℕ → ℕ
step_state zero state = state
step_state (suc steps) state = step_state steps (made_in state).state

step_lines-snoc : (steps state : ℕ) → step_lines (suc steps) state ≡ step_lines steps state ++ (made_in (step_state steps state)).text ∷ []
unfolding step_lines step_state
step_lines-snoc zero state = refl
step_lines-snoc (suc steps) state = ap (λ l. (made_in state).text ∷ l) (step_lines-snoc steps (made_in state).state)

step_state-snoc : (steps state : ℕ) → step_state (suc steps) state ≡ (made_in (step_state steps state)).state
unfolding step_state
step_state-snoc zero state = refl
step_state-snoc (suc steps) state = step_state-snoc steps (made_in state).state

-- the script before its first step
pub no_steps : (seed state : ℕ) (run : MadeRun) → HasMade [] run → state ≡ seed → HasMade (step_lines 0 seed) run × (state ≡ step_state 0 seed)
unfolding step_lines step_state
no_steps seed state run made is = (made, is)

-- the line of a step that a sink took
pub step_taken : (seed at state : ℕ) (before after : SinkState) (taken : List ℕ) → state ≡ step_state at seed → before.taken ≡ Some [] → after.taken ≡ Some taken
    → after ≡ after_taking before (made_in state).text → taken ≡ (made_in (step_state at seed)).text
step_taken seed at state before after taken is none some sent =
    text_taken before after taken (made_in state).text none some sent ∙ ap (λ s. (made_in s).text) is

-- the line is valid in a generated script
pub step_line : (line : List ℕ) (seed at : ℕ) → line ≡ (made_in (step_state at seed)).text → IsMadeLine line
step_line line seed at is = subst IsMadeLine (sym is) (made_line (step_state at seed))

-- one step more was played
pub step_made : (line : List ℕ) (seed at next state : ℕ) (run : MadeRun) → next ≡ at + 1 → line ≡ (made_in (step_state at seed)).text
    → HasMade (step_lines at seed ++ line ∷ []) run → HasMade (step_lines next seed) run
step_made line seed at next state run after is made =
    subst (λ lines. HasMade lines run)
    (ap (λ text. step_lines at seed ++ text ∷ []) is ∙ sym (step_lines-snoc at seed) ∙ ap (λ n. step_lines n seed) (sym (add-one at) ∙ sym after)) made

pub step_drawn_on : (seed at next old new : ℕ) → next ≡ at + 1 → old ≡ step_state at seed → new ≡ (made_in old).state → new ≡ step_state next seed
step_drawn_on seed at next old new after is drawn =
    drawn ∙ ap (λ s. (made_in s).state) is ∙ sym (step_state-snoc at seed) ∙ ap (λ n. step_state n seed) (sym (add-one at) ∙ sym after)

-- some steps and then others
step_lines-more : (some more state : ℕ) → step_lines (some + more) state ≡ step_lines some state ++ step_lines more (step_state some state)
unfolding step_lines step_state
step_lines-more zero more state = ap (λ n. step_lines n state) (zero-add more)
step_lines-more (suc some) more state =
    ap (λ n. step_lines n state) (suc-add some more) ∙ ap (λ l. (made_in state).text ∷ l) (step_lines-more some more (made_in state).state)

-- the lines after that of a step
lines_after : ℕ → ℕ → ℕ → List (List ℕ)
lines_after seed steps at = step_lines (steps - suc at) (made_in (step_state at seed)).state ++ codes "T" ∷ []

whole_script : (seed steps at : ℕ) → at < steps
    → step_lines at seed ++ (made_in (step_state at seed)).text ∷ lines_after seed steps at ≡ generated_lines seed steps
unfolding step_lines generated_lines lines_after
whole_script seed steps at before =
    let left = steps - suc at in
    let all : at + suc left ≡ steps = omega (arith, before) in
    sym (append_assoc (step_lines at seed) (step_lines (suc left) (step_state at seed)) (codes "T" ∷ []))
    ∙ ap (λ lines. lines ++ codes "T" ∷ []) (sym (step_lines-more at (suc left) seed))
    ∙ ap (λ n. step_lines n seed ++ codes "T" ∷ []) all

-- a run that ends at the line of a step
pub ends_at_step : (line : List ℕ) (seed steps at : ℕ) (reason : Halt) (run : MadeRun) → at < steps → line ≡ (made_in (step_state at seed)).text
    → TakesLine (step_lines at seed) line (Err reason) run → PlaysAll (generated_lines seed steps) (Err reason) run
ends_at_step line seed steps at halt.Stop run before is takes =
    let whole = ap (λ text. step_lines at seed ++ text ∷ lines_after seed steps at) is ∙ whole_script seed steps at before in
    subst (λ lines. HasPlayed (in_memory lines) run) whole
    (takes (lines_after seed steps at) (subst (λ lines. AreLines (meanings lines)) (sym whole) (generated-lines seed steps)))
ends_at_step line seed steps at halt.Write run before is takes = tt
ends_at_step line seed steps at halt.Memory run before is takes = tt
ends_at_step line seed steps at halt.Rejected run before is takes = absurd takes

-- the last tick
pub last_tick : (line : List ℕ) (seed steps : ℕ) (result : Result (Unit {0}) Halt) (run : MadeRun) → line ≡ codes "T"
    → TakesLine (step_lines steps seed) line result run → PlaysAll (generated_lines seed steps) result run
unfolding generated_lines
last_tick line seed steps (Ok done) run is takes =
    all_made (step_lines steps seed ++ codes "T" ∷ []) run (generated-lines seed steps)
    (subst (λ text. HasMade (step_lines steps seed ++ text ∷ []) run) is takes)
last_tick line seed steps (Err halt.Stop) run is takes =
    subst (λ text. AreLines (meanings (step_lines steps seed ++ text ∷ [])) → HasPlayed (in_memory (step_lines steps seed ++ text ∷ [])) run) is (takes [])
    (generated-lines seed steps)
last_tick line seed steps (Err halt.Write) run is takes = tt
last_tick line seed steps (Err halt.Memory) run is takes = tt
last_tick line seed steps (Err halt.Rejected) run is takes = absurd takes

-- a run that ended well was played to the end of its script
pub well_played : (seed steps : ℕ) (result : Result (Unit {0}) Halt) (run : MadeRun) → EndsMade result None → PlaysAll (generated_lines seed steps) result run
    → HasPlayed (generated_run seed steps) run
unfolding generated_run
well_played seed steps (Ok done) run ends plays = plays
well_played seed steps (Err halt.Stop) run ends plays = plays
well_played seed steps (Err halt.Write) run ends plays = cc
well_played seed steps (Err halt.Memory) run ends plays = cc
well_played seed steps (Err halt.Rejected) run ends plays = absurd plays

-- a run that did not end well was out of memory, and wrote nothing
pub ended_by_memory : (seed steps : ℕ) (result : Result (Unit {0}) Halt) (fault : RunFault) (state : SinkState) → EndsMade result (Some fault)
    → Generates seed steps (Some fault) state state
ended_by_memory seed steps (Ok done) fault state ends = cc
ended_by_memory seed steps (Err halt.Stop) fault state ends = cc
ended_by_memory seed steps (Err halt.Write) fault state ends = subst (λ f. Generates seed steps f state state) (sym ends) refl
ended_by_memory seed steps (Err halt.Memory) fault state ends = subst (λ f. Generates seed steps f state state) (sym ends) refl
ended_by_memory seed steps (Err halt.Rejected) fault state ends = absurd ends
