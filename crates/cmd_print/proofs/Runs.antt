-- The text of a history is that of its runs, one after another.
use Rattle.std.proofs.Common.{◌≡◌, ℕ, ◌+◌, zero, suc, List, [], ◌∷◌, ◌++◌, replicate, refl, sym, ap, ◌∙◌, subst, arith, append-nil}
use Rattle.play_types.specs.Media.{MediaNameView}
use Rattle.play_types.specs.declared.event.Event.{Event}
use Rattle.play_types.specs.declared.event.Event.TheVariants.{Do, Batch, Tick, Stop}
use Rattle.history_model.specs.text.History.{tick_lines, text_after, history_text, IsRun, BeginWithoutTick, FollowRun}
use Rattle.cmd_print.proofs.Ticks.{history_of_ticks, history_of_command, history_of_batch, history_of_stop}

-- ticks that others follow
ticks_before : (media : List MediaNameView) (count times : ℕ) (rest : List Event) → text_after media count (replicate times Tick ++ rest) ≡ text_after media (count + times) rest
ticks_before media count zero rest =
    let e : count + zero ≡ count = omega arith in
    rw e refl
ticks_before media count (suc times) rest =
    let e : count + suc times ≡ (count + 1) + times = omega arith in
    rw e (ticks_before media (count + 1) times rest)

after_ticks : (media : List MediaNameView) (count : ℕ) (rest : List Event) → BeginWithoutTick rest → text_after media count rest ≡ tick_lines count ++ text_after media 0 rest
unfolding tick_lines
after_ticks media count [] begins = sym (append-nil (tick_lines count))
after_ticks media count (Do tag cmd ∷ events) begins = refl
after_ticks media count (Batch tag cmds ∷ events) begins = refl
after_ticks media count (Tick ∷ events) begins = absurd begins
after_ticks media count (Stop tag ∷ events) begins = refl

abbrev IsParted : List MediaNameView → Event → List Event → ℕ → Type 0
IsParted media event rest times = history_text media (replicate times event ++ rest) ≡ history_text media (replicate times event) ++ history_text media rest

run_of_ticks : (media : List MediaNameView) (times : ℕ) (rest : List Event) → BeginWithoutTick rest → IsParted media Tick rest times
unfolding history_text
run_of_ticks media times rest begins =
    let e : 0 + times ≡ times = omega arith in
    ticks_before media 0 times rest ∙ ap (λ count. text_after media count rest) e ∙ after_ticks media times rest begins
    ∙ ap (λ text. text ++ text_after media 0 rest) (sym (history_of_ticks media times))

run_of_one : (media : List MediaNameView) (event : Event) (times : ℕ) (rest : List Event) → times ≡ 1 → IsParted media event rest 1 → IsParted media event rest times
run_of_one media event times rest once parted = subst (IsParted media event rest) (sym once) parted

-- the text of a run, and that of what follows it
pub text_of_run : (media : List MediaNameView) (event : Event) (times : ℕ) (rest : List Event) → IsRun event times → FollowRun event rest
    → history_text media (replicate times event ++ rest) ≡ history_text media (replicate times event) ++ history_text media rest
unfolding history_text tick_lines
text_of_run media (Do tag cmd) times rest run follow =
    run_of_one media (Do tag cmd) times rest run (ap (λ text. text ++ history_text media rest) (sym (history_of_command media tag cmd)))
text_of_run media (Batch tag cmds) times rest run follow =
    run_of_one media (Batch tag cmds) times rest run (ap (λ text. text ++ history_text media rest) (sym (history_of_batch media tag cmds)))
text_of_run media Tick times rest run follow = run_of_ticks media times rest follow
text_of_run media (Stop tag) times rest run follow =
    run_of_one media (Stop tag) times rest run (ap (λ text. text ++ history_text media rest) (sym (history_of_stop media tag)))
