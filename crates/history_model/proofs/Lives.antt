-- Lives over time: ticks add up, and an automatic start comes at its tick whether ticks pass one by one or at once.
use Rattle.std.proofs.Common.{◌≡◌, ℕ, zero, suc, ◌+◌, ◌-◌, ◌<◌, ◌≤◌, Bool, true, false, ◌&&◌, refl, sym, ap, ◌∙◌, ◌⊎◌, inl, inr, arith, add-zero, add-one, add_assoc, lt-ltb, le-ltb, if◌then◌else◌}
use Rattle.std.proofs.lemmas.Bool.{cases_lt}
use Rattle.std.specs.Prelude.{Option, Some, None, option_map}
use Rattle.play_types.specs.Take.{TakeView}
use Rattle.history_model.specs.stage.Life.{Foreground, Outgoing, Life, shown_for, run_for, start, start_of, delay, delay_of, delay_over, after, after_delay, ready, ready_by, ends}
use Rattle.history_model.specs.stage.Steps.{step, steps}

-- a foreground, from its parts
abbrev foreground_of : TakeView → ℕ → Bool → Option Outgoing → Foreground
foreground_of take shown paused old = record { take = take; shown = shown; paused = paused; old = old }

-- two runs of ticks are one run
shown_for-parts : (take : TakeView) (shown : ℕ) (paused : Bool) (old : Option Outgoing) (j k : ℕ) →
    shown_for k (shown_for j (foreground_of take shown paused old)) ≡ shown_for (j + k) (foreground_of take shown paused old)
shown_for-parts take shown true old j k = refl
shown_for-parts take shown false old j k = ap (λ n. foreground_of take n false old) (add_assoc shown j k)

foregrounds-add : (foreground : Option Foreground) (j k : ℕ) →
    option_map (shown_for k) (option_map (shown_for j) foreground) ≡ option_map (shown_for (j + k)) foreground
foregrounds-add None j k = refl
foregrounds-add (Some f) j k = ap Some (shown_for-parts f.take f.shown f.paused f.old j k)

pub run_for-add : (s : Life) (j k : ℕ) → run_for k (run_for j s) ≡ run_for (j + k) s
run_for-add s j k = ap (λ foreground. record s { foreground = foreground }) (foregrounds-add s.foreground j k)

-- no ticks change nothing
shown_for-none : (take : TakeView) (shown : ℕ) (paused : Bool) (old : Option Outgoing) →
    shown_for 0 (foreground_of take shown paused old) ≡ foreground_of take shown paused old
shown_for-none take shown true old = refl
shown_for-none take shown false old = ap (λ n. foreground_of take n false old) (add-zero shown)

foregrounds-none : (foreground : Option Foreground) → option_map (shown_for 0) foreground ≡ foreground
foregrounds-none None = refl
foregrounds-none (Some f) = ap Some (shown_for-none f.take f.shown f.paused f.old)

pub run_for-none : (s : Life) → run_for 0 s ≡ s
run_for-none s = ap (λ foreground. record s { foreground = foreground }) (foregrounds-none s.foreground)

-- a test that cannot pass gives no delay, and one that passes gives the delay that is left
no_delay : (test : Bool) (x y : Option ℕ) (f : ℕ → ℕ) →
    (if test && false then x else None) ≡ option_map f (if test && false then y else None)
no_delay true x y f = refl
no_delay false x y f = refl

less_delay : (test : Bool) (m n j : ℕ) → m ≡ n - j →
    (if test && true then Some m else None) ≡ option_map (λ a. a - j) (if test && true then Some n else None)
less_delay true m n j e = ap Some e
less_delay false m n j e = refl

under_auto : (auto : Bool) (x y : Option ℕ) (f : ℕ → ℕ) → x ≡ option_map f y →
    (if auto then x else None) ≡ option_map f (if auto then y else None)
under_auto true x y f e = e
under_auto false x y f e = refl

delay_over-parts : (next take : TakeView) (shown : ℕ) (paused : Bool) (old : Option Outgoing) (j : ℕ) →
    delay_over next (Some (shown_for j (foreground_of take shown paused old)))
    ≡ option_map (λ a. a - j) (delay_over next (Some (foreground_of take shown paused old)))
delay_over-parts next take shown true old j =
    no_delay (ends take.spec take.looped) _ _ _
delay_over-parts next take shown false old j =
    less_delay (ends take.spec take.looped) _ _ _ (omega arith)

delay_over-run : (next : TakeView) (foreground : Option Foreground) (j : ℕ) →
    delay_over next (option_map (shown_for j) foreground) ≡ option_map (λ a. a - j) (delay_over next foreground)
delay_over-run next None j = let e : 0 ≡ 0 - j = omega arith in ap Some e
delay_over-run next (Some f) j = delay_over-parts next f.take f.shown f.paused f.old j

delay_of-run : (background : Option TakeView) (foreground : Option Foreground) (j : ℕ) →
    delay_of background (option_map (shown_for j) foreground) ≡ option_map (λ a. a - j) (delay_of background foreground)
delay_of-run None foreground j = refl
delay_of-run (Some next) foreground j = under_auto next.auto _ _ _ (delay_over-run next foreground j)

-- ticks shorten the delay
pub delay-run_for : (s : Life) (j : ℕ) → delay (run_for j s) ≡ option_map (λ a. a - j) (delay s)
delay-run_for s j = delay_of-run s.background s.foreground j

-- what has just started has no delay
delay-start_of : (background : Option TakeView) (foreground : Option Foreground) →
    delay (start_of background (record { foreground = foreground; background = background })) ≡ None
delay-start_of None foreground = refl
delay-start_of (Some take) foreground = refl

pub delay-start : (s : Life) → delay (start s) ≡ None
delay-start s = delay-start_of s.background s.foreground

-- a place without a delay only runs
pub after-none : (s : Life) (k : ℕ) → delay s ≡ None → after s k ≡ run_for k s
after-none s k e = ap (λ wait. after_delay wait s k) e

-- a place runs up to its automatic start, and from then on the new foreground runs
pub after-early : (s : Life) (a k : ℕ) → delay s ≡ Some a → k ≤ a → after s k ≡ run_for k s
after-early s a k e h =
    ap (λ wait. after_delay wait s k) e
    ∙ ap (λ (late : Bool). if late then run_for (k - a) (start (run_for a s)) else run_for k s) (le-ltb a k h)

pub after-late : (s : Life) (a k : ℕ) → delay s ≡ Some a → a < k → after s k ≡ run_for (k - a) (start (run_for a s))
after-late s a k e h =
    ap (λ wait. after_delay wait s k) e
    ∙ ap (λ (late : Bool). if late then run_for (k - a) (start (run_for a s)) else run_for k s) (lt-ltb a k h)

-- no ticks change nothing
after-none_by : (s : Life) (wait : Option ℕ) → delay s ≡ wait → after s 0 ≡ s
after-none_by s None e = after-none s 0 e ∙ run_for-none s
after-none_by s (Some a) e = let h : 0 ≤ a = omega arith in after-early s a 0 e h ∙ run_for-none s

pub after-zero : (s : Life) → after s 0 ≡ s
after-zero s = after-none_by s (delay s) refl

-- past the automatic start the rest is a run
after_past : (s : Life) (j k a : ℕ) → delay s ≡ Some a → a < j → after (after s j) k ≡ after s (j + k)
after_past s j k a e h =
    let begun : Life = start (run_for a s) in
    let here : after s j ≡ run_for (j - a) begun = after-late s a j e h in
    let still : delay (run_for (j - a) begun) ≡ None =
    delay-run_for begun (j - a) ∙ ap (option_map (λ n. n - (j - a))) (delay-start (run_for a s)) in
    let ahead : a < j + k = omega arith in
    let same : (j - a) + k ≡ j + k - a = omega arith in
    ap (λ t. after t k) here ∙ after-none (run_for (j - a) begun) k still ∙ run_for-add begun (j - a) k
    ∙ ap (λ n. run_for n begun) same ∙ sym (after-late s a (j + k) e ahead)

-- before it the place runs, and the delay is what is left
after_before : (s : Life) (j k a : ℕ) → delay s ≡ Some a → j ≤ a → (a - j < k) ⊎ (k ≤ a - j) →
    after (run_for j s) k ≡ after s (j + k)
after_before s j k a e h (inl past) =
    let left : delay (run_for j s) ≡ Some (a - j) = delay-run_for s j ∙ ap (option_map (λ n. n - j)) e in
    let there : run_for (a - j) (run_for j s) ≡ run_for a s =
    run_for-add s j (a - j) ∙ ap (λ n. run_for n s) (let e' : j + (a - j) ≡ a = omega arith in e') in
    let ahead : a < j + k = omega arith in
    let same : k - (a - j) ≡ j + k - a = omega arith in
    after-late (run_for j s) (a - j) k left past
    ∙ ap (λ t. run_for (k - (a - j)) (start t)) there
    ∙ ap (λ n. run_for n (start (run_for a s))) same
    ∙ sym (after-late s a (j + k) e ahead)
after_before s j k a e h (inr early) =
    let left : delay (run_for j s) ≡ Some (a - j) = delay-run_for s j ∙ ap (option_map (λ n. n - j)) e in
    let within : j + k ≤ a = omega arith in
    after-early (run_for j s) (a - j) k left early ∙ run_for-add s j k ∙ sym (after-early s a (j + k) e within)

after_some : (s : Life) (j k a : ℕ) → delay s ≡ Some a → (a < j) ⊎ (j ≤ a) → after (after s j) k ≡ after s (j + k)
after_some s j k a e (inl past) = after_past s j k a e past
after_some s j k a e (inr early) =
    ap (λ t. after t k) (after-early s a j e early) ∙ after_before s j k a e early (cases_lt (a - j) k)

after_by : (s : Life) (j k : ℕ) (wait : Option ℕ) → delay s ≡ wait → after (after s j) k ≡ after s (j + k)
after_by s j k None e =
    let still : delay (run_for j s) ≡ None = delay-run_for s j ∙ ap (option_map (λ n. n - j)) e in
    ap (λ t. after t k) (after-none s j e) ∙ after-none (run_for j s) k still ∙ run_for-add s j k
    ∙ sym (after-none s (j + k) e)
after_by s j k (Some a) e = after_some s j k a e (cases_lt a j)

-- `j` ticks and then `k` ticks are all of them at once
pub after-add : (s : Life) (j k : ℕ) → after (after s j) k ≡ after s (j + k)
after-add s j k = after_by s j k (delay s) refl

-- one tick starts what is due, and then runs
step_by : (s : Life) (wait : Option ℕ) → delay s ≡ wait → step s ≡ after s 1
step_by s None e = ap (λ w. run_for 1 (ready_by w s)) e ∙ sym (after-none s 1 e)
step_by s (Some zero) e =
    let ahead : 0 < 1 = omega arith in
    ap (λ w. run_for 1 (ready_by w s)) e ∙ ap (λ t. run_for 1 (start t)) (sym (run_for-none s))
    ∙ sym (after-late s 0 1 e ahead)
step_by s (Some (suc a)) e =
    let within : 1 ≤ suc a = omega arith in
    ap (λ w. run_for 1 (ready_by w s)) e ∙ sym (after-early s (suc a) 1 e within)

pub step_is_after : (s : Life) → step s ≡ after s 1
step_is_after s = step_by s (delay s) refl

-- ticks one after another are all of them at once
pub steps_are_after : (n : ℕ) (s : Life) → steps n s ≡ after s n
steps_are_after zero s = sym (after-zero s)
steps_are_after (suc n) s =
    ap step (steps_are_after n s) ∙ step_is_after (after s n) ∙ after-add s n 1
    ∙ ap (after s) (add-one n)

-- before an automatic start is due the next tick shows the place unchanged, and when it is due the tick starts it
pub ready_before : (s : Life) (a j : ℕ) → delay s ≡ Some a → j < a → ready (after s j) ≡ after s j
ready_before s a j e h =
    let early : j ≤ a = omega arith in
    let here : after s j ≡ run_for j s = after-early s a j e early in
    let left : delay (run_for j s) ≡ Some (suc (a - j - 1)) =
    delay-run_for s j ∙ ap (option_map (λ n. n - j)) e
    ∙ ap Some (let e' : a - j ≡ suc (a - j - 1) = omega arith in e') in
    ap ready here ∙ ap (λ w. ready_by w (run_for j s)) left ∙ sym here

pub ready_when_due : (s : Life) (a : ℕ) → delay s ≡ Some a → ready (after s a) ≡ start (run_for a s)
ready_when_due s a e =
    let early : a ≤ a = omega arith in
    let left : delay (run_for a s) ≡ Some 0 =
    delay-run_for s a ∙ ap (option_map (λ n. n - a)) e ∙ ap Some (let e' : a - a ≡ 0 = omega arith in e') in
    ap ready (after-early s a a e early) ∙ ap (λ w. ready_by w (run_for a s)) left
