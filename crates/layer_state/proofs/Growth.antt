-- For how many ticks a foreground was shown.
use Rattle.std.proofs.Common.{◌≡◌, ℕ, ◌+◌, ◌-◌, ◌<◌, ◌≤◌, Bool, true, false, List, [], ◌∷◌, refl, sym, subst, arith, nat_lt, if◌then◌else◌}
use Rattle.std.proofs.lemmas.Bool.{ltb-true}
use Rattle.std.specs.Prelude.{Option, Some, None, option_map}
use Rattle.std.specs.Option.{ForSome}
use Rattle.play_types.specs.Take.{TakeView}
use Rattle.play_types.specs.declared.command.Cmd.{Cmd}
use Rattle.play_types.specs.declared.command.Cmd.TheVariants.{Load, LoadBg, Play, PlayTake, Pause, Resume, StopLayer, ClearLayer, ClearChannel, SwapLayers, SwapChannels, Set, CommitMixer, ResetLayer, ResetChannel, AddFile, RemoveFile, Value, Info}
use Rattle.history_model.specs.stage.Act.{Act}
use Rattle.history_model.specs.stage.Life.{Foreground, Life, Outgoing, after, after_delay, after_play, delay, effect, life, run_for, shown_for, start, start_of, with_mark}
use Rattle.layer_state.specs.Past.{IsPast, Represents}

-- a foreground was shown for at most `t` ticks, if there is one
AtMost : ℕ → Option Foreground → Type 0
AtMost t None = Unit {0}
AtMost t (Some foreground) = foreground.shown ≤ t

-- a pause changes no number of ticks
marked : (paused : Bool) (foreground : Option Foreground) (t : ℕ) → AtMost t foreground → AtMost t (option_map (with_mark paused) foreground)
unfolding AtMost
marked paused None t few = tt
marked paused (Some foreground) t few = few

-- a start begins anew
started : (background : Option TakeView) (s : Life) (t : ℕ) → AtMost t s.foreground → AtMost t (start_of background s).foreground
unfolding AtMost
started None s t few = few
started (Some take) s t few = omega arith

played : (background : Option TakeView) (s : Life) (t : ℕ) → AtMost t s.foreground → AtMost t (after_play background s).foreground
played None s t few = marked false s.foreground t few
played (Some take) s t few = started s.background s t few

-- a command adds no tick
effect-few : (cmd : Cmd) (s : Life) (t : ℕ) → AtMost t s.foreground → AtMost t (effect cmd s).foreground
unfolding AtMost
effect-few (Load at take) s t few = omega arith
effect-few (LoadBg at take) s t few = few
effect-few (Play at) s t few = played s.background s t few
effect-few (PlayTake at take) s t few = omega arith
effect-few (Pause at) s t few = marked true s.foreground t few
effect-few (Resume at) s t few = marked false s.foreground t few
effect-few (StopLayer at) s t few = tt
effect-few (ClearLayer at) s t few = tt
effect-few (ClearChannel channel) s t few = tt
effect-few (SwapLayers a b transforms) s t few = few
effect-few (SwapChannels a b transforms) s t few = few
effect-few (Set setting) s t few = few
effect-few (CommitMixer channel) s t few = few
effect-few (ResetLayer at) s t few = few
effect-few (ResetChannel channel) s t few = few
effect-few (AddFile marked name) s t few = few
effect-few (RemoveFile marked) s t few = few
effect-few (Value at prop) s t few = few
effect-few Info s t few = few

-- `n` ticks add at most `n`
shown_for-few : (take : TakeView) (shown : ℕ) (paused : Bool) (old : Option Outgoing) (t n : ℕ) → shown ≤ t →
    (shown_for n (record { take = take; shown = shown; paused = paused; old = old })).shown ≤ t + n
shown_for-few take shown true old t n few = omega (arith, few)
shown_for-few take shown false old t n few = omega (arith, few)

run_for-few : (foreground : Option Foreground) (t n : ℕ) → AtMost t foreground → AtMost (t + n) (option_map (shown_for n) foreground)
unfolding AtMost
run_for-few None t n few = tt
run_for-few (Some f) t n few = shown_for-few f.take f.shown f.paused f.old t n few

few_more : (foreground : Option Foreground) (t u : ℕ) → t ≤ u → AtMost t foreground → AtMost u foreground
unfolding AtMost
few_more None t u within few = tt
few_more (Some f) t u within few = omega (arith, few)

-- past an automatic start the ticks that are left are added to none, and those before it were not more
after_start-few : (s : Life) (wait t n : ℕ) → wait < n → AtMost t s.foreground →
    AtMost (t + n) (run_for (n - wait) (start (run_for wait s))).foreground
after_start-few s wait t n late few =
    let ran : AtMost (t + wait) (run_for wait s).foreground = run_for-few s.foreground t wait few in
    let begun : AtMost (t + wait) (start (run_for wait s)).foreground = started s.background (run_for wait s) (t + wait) ran in
    let within : (t + wait) + (n - wait) ≤ t + n = omega (arith, late) in
    few_more (run_for (n - wait) (start (run_for wait s))).foreground ((t + wait) + (n - wait)) (t + n) within
    (run_for-few (start (run_for wait s)).foreground (t + wait) (n - wait) begun)

after_by-few : (late : Bool) (s : Life) (wait t n : ℕ) → (late ≡ true → wait < n) → AtMost t s.foreground →
    AtMost (t + n) (if late then run_for (n - wait) (start (run_for wait s)) else run_for n s).foreground
after_by-few true s wait t n reached few = after_start-few s wait t n (reached refl) few
after_by-few false s wait t n reached few = run_for-few s.foreground t n few

after_delay-few : (wait : Option ℕ) (s : Life) (t n : ℕ) → AtMost t s.foreground → AtMost (t + n) (after_delay wait s n).foreground
after_delay-few None s t n few = run_for-few s.foreground t n few
after_delay-few (Some wait) s t n few = after_by-few (nat_lt wait n) s wait t n (ltb-true wait n) few

life-few : (acts : List Act) (t : ℕ) → IsPast acts t → AtMost t (life acts t).foreground
unfolding AtMost
life-few [] t past = tt
life-few (act ∷ before) t past =
    let taken : Life = effect act.cmd (life before act.ticks) in
    let few : AtMost act.ticks taken.foreground =
    effect-few act.cmd (life before act.ticks) act.ticks (life-few before act.ticks past.1) in
    let whole : act.ticks + (t - act.ticks) ≡ t = omega (arith, past.0) in
    subst (λ (n : ℕ). AtMost n (after taken (t - act.ticks)).foreground) whole
    (after_delay-few (delay taken) taken act.ticks (t - act.ticks) few)

few_for_some : (foreground : Option Foreground) (t : ℕ) → AtMost t foreground → ForSome foreground (λ f. f.shown ≤ t)
unfolding AtMost
few_for_some None t few x e = absurd (cc)
few_for_some (Some f) t few x e = let same : f ≡ x = cc in subst (λ (g : Foreground). g.shown ≤ t) same few

pub shown-few : (layer : Life) (acts : List Act) (t : ℕ) → Represents layer acts t → ForSome layer.foreground (λ f. f.shown ≤ t)
shown-few layer acts t represents =
    few_for_some layer.foreground t
    (subst (λ (s : Life). AtMost t s.foreground) (sym represents.state) (life-few acts t represents.past))
