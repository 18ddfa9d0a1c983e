-- Ticks change neither which places are live nor where their contents came from.
use Rattle.std.proofs.Common.{◌≡◌, ℕ, ◌-◌, ◌<◌, ◌≤◌, ◌||◌, List, [], ◌∷◌, ◌++◌, refl, sym, ap, ◌∙◌, ◌⊎◌, inl, inr, is_some}
use Rattle.std.proofs.Math.Bool.{or-true}
use Rattle.std.proofs.lemmas.Bool.{cases_lt}
use Rattle.std.proofs.lemmas.List.{reverse-append}
use Rattle.std.specs.Prelude.{Option, Some, None, option_map, filter}
use Rattle.play_types.specs.Place.{PlaceView}
use Rattle.play_types.specs.Take.{TakeView}
use Rattle.play_types.specs.declared.event.Event.{Event}
use Rattle.play_types.specs.declared.event.Event.TheVariants.{Tick}
use Rattle.history_model.specs.stage.Act.{Act}
use Rattle.history_model.specs.stage.Trail.{trail}
use Rattle.history_model.specs.stage.Life.{Foreground, Life, shown_for, run_for, start_of, delay, delay_of, after, effect, life}
use Rattle.history_model.specs.stage.Live.{is_live, live_layers, layers}
use Rattle.history_model.specs.stage.Acts.{acts, acts_back}
use Rattle.history_model.proofs.Lives.{after-none, after-early, after-late}

-- ticks do not change whether there is a foreground
some_run : (foreground : Option Foreground) (k : ℕ) → is_some (option_map (shown_for k) foreground) ≡ is_some foreground
some_run None k = refl
some_run (Some f) k = refl

is_live-run_for : (s : Life) (k : ℕ) → is_live (run_for k s) ≡ is_live s
is_live-run_for s k = ap (λ b. b || is_some s.background) (some_run s.foreground k)

-- a place with a delay has a background, and a foreground once that has started
is_live-start_of : (background : Option TakeView) (foreground ran : Option Foreground) (a k : ℕ) → delay_of background foreground ≡ Some a →
    is_live (run_for k (start_of background (record { foreground = ran; background = background }))) ≡ is_live (record { foreground = foreground; background = background })
is_live-start_of None foreground ran a k e = cc
is_live-start_of (Some take) foreground ran a k e = sym (or-true (is_some foreground))

after_some : (s : Life) (k a : ℕ) → delay s ≡ Some a → (a < k) ⊎ (k ≤ a) → is_live (after s k) ≡ is_live s
after_some s k a e (inl past) =
    ap is_live (after-late s a k e past) ∙ is_live-start_of s.background s.foreground (run_for a s).foreground a (k - a) e
after_some s k a e (inr early) = ap is_live (after-early s a k e early) ∙ is_live-run_for s k

after_by : (s : Life) (k : ℕ) (wait : Option ℕ) → delay s ≡ wait → is_live (after s k) ≡ is_live s
after_by s k None e = ap is_live (after-none s k e) ∙ is_live-run_for s k
after_by s k (Some a) e = after_some s k a e (cases_lt a k)

-- ticks do not change whether a place is live
pub is_live-after : (s : Life) (k : ℕ) → is_live (after s k) ≡ is_live s
is_live-after s k = after_by s k (delay s) refl

pub is_live-life : (acts : List Act) (t u : ℕ) → is_live (life acts t) ≡ is_live (life acts u)
is_live-life [] t u = refl
is_live-life (act ∷ before) t u =
    is_live-after (effect act.cmd (life before act.ticks)) (t - act.ticks)
    ∙ sym (is_live-after (effect act.cmd (life before act.ticks)) (u - act.ticks))

pub live_layers-ticks : (acts : List Act) (t u channel : ℕ) → live_layers acts t channel ≡ live_layers acts u channel
live_layers-ticks acts t u channel =
    λ i. filter (λ layer. is_live-life (trail acts (record { channel = channel; layer = layer })) t u i) (layers acts)

-- a tick gives no acts
pub acts-tick : (history : List Event) → acts (history ++ Tick ∷ []) ≡ acts history
unfolding acts
acts-tick history = ap acts_back (reverse-append history (Tick ∷ []))

-- a tick changes no trail
pub trail-tick : (history : List Event) (place : PlaceView) → trail (acts (history ++ Tick ∷ [])) place ≡ trail (acts history) place
trail-tick history place = ap (λ past. trail past place) (acts-tick history)
