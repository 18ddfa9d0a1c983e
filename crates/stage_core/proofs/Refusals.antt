-- A live state that shows a stage within its limits refuses what the stage refuses, and shows the stage after what it takes.
use Rattle.std.proofs.Common.{◌≡◌, ℕ, ◌+◌, ◌-◌, ◌≤◌, eqb, eq-eqb, ne_eqb, leb, Bool, true, false, ◌&&◌, inl, inr, List, [], length, get_or, refl, sym, ap, ap₂, ◌∙◌, subst, arith, le-ltb, length-set, if◌then◌else◌}
use Rattle.std.proofs.lemmas.Bool.{cases_Bool, cases_eq, cond-true, cond-false, or_cases, false≢true}
use Rattle.std.proofs.lemmas.List.Edits.{length-swap}
use Rattle.std.proofs.lemmas.List.Elements.{All-from_get_or}
use Rattle.std.proofs.lemmas.List.Folds.{list_any_none, list_any_at}
use Rattle.play_types.specs.ChannelItems.{with_channel_item}
use Rattle.play_types.specs.Scene.{IsConfigured}
use Rattle.play_types.specs.Setting.{SettingView}
use Rattle.play_types.specs.declared.place.TheConstants.{MAX_CHANNELS, MAX_LIVE_LAYERS}
use Rattle.play_types.specs.declared.setting.TheConstants.{MAX_WAITING_SETTINGS}
use Rattle.play_types.specs.declared.command.Cmd.{Cmd}
use Rattle.play_types.specs.declared.command.Cmd.TheVariants.{Load, LoadBg, Play, PlayTake, Pause, Resume, StopLayer, ClearLayer, ClearChannel, SwapLayers, SwapChannels, Set, CommitMixer, ResetLayer, ResetChannel, AddFile, RemoveFile, Value, Info}
use Rattle.history_model.specs.stage.Places.{Places, changed_at, is_over_limit}
use Rattle.history_model.specs.stage.StageState.{IsWithinLimits, StageState, exchanged_channel, is_over_after, is_refused_by, live_after, placed_at, standing_at, state_after, waiting_count_after}
use Rattle.history_model.specs.commands.Channels.{IsServed}
use Rattle.stage_core.specs.LiveState.{LiveView, Channels, ShowsStage, live_with, count_of, is_refused_on, is_some_over, places_of}
use Rattle.stage_core.proofs.LiveStates.{length-with_exchanged, length-with_life, places_after, waiting_after}

-- what a command makes of the places of a channel depends on the configured channels alone
exchanged_channel-configured : (n a b k : ℕ) → IsConfigured n a → IsConfigured n b → IsConfigured n k → IsConfigured n (exchanged_channel a b k)
exchanged_channel-configured n a b k first second c = elim (cases_eq k a) [
  | inl e ↦ subst (IsConfigured n) (sym (cond-true _ b _ (same k a e))) second
  | inr g ↦ subst (IsConfigured n) (sym (cond-false _ b _ (other k a g))) (elim (cases_eq k b) [
    | inl e ↦ subst (IsConfigured n) (sym (cond-true _ a k (same k b e))) first
    | inr h ↦ subst (IsConfigured n) (sym (cond-false _ a k (other k b h))) c
  ])
]
  where
    same : (x y : ℕ) → x ≡ y → eqb x y ≡ true
    same x y e = eq-eqb x y e

    other : (x y : ℕ) → (x ≡ y → ⊥) → eqb x y ≡ false
    other x y e = ne_eqb x y e

module _ (n : ℕ) (f g : ℕ → Places) (same : (k : ℕ) → IsConfigured n k → f k ≡ g k) (k : ℕ) (c : IsConfigured n k) where
  live_after-same : (cmd : Cmd) → IsServed n cmd → live_after cmd f k ≡ live_after cmd g k
  live_after-same (Load at take) h = ap (changed_at at (Load at take) k) (same k c)
  live_after-same (LoadBg at take) h = ap (changed_at at (LoadBg at take) k) (same k c)
  live_after-same (Play at) h = ap (changed_at at (Play at) k) (same k c)
  live_after-same (PlayTake at take) h = ap (changed_at at (PlayTake at take) k) (same k c)
  live_after-same (Pause at) h = ap (changed_at at (Pause at) k) (same k c)
  live_after-same (Resume at) h = ap (changed_at at (Resume at) k) (same k c)
  live_after-same (StopLayer at) h = ap (changed_at at (StopLayer at) k) (same k c)
  live_after-same (ClearLayer at) h = ap (changed_at at (ClearLayer at) k) (same k c)
  live_after-same (ClearChannel cleared) h = ap (λ (ps : Places). live_after (ClearChannel cleared) (λ m. ps) k) (same k c)
  live_after-same (SwapLayers a b transforms) h =
      ap₂ (λ (x y : Places). placed_at b (standing_at (λ m. x) a) k (placed_at a (standing_at (λ m. y) b) k (f k))) (same a.channel h.0) (same b.channel h.1)
      ∙ ap (λ (ps : Places). placed_at b (standing_at g a) k (placed_at a (standing_at g b) k ps)) (same k c)
  live_after-same (SwapChannels a b transforms) h = same (exchanged_channel a b k) (exchanged_channel-configured n a b k h.0 h.1 c)
  live_after-same (Set setting) h = same k c
  live_after-same (CommitMixer committed) h = same k c
  live_after-same (ResetLayer at) h = same k c
  live_after-same (ResetChannel reset) h = same k c
  live_after-same (AddFile marked name) h = same k c
  live_after-same (RemoveFile marked) h = same k c
  live_after-same (Value at prop) h = same k c
  live_after-same Info h = same k c

-- the numbers of channels stay
pub length-places : (cmd : Cmd) (live : LiveView) → length (live_with cmd live).places ≡ length live.places
length-places (Load at take) live = length-with_life live.places at _
length-places (LoadBg at take) live = length-with_life live.places at _
length-places (Play at) live = length-with_life live.places at _
length-places (PlayTake at take) live = length-with_life live.places at _
length-places (Pause at) live = length-with_life live.places at _
length-places (Resume at) live = length-with_life live.places at _
length-places (StopLayer at) live = length-with_life live.places at _
length-places (ClearLayer at) live = length-with_life live.places at _
length-places (ClearChannel cleared) live = length-set live.places (cleared - 1) []
length-places (SwapLayers a b transforms) live = length-with_exchanged live.places a b
length-places (SwapChannels a b transforms) live = length-swap live.places (a - 1) (b - 1)
length-places (Set setting) live = refl
length-places (CommitMixer committed) live = refl
length-places (ResetLayer at) live = refl
length-places (ResetChannel reset) live = refl
length-places (AddFile marked name) live = refl
length-places (RemoveFile marked) live = refl
length-places (Value at prop) live = refl
length-places Info live = refl

setting_length : (setting : SettingView) (deferred : Bool) (waiting : List ℕ) (at count : ℕ) →
    length (if deferred then with_channel_item at count waiting else waiting) ≡ length waiting
setting_length setting true waiting at count = length-set waiting (at - 1) count
setting_length setting false waiting at count = refl

length-waiting : (cmd : Cmd) (live : LiveView) → length (live_with cmd live).waiting ≡ length live.waiting
length-waiting (Load at take) live = refl
length-waiting (LoadBg at take) live = refl
length-waiting (Play at) live = refl
length-waiting (PlayTake at take) live = refl
length-waiting (Pause at) live = refl
length-waiting (Resume at) live = refl
length-waiting (StopLayer at) live = refl
length-waiting (ClearLayer at) live = refl
length-waiting (ClearChannel cleared) live = refl
length-waiting (SwapLayers a b transforms) live = refl
length-waiting (SwapChannels a b transforms) live = refl
length-waiting (Set setting) live =
    setting_length setting setting.deferred live.waiting setting.place.channel (count_of setting.place.channel live.waiting + 1)
length-waiting (CommitMixer committed) live = length-set live.waiting (committed - 1) 0
length-waiting (ResetLayer at) live = refl
length-waiting (ResetChannel reset) live = refl
length-waiting (AddFile marked name) live = refl
length-waiting (RemoveFile marked) live = refl
length-waiting (Value at prop) live = refl
length-waiting Info live = refl

-- a stage, the live state that shows it, and a command
pub record IsTried (n : ℕ) (live : LiveView) (state : StageState) (cmd : Cmd) : Type 0 where
  pub shows : ShowsStage n live state
  pub few_channels : n ≤ MAX_CHANNELS
  pub served : IsServed n cmd
  pub within : is_refused_by cmd state ≡ false → IsWithinLimits (state_after cmd state)

module _ (n : ℕ) (live : LiveView) (state : StageState) (cmd : Cmd) (h : IsTried n live state cmd) where
  served_here : IsServed (length live.places) cmd
  served_here = subst (λ (m : ℕ). IsServed m cmd) (sym h.shows.count) h.served

  -- the places of a channel after the command
  pub places-shown : (k : ℕ) → IsConfigured n k → places_of k (live_with cmd live).places ≡ (state_after cmd state).places k
  places-shown k c =
      places_after live k (subst (λ (m : ℕ). IsConfigured m k) (sym h.shows.count) c) cmd served_here
      ∙ live_after-same n (λ m. places_of m live.places) state.places h.shows.places k c cmd h.served

  -- no channel has too many live places if the stage does not refuse the command
  pub none_over : is_refused_by cmd state ≡ false → is_some_over (live_with cmd live).places ≡ false
  none_over taken =
      let after : Channels = (live_with cmd live).places in
      let count : length after ≡ n = length-places cmd live ∙ h.shows.count in
      list_any_none is_over_limit after (All-from_get_or (λ (ps : Places). is_over_limit ps ≡ false) after [] (λ i within.
      let here : (i + 1) - 1 ≡ i = omega arith in
      let shown : get_or after i [] ≡ (state_after cmd state).places (i + 1) =
      ap (λ (j : ℕ). get_or after j []) (sym here) ∙ places-shown (i + 1) (omega arith, omega (arith, within, count)) in
      let few : length ((state_after cmd state).places (i + 1)) ≤ MAX_LIVE_LAYERS = (h.within taken).places (i + 1) in
      ap is_over_limit shown ∙ le-ltb MAX_LIVE_LAYERS (length ((state_after cmd state).places (i + 1))) few))

  -- a channel that has too many in the stage has them here
  one_over : (k : ℕ) → IsConfigured n k → is_over_limit ((state_after cmd state).places k) ≡ true →
      is_some_over (live_with cmd live).places ≡ true
  one_over k c over =
      let after : Channels = (live_with cmd live).places in
      let count : length after ≡ n = length-places cmd live ∙ h.shows.count in
      list_any_at is_over_limit after (k - 1) [] (omega (arith, c.0, c.1, count)) (ap is_over_limit (places-shown k c) ∙ over)

-- the live state refuses the command if the stage does
refused_true : (cmd : Cmd) (n : ℕ) (live : LiveView) (state : StageState) → IsTried n live state cmd → is_refused_by cmd state ≡ true → is_refused_on cmd live ≡ true
refused_true (Load at take) n live state h e = one_over n live state (Load at take) h at.channel h.served.0 e
refused_true (LoadBg at take) n live state h e = one_over n live state (LoadBg at take) h at.channel h.served.0 e
refused_true (Play at) n live state h e = absurd (false≢true e)
refused_true (PlayTake at take) n live state h e = one_over n live state (PlayTake at take) h at.channel h.served.0 e
refused_true (Pause at) n live state h e = absurd (false≢true e)
refused_true (Resume at) n live state h e = absurd (false≢true e)
refused_true (StopLayer at) n live state h e = absurd (false≢true e)
refused_true (ClearLayer at) n live state h e = absurd (false≢true e)
refused_true (ClearChannel cleared) n live state h e = absurd (false≢true e)
refused_true (SwapLayers a b transforms) n live state h e =
    elim (or_cases (is_over_after (SwapLayers a b transforms) state a.channel) (is_over_after (SwapLayers a b transforms) state b.channel) e) [
      | inl over ↦ one_over n live state (SwapLayers a b transforms) h a.channel h.served.0 over
      | inr over ↦ one_over n live state (SwapLayers a b transforms) h b.channel h.served.1 over
    ]
refused_true (SwapChannels a b transforms) n live state h e = absurd (false≢true e)
refused_true (Set setting) n live state h e =
    ap (λ (count : ℕ). setting.deferred && leb MAX_WAITING_SETTINGS count) (h.shows.waiting setting.place.channel h.served) ∙ e
refused_true (CommitMixer committed) n live state h e = absurd (false≢true e)
refused_true (ResetLayer at) n live state h e = absurd (false≢true e)
refused_true (ResetChannel reset) n live state h e = absurd (false≢true e)
refused_true (AddFile marked name) n live state h e = absurd (false≢true e)
refused_true (RemoveFile marked) n live state h e = absurd (false≢true e)
refused_true (Value at prop) n live state h e = absurd (false≢true e)
refused_true Info n live state h e = absurd (false≢true e)

-- and no other
refused_false : (cmd : Cmd) (n : ℕ) (live : LiveView) (state : StageState) → IsTried n live state cmd → is_refused_by cmd state ≡ false → is_refused_on cmd live ≡ false
refused_false (Load at take) n live state h e = none_over n live state (Load at take) h e
refused_false (LoadBg at take) n live state h e = none_over n live state (LoadBg at take) h e
refused_false (Play at) n live state h e = none_over n live state (Play at) h e
refused_false (PlayTake at take) n live state h e = none_over n live state (PlayTake at take) h e
refused_false (Pause at) n live state h e = none_over n live state (Pause at) h e
refused_false (Resume at) n live state h e = none_over n live state (Resume at) h e
refused_false (StopLayer at) n live state h e = none_over n live state (StopLayer at) h e
refused_false (ClearLayer at) n live state h e = none_over n live state (ClearLayer at) h e
refused_false (ClearChannel cleared) n live state h e = refl
refused_false (SwapLayers a b transforms) n live state h e = none_over n live state (SwapLayers a b transforms) h e
refused_false (SwapChannels a b transforms) n live state h e = refl
refused_false (Set setting) n live state h e =
    ap (λ (count : ℕ). setting.deferred && leb MAX_WAITING_SETTINGS count) (h.shows.waiting setting.place.channel h.served) ∙ e
refused_false (CommitMixer committed) n live state h e = refl
refused_false (ResetLayer at) n live state h e = refl
refused_false (ResetChannel reset) n live state h e = refl
refused_false (AddFile marked name) n live state h e = refl
refused_false (RemoveFile marked) n live state h e = refl
refused_false (Value at prop) n live state h e = refl
refused_false Info n live state h e = refl

pub is_refused-same : (cmd : Cmd) (n : ℕ) (live : LiveView) (state : StageState) → IsTried n live state cmd → is_refused_on cmd live ≡ is_refused_by cmd state
is_refused-same cmd n live state h = elim (cases_Bool (is_refused_by cmd state)) [
  | inl e ↦ refused_true cmd n live state h e ∙ sym e
  | inr e ↦ refused_false cmd n live state h e ∙ sym e
]

-- a command that is not refused is shown
pub ShowsStage-after : (cmd : Cmd) (n : ℕ) (live : LiveView) (state : StageState) → IsTried n live state cmd → is_refused_by cmd state ≡ false →
    ShowsStage n (live_with cmd live) (state_after cmd state)
ShowsStage-after cmd n live state h taken = record {
  count = length-places cmd live ∙ h.shows.count;
  counts = length-waiting cmd live ∙ h.shows.counts;
  few = none_over n live state cmd h taken;
  places = places-shown n live state cmd h;
  waiting = λ k c.
      let all : length live.waiting ≡ MAX_CHANNELS = h.shows.counts in
      waiting_after cmd live n k (omega (arith, h.few_channels, all)) h.served (c.0, omega (arith, c.1, h.few_channels, all))
      ∙ ap (waiting_count_after cmd k) (h.shows.waiting k c);
}
