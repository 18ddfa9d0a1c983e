-- Which commands are refused, if each channel is within its limits.
use Rattle.std.proofs.Common.{◌≡◌, ℕ, ◌+◌, ◌≤◌, ◌==◌, eqb, ltb, leb, Bool, true, false, ◌&&◌, ◌||◌, ◌⊎◌, inl, inr, List, [], ◌∷◌, ◌++◌, length, refl, sym, ap, ap₂, ◌∙◌, subst, arith, is_some, eq-eqb, eqb-true, ne_eqb, le-ltb, lt-ltb, ltb-false, if◌then◌else◌}
use Rattle.std.proofs.lemmas.Bool.{false≢true, and_parts, cases_Bool, cases_eq, cond-false, leb-true, leb-false, or_parts, or_right}
use Rattle.std.proofs.lemmas.List.{length-map}
use Rattle.std.specs.Prelude.{Some, None, option_and_then}
use Rattle.std.specs.List.{list_any}
use Rattle.play_types.specs.Place.{PlaceView}
use Rattle.play_types.specs.Setting.{SettingView}
use Rattle.play_types.specs.declared.place.TheConstants.{MAX_LIVE_LAYERS}
use Rattle.play_types.specs.declared.setting.TheConstants.{MAX_WAITING_SETTINGS}
use Rattle.play_types.specs.declared.command.Cmd.{Cmd}
use Rattle.play_types.specs.declared.command.Cmd.TheVariants.{Load, LoadBg, Play, PlayTake, Pause, Resume, StopLayer, ClearLayer, ClearChannel, SwapLayers, SwapChannels, Set, CommitMixer, ResetLayer, ResetChannel, AddFile, RemoveFile, Value, Info}
use Rattle.history_model.specs.stage.Act.{Act, acts_of}
use Rattle.history_model.specs.stage.Acts.{channels, is_over, with_command, with_commands}
use Rattle.history_model.specs.stage.Live.{live_layers, with_number}
use Rattle.history_model.specs.stage.Places.{ArePlaces, Places, changed_at, is_over_limit, live_places, place_at}
use Rattle.history_model.specs.stage.Resolved.{waiting_settings}
use Rattle.history_model.specs.stage.StageState.{IsWithinLimits, StageState, acts_after_all, exchanged_channel, is_over_after, is_refused_by, live_after, some_is_refused, stage_state, state_after, state_after_all, waiting_count_after}
use Rattle.history_model.proofs.places.Layers.{ArePlaces-live, apart_from, is_in, is_in-with_number}
use Rattle.history_model.proofs.places.Limits.{no_longer, no_longer_at, none_passes, one_passes, was_marked, was_played}
use Rattle.history_model.proofs.stage.Changes.{live_after-other, live_places-live_after, stage_state-command}

-- whether a channel is over a limit, by the stage
abbrev is_over_in : StageState → ℕ → Bool
is_over_in state channel = is_over_limit (state.places channel) || ltb MAX_WAITING_SETTINGS (state.waiting channel)

is_over-state : (acts : List Act) (t channel : ℕ) → is_over acts t channel ≡ is_over_in (stage_state acts t) channel
is_over-state acts t channel =
    ap (λ (n : ℕ). ltb MAX_LIVE_LAYERS n || ltb MAX_WAITING_SETTINGS (length (waiting_settings acts channel)))
    (sym (length-map (live_layers acts t channel) (place_at acts t channel)))

-- within the limits no channel is over a limit
none_over : (state : StageState) → IsWithinLimits state → (channel : ℕ) → is_over_in state channel ≡ false
none_over state h channel =
    ap₂ (λ (a b : Bool). a || b) (le-ltb MAX_LIVE_LAYERS (length (state.places channel)) (h.places channel))
    (le-ltb MAX_WAITING_SETTINGS (state.waiting channel) (h.waiting channel))

-- a number that is in a list is in it with one number more
is_in-more : (n m : ℕ) (numbers : List ℕ) → is_in n numbers ≡ true → is_in n (with_number m numbers) ≡ true
is_in-more n m numbers among = elim (cases_Bool (is_in n (with_number m numbers))) [
  | inl e ↦ e
  | inr e ↦ absurd (false≢true (sym (apart_from n m numbers e).1 ∙ among))
]

-- if the named channel has no more live places than it may have and the others stay, no channel has more
few_named : (before : ℕ → Places) (named channel : ℕ) (after : ℕ → Places) → ((k : ℕ) → length (before k) ≤ MAX_LIVE_LAYERS) →
    is_over_limit (after named) ≡ false → ((named ≡ channel → ⊥) → after channel ≡ before channel) → (named ≡ channel) ⊎ (named ≡ channel → ⊥) →
    length (after channel) ≤ MAX_LIVE_LAYERS
few_named before named channel after few kept other (inl e) =
    subst (λ (k : ℕ). length (after k) ≤ MAX_LIVE_LAYERS) e (ltb-false MAX_LIVE_LAYERS (length (after named)) kept)
few_named before named channel after few kept other (inr apart) =
    subst (λ (xs : Places). length xs ≤ MAX_LIVE_LAYERS) (sym (other apart)) (few channel)

few_before : (before : ℕ → Places) (channel : ℕ) (after : Places) → ((k : ℕ) → length (before k) ≤ MAX_LIVE_LAYERS) →
    length after ≤ length (before channel) → length after ≤ MAX_LIVE_LAYERS
few_before before channel after few fewer = let low = few channel in omega (arith, low, fewer)

-- after a command that is not refused each channel has no more live places than it may have
module _ (state : StageState) (each : (channel : ℕ) → ArePlaces (state.places channel)) (h : IsWithinLimits state) where
  few_at : (at : PlaceView) (cmd : Cmd) (channel : ℕ) → is_over_limit (changed_at at cmd at.channel (state.places at.channel)) ≡ false →
      length (changed_at at cmd channel (state.places channel)) ≤ MAX_LIVE_LAYERS
  few_at at cmd channel kept =
      few_named state.places at.channel channel (λ k. changed_at at cmd k (state.places k)) h.places kept
      (λ apart. cond-false (eqb at.channel channel) _ (state.places channel) (ne_eqb at.channel channel apart)) (cases_eq at.channel channel)

  -- of two channels
  few_two : (a b : PlaceView) (transforms : Bool) (channel : ℕ) → is_over_after (SwapLayers a b transforms) state a.channel ≡ false →
      is_over_after (SwapLayers a b transforms) state b.channel ≡ false → (a.channel ≡ channel) ⊎ (a.channel ≡ channel → ⊥) →
      (b.channel ≡ channel) ⊎ (b.channel ≡ channel → ⊥) → length (live_after (SwapLayers a b transforms) state.places channel) ≤ MAX_LIVE_LAYERS
  few_two a b transforms channel kept_a kept_b (inl e) second =
      subst (λ (k : ℕ). length (live_after (SwapLayers a b transforms) state.places k) ≤ MAX_LIVE_LAYERS) e
      (ltb-false MAX_LIVE_LAYERS (length (live_after (SwapLayers a b transforms) state.places a.channel)) kept_a)
  few_two a b transforms channel kept_a kept_b (inr apart) second =
      few_named state.places b.channel channel (live_after (SwapLayers a b transforms) state.places) h.places kept_b
      (λ apart_b.
      live_after-other state.places channel (SwapLayers a b transforms)
      (ap₂ (λ (x y : Bool). x || y) (ne_eqb a.channel channel apart) (ne_eqb b.channel channel apart_b)))
      second

  few_live : (cmd : Cmd) → is_refused_by cmd state ≡ false → (channel : ℕ) → length (live_after cmd state.places channel) ≤ MAX_LIVE_LAYERS
  few_live (Load at take) kept channel = few_at at (Load at take) channel kept
  few_live (LoadBg at take) kept channel = few_at at (LoadBg at take) channel kept
  few_live (Play at) kept channel =
      few_before state.places channel _ h.places
      (no_longer_at at (Play at) channel (state.places channel) (each channel) (λ s live. was_played s.background s refl live))
  few_live (PlayTake at take) kept channel = few_at at (PlayTake at take) channel kept
  few_live (Pause at) kept channel =
      few_before state.places channel _ h.places
      (no_longer_at at (Pause at) channel (state.places channel) (each channel) (λ s live. was_marked true s.foreground (is_some s.background) live))
  few_live (Resume at) kept channel =
      few_before state.places channel _ h.places
      (no_longer_at at (Resume at) channel (state.places channel) (each channel) (λ s live. was_marked false s.foreground (is_some s.background) live))
  few_live (StopLayer at) kept channel =
      few_before state.places channel _ h.places
      (no_longer_at at (StopLayer at) channel (state.places channel) (each channel)
      (λ s live. or_right (is_some s.foreground) (is_some s.background) live))
  few_live (ClearLayer at) kept channel =
      few_before state.places channel _ h.places
      (no_longer_at at (ClearLayer at) channel (state.places channel) (each channel) (λ s live. absurd (false≢true live)))
  few_live (ClearChannel cleared) kept channel =
      few_before state.places channel _ h.places (no_longer (cleared == channel) [] (state.places channel) (omega arith))
  few_live (SwapLayers a b transforms) kept channel =
      let parts = or_parts (is_over_after (SwapLayers a b transforms) state a.channel) (is_over_after (SwapLayers a b transforms) state b.channel) kept in
      few_two a b transforms channel parts.0 parts.1 (cases_eq a.channel channel) (cases_eq b.channel channel)
  few_live (SwapChannels a b transforms) kept channel = h.places (exchanged_channel a b channel)
  few_live (Set setting) kept channel = h.places channel
  few_live (CommitMixer committed) kept channel = h.places channel
  few_live (ResetLayer at) kept channel = h.places channel
  few_live (ResetChannel reset) kept channel = h.places channel
  few_live (AddFile marked name) kept channel = h.places channel
  few_live (RemoveFile marked) kept channel = h.places channel
  few_live (Value at prop) kept channel = h.places channel
  few_live Info kept channel = h.places channel

-- after such a command each channel has no more waiting settings than it may have
one_more_waits : (deferred here : Bool) (named channel : ℕ) (waiting : ℕ → ℕ) → (deferred && leb MAX_WAITING_SETTINGS (waiting named)) ≡ false →
    (here ≡ true → named ≡ channel) → waiting channel ≤ MAX_WAITING_SETTINGS →
    (if deferred && here then 1 + waiting channel else waiting channel) ≤ MAX_WAITING_SETTINGS
one_more_waits true true named channel waiting kept same low =
    let few = leb-false MAX_WAITING_SETTINGS (waiting named) kept in
    let count : waiting named ≡ waiting channel = ap waiting (same refl) in
    omega (arith, few, count)
one_more_waits true false named channel waiting kept same low = low
one_more_waits false here named channel waiting kept same low = low

none_waits : (committed : Bool) (n : ℕ) → n ≤ MAX_WAITING_SETTINGS → (if committed then 0 else n) ≤ MAX_WAITING_SETTINGS
none_waits true n low = omega arith
none_waits false n low = low

few_waiting : (state : StageState) → IsWithinLimits state → (cmd : Cmd) → is_refused_by cmd state ≡ false → (channel : ℕ) →
    waiting_count_after cmd channel (state.waiting channel) ≤ MAX_WAITING_SETTINGS
few_waiting state h (Load at take) kept channel = h.waiting channel
few_waiting state h (LoadBg at take) kept channel = h.waiting channel
few_waiting state h (Play at) kept channel = h.waiting channel
few_waiting state h (PlayTake at take) kept channel = h.waiting channel
few_waiting state h (Pause at) kept channel = h.waiting channel
few_waiting state h (Resume at) kept channel = h.waiting channel
few_waiting state h (StopLayer at) kept channel = h.waiting channel
few_waiting state h (ClearLayer at) kept channel = h.waiting channel
few_waiting state h (ClearChannel cleared) kept channel = h.waiting channel
few_waiting state h (SwapLayers a b transforms) kept channel = h.waiting channel
few_waiting state h (SwapChannels a b transforms) kept channel = h.waiting channel
few_waiting state h (Set setting) kept channel =
    one_more_waits setting.deferred (eqb setting.place.channel channel) setting.place.channel channel state.waiting kept
    (eqb-true setting.place.channel channel) (h.waiting channel)
few_waiting state h (CommitMixer committed) kept channel = none_waits (eqb committed channel) (state.waiting channel) (h.waiting channel)
few_waiting state h (ResetLayer at) kept channel = h.waiting channel
few_waiting state h (ResetChannel reset) kept channel = h.waiting channel
few_waiting state h (AddFile marked name) kept channel = h.waiting channel
few_waiting state h (RemoveFile marked) kept channel = h.waiting channel
few_waiting state h (Value at prop) kept channel = h.waiting channel
few_waiting state h Info kept channel = h.waiting channel

-- a command that is not refused leaves each channel within its limits
pub IsWithinLimits-command : (acts : List Act) (t : ℕ) (cmd : Cmd) → IsWithinLimits (stage_state acts t) →
    is_refused_by cmd (stage_state acts t) ≡ false → IsWithinLimits (state_after cmd (stage_state acts t))
IsWithinLimits-command acts t cmd h kept = record {
  places = few_live (stage_state acts t) (ArePlaces-live acts t) h cmd kept;
  waiting = few_waiting (stage_state acts t) h cmd kept;
}

pub IsWithinLimits-more : (acts : List Act) (t : ℕ) (cmd : Cmd) → IsWithinLimits (stage_state acts t) →
    is_refused_by cmd (stage_state acts t) ≡ false → IsWithinLimits (stage_state (acts_of t cmd ++ acts) t)
IsWithinLimits-more acts t cmd h kept = subst IsWithinLimits (sym (stage_state-command acts t cmd)) (IsWithinLimits-command acts t cmd h kept)

-- after a command that is refused some channel would be over a limit
too_many : (more : List Act) (t named : ℕ) → is_in named (channels more) ≡ true → is_over_limit (live_places more t named) ≡ true →
    list_any (is_over more t) (channels more) ≡ true
too_many more t named among many =
    one_passes (is_over more t) (channels more) named among
    (is_over-state more t named ∙ ap (λ (b : Bool). b || ltb MAX_WAITING_SETTINGS (length (waiting_settings more named))) many)

module _ (acts : List Act) (t : ℕ) where
  over_live : (cmd : Cmd) (named : ℕ) → is_in named (channels (acts_of t cmd ++ acts)) ≡ true →
      is_over_after cmd (stage_state acts t) named ≡ true → list_any (is_over (acts_of t cmd ++ acts) t) (channels (acts_of t cmd ++ acts)) ≡ true
  over_live cmd named among many =
      too_many (acts_of t cmd ++ acts) t named among (ap is_over_limit (live_places-live_after acts t cmd named) ∙ many)

  -- of two channels
  over_two : (a b : PlaceView) (transforms first second : Bool) → is_over_after (SwapLayers a b transforms) (stage_state acts t) a.channel ≡ first →
      is_over_after (SwapLayers a b transforms) (stage_state acts t) b.channel ≡ second → (first || second) ≡ true →
      list_any (is_over (acts_of t (SwapLayers a b transforms) ++ acts) t) (channels (acts_of t (SwapLayers a b transforms) ++ acts)) ≡ true
  over_two a b transforms true second e e' over =
      over_live (SwapLayers a b transforms) a.channel (is_in-with_number a.channel (with_number b.channel (channels acts))) e
  over_two a b transforms false true e e' over =
      over_live (SwapLayers a b transforms) b.channel
      (is_in-more b.channel a.channel (with_number b.channel (channels acts)) (is_in-with_number b.channel (channels acts))) e'
  over_two a b transforms false false e e' over = absurd (false≢true over)

  -- one setting too many
  full_channel : (named n : ℕ) (deferred here : Bool) → deferred ≡ true → here ≡ true → leb MAX_WAITING_SETTINGS n ≡ true →
      ltb MAX_WAITING_SETTINGS (if deferred && here then 1 + n else n) ≡ true
  full_channel named n true true e e' full =
      let many = leb-true MAX_WAITING_SETTINGS n full in lt-ltb MAX_WAITING_SETTINGS (1 + n) (omega (arith, many))
  full_channel named n true false e e' full = absurd (false≢true e')
  full_channel named n false here e e' full = absurd (false≢true e)

  over_waiting : (setting : SettingView) → is_refused_by (Set setting) (stage_state acts t) ≡ true →
      list_any (is_over (acts_of t (Set setting) ++ acts) t) (channels (acts_of t (Set setting) ++ acts)) ≡ true
  over_waiting setting refused =
      let more : List Act = acts_of t (Set setting) ++ acts in
      let named : ℕ = setting.place.channel in
      let parts = and_parts setting.deferred (leb MAX_WAITING_SETTINGS (length (waiting_settings acts named))) refused in
      let many : ltb MAX_WAITING_SETTINGS ((stage_state more t).waiting named) ≡ true =
      ap (λ (s : StageState). ltb MAX_WAITING_SETTINGS (s.waiting named)) (stage_state-command acts t (Set setting))
      ∙ full_channel named (length (waiting_settings acts named)) setting.deferred (eqb named named) parts.0 (eq-eqb named named refl) parts.1 in
      one_passes (is_over more t) (channels more) named (is_in-with_number named (channels acts))
      (is_over-state more t named ∙ or_right (is_over_limit (live_places more t named)) _ many)

  some_over : (cmd : Cmd) → is_refused_by cmd (stage_state acts t) ≡ true →
      list_any (is_over (acts_of t cmd ++ acts) t) (channels (acts_of t cmd ++ acts)) ≡ true
  some_over (Load at take) refused = over_live (Load at take) at.channel (is_in-with_number at.channel (channels acts)) refused
  some_over (LoadBg at take) refused = over_live (LoadBg at take) at.channel (is_in-with_number at.channel (channels acts)) refused
  some_over (Play at) refused = absurd (false≢true refused)
  some_over (PlayTake at take) refused = over_live (PlayTake at take) at.channel (is_in-with_number at.channel (channels acts)) refused
  some_over (Pause at) refused = absurd (false≢true refused)
  some_over (Resume at) refused = absurd (false≢true refused)
  some_over (StopLayer at) refused = absurd (false≢true refused)
  some_over (ClearLayer at) refused = absurd (false≢true refused)
  some_over (ClearChannel cleared) refused = absurd (false≢true refused)
  some_over (SwapLayers a b transforms) refused =
      over_two a b transforms (is_over_after (SwapLayers a b transforms) (stage_state acts t) a.channel)
      (is_over_after (SwapLayers a b transforms) (stage_state acts t) b.channel) refl refl refused
  some_over (SwapChannels a b transforms) refused = absurd (false≢true refused)
  some_over (Set setting) refused = over_waiting setting refused
  some_over (CommitMixer committed) refused = absurd (false≢true refused)
  some_over (ResetLayer at) refused = absurd (false≢true refused)
  some_over (ResetChannel reset) refused = absurd (false≢true refused)
  some_over (AddFile marked name) refused = absurd (false≢true refused)
  some_over (RemoveFile marked) refused = absurd (false≢true refused)
  some_over (Value at prop) refused = absurd (false≢true refused)
  some_over Info refused = absurd (false≢true refused)

  over_exactly : (cmd : Cmd) (refused : Bool) → IsWithinLimits (stage_state acts t) → is_refused_by cmd (stage_state acts t) ≡ refused →
      list_any (is_over (acts_of t cmd ++ acts) t) (channels (acts_of t cmd ++ acts)) ≡ refused
  over_exactly cmd true h e = some_over cmd e
  over_exactly cmd false h e =
      none_passes (is_over (acts_of t cmd ++ acts) t) (channels (acts_of t cmd ++ acts))
      (λ channel.
      is_over-state (acts_of t cmd ++ acts) t channel
      ∙ ap (λ (s : StageState). is_over_in s channel) (stage_state-command acts t cmd)
      ∙ none_over (state_after cmd (stage_state acts t)) (IsWithinLimits-command acts t cmd h e) channel)

-- a command is refused exactly if `is_refused_by` holds of the stage
pub with_command-state : (acts : List Act) (t : ℕ) (cmd : Cmd) → IsWithinLimits (stage_state acts t) →
    with_command acts t cmd ≡ (if is_refused_by cmd (stage_state acts t) then None else Some (acts_of t cmd ++ acts))
with_command-state acts t cmd h =
    ap (λ (over : Bool). if over then None else Some (acts_of t cmd ++ acts))
    (over_exactly acts t cmd (is_refused_by cmd (stage_state acts t)) h refl)

-- a command is taken if it leaves no channel over a limit, and refused if it leaves one
pub is_over-within : (acts : List Act) (t : ℕ) → IsWithinLimits (stage_state acts t) → (channel : ℕ) → is_over acts t channel ≡ false
is_over-within acts t h channel = is_over-state acts t channel ∙ none_over (stage_state acts t) h channel

pub with_command-within : (acts : List Act) (t : ℕ) (cmd : Cmd) → ((channel : ℕ) → is_over (acts_of t cmd ++ acts) t channel ≡ false) →
    with_command acts t cmd ≡ Some (acts_of t cmd ++ acts)
with_command-within acts t cmd within =
    ap (λ (over : Bool). if over then None else Some (acts_of t cmd ++ acts))
    (none_passes (is_over (acts_of t cmd ++ acts) t) (channels (acts_of t cmd ++ acts)) within)

refused_if_over : (acts : List Act) (t : ℕ) (cmd : Cmd) (channel : ℕ) (refused : Bool) → IsWithinLimits (stage_state acts t) →
    is_over (acts_of t cmd ++ acts) t channel ≡ true → is_refused_by cmd (stage_state acts t) ≡ refused → refused ≡ true
refused_if_over acts t cmd channel true h over e = refl
refused_if_over acts t cmd channel false h over e =
    absurd (false≢true (sym (is_over-within (acts_of t cmd ++ acts) t (IsWithinLimits-more acts t cmd h e) channel) ∙ over))

pub with_command-over : (acts : List Act) (t : ℕ) (cmd : Cmd) (channel : ℕ) → IsWithinLimits (stage_state acts t) →
    is_over (acts_of t cmd ++ acts) t channel ≡ true → with_command acts t cmd ≡ None
with_command-over acts t cmd channel h over =
    with_command-state acts t cmd h
    ∙ ap (λ (refused : Bool). if refused then None else Some (acts_of t cmd ++ acts))
    (refused_if_over acts t cmd channel (is_refused_by cmd (stage_state acts t)) h over refl)

-- a list of commands is refused exactly if `some_is_refused` holds of the stage
by_refusal : (acts : List Act) (t : ℕ) (cmd : Cmd) (cmds : List Cmd) (refused : Bool) →
    (refused ≡ false → with_commands (acts_of t cmd ++ acts) t cmds
    ≡ (if some_is_refused cmds (stage_state (acts_of t cmd ++ acts) t) then None else Some (acts_after_all t cmds (acts_of t cmd ++ acts)))) →
    option_and_then (λ (more : List Act). with_commands more t cmds) (if refused then None else Some (acts_of t cmd ++ acts))
    ≡ (if refused || some_is_refused cmds (state_after cmd (stage_state acts t)) then None
    else Some (acts_after_all t cmds (acts_of t cmd ++ acts)))
by_refusal acts t cmd cmds true rest = refl
by_refusal acts t cmd cmds false rest =
    rest refl
    ∙ ap (λ (s : StageState). if some_is_refused cmds s then None else Some (acts_after_all t cmds (acts_of t cmd ++ acts)))
    (stage_state-command acts t cmd)

pub with_commands-state : (acts : List Act) (t : ℕ) (cmds : List Cmd) → IsWithinLimits (stage_state acts t) →
    with_commands acts t cmds ≡ (if some_is_refused cmds (stage_state acts t) then None else Some (acts_after_all t cmds acts))
with_commands-state acts t [] h = refl
with_commands-state acts t (cmd ∷ cmds) h =
    ap (option_and_then (λ (more : List Act). with_commands more t cmds)) (with_command-state acts t cmd h)
    ∙ by_refusal acts t cmd cmds (is_refused_by cmd (stage_state acts t))
    (λ kept. with_commands-state (acts_of t cmd ++ acts) t cmds (IsWithinLimits-more acts t cmd h kept))

-- commands none of which is refused leave each channel within its limits
pub IsWithinLimits-commands : (acts : List Act) (t : ℕ) (cmds : List Cmd) → IsWithinLimits (stage_state acts t) →
    some_is_refused cmds (stage_state acts t) ≡ false → IsWithinLimits (state_after_all cmds (stage_state acts t))
IsWithinLimits-commands acts t [] h kept = h
IsWithinLimits-commands acts t (cmd ∷ cmds) h kept =
    let parts = or_parts (is_refused_by cmd (stage_state acts t)) (some_is_refused cmds (state_after cmd (stage_state acts t))) kept in
    let same = stage_state-command acts t cmd in
    subst (λ (s : StageState). IsWithinLimits (state_after_all cmds s)) same
    (IsWithinLimits-commands (acts_of t cmd ++ acts) t cmds (IsWithinLimits-more acts t cmd h parts.0)
    (ap (some_is_refused cmds) same ∙ parts.1))
