-- The number of settings for which a mixer needs memory, by the number that wait on each channel.
use Rattle.std.proofs.Common.{◌≡◌, ℕ, ◌+◌, ◌≤◌, List, [], ◌∷◌, ◌++◌, length, All, refl, sym, ap, ap₂, ◌∙◌, subst, arith}
use Rattle.std.proofs.lemmas.Bool.{true≢false}
use Rattle.std.specs.Prelude.{Err, Ok, OnOk, Result, is_err, false}
use Rattle.std.proofs.lemmas.List.Elements.{All-head, All-tail, All-weaker}
use Rattle.play_types.specs.Scene.{IsConfigured}
use Rattle.play_types.specs.declared.take.Spec.{Spec}
use Rattle.play_types.specs.declared.take.Spec.TheVariants as spec
use Rattle.play_types.specs.declared.command.Cmd.{Cmd}
use Rattle.play_types.specs.declared.command.Cmd.TheVariants.{Load, LoadBg, Play, PlayTake, Pause, Resume, StopLayer, ClearLayer, ClearChannel, SwapLayers, SwapChannels, Set, CommitMixer, ResetLayer, ResetChannel, AddFile, RemoveFile, Value, Info}
use Rattle.history_model.specs.commands.Channels.{IsRouted, IsServed}
use Rattle.history_model.specs.stage.Act.{Act, acts_of}
use Rattle.history_model.specs.stage.StageState.{StageState, waiting_count_after}
use Rattle.history_model.proofs.stage.Changes.{stage_state-command}
use Rattle.mixer_state.specs.Mixer.{MixerView}
use Rattle.mixer_state.specs.Past.{Represents}
use Rattle.stage_core.specs.LiveState.{count_of, live_with}
use Rattle.stage_core.specs.inner.Settled.{counted, settings_of, settings_of_all, waiting_with, waits_on}
use Rattle.stage_core.proofs.LiveStates.{waiting_after}

-- a command that names channels of a stage names channels of one with more
module _ (n m : ℕ) (few : n ≤ m) where
  wide : (channel : ℕ) → IsConfigured n channel → IsConfigured m channel
  wide channel h = (h.0, omega (arith, h.1, few))

  routed-wide : (producer : Spec) → IsRouted n producer → IsRouted m producer
  routed-wide (spec.Clip id) h = h
  routed-wide (spec.Colour value) h = h
  routed-wide (spec.RouteChannel channel) h = wide channel h
  routed-wide (spec.RouteLayer place) h = wide place.channel h

  served-wide : (cmd : Cmd) → IsServed n cmd → IsServed m cmd
  served-wide (Load at take) h = (wide at.channel h.0, routed-wide take.spec h.1)
  served-wide (LoadBg at take) h = (wide at.channel h.0, routed-wide take.spec h.1)
  served-wide (Play at) h = wide at.channel h
  served-wide (PlayTake at take) h = (wide at.channel h.0, routed-wide take.spec h.1)
  served-wide (Pause at) h = wide at.channel h
  served-wide (Resume at) h = wide at.channel h
  served-wide (StopLayer at) h = wide at.channel h
  served-wide (ClearLayer at) h = wide at.channel h
  served-wide (ClearChannel channel) h = wide channel h
  served-wide (SwapLayers a b transforms) h = (wide a.channel h.0, wide b.channel h.1)
  served-wide (SwapChannels a b transforms) h = (wide a h.0, wide b h.1)
  served-wide (Set setting) h = wide setting.place.channel h
  served-wide (CommitMixer channel) h = wide channel h
  served-wide (ResetLayer at) h = wide at.channel h
  served-wide (ResetChannel channel) h = wide channel h
  served-wide (AddFile marked name) h = wide marked h
  served-wide (RemoveFile marked) h = wide marked h
  served-wide (Value at prop) h = wide at.channel h
  served-wide Info h = h

  pub all_served-wide : (cmds : List Cmd) → All (IsServed n) cmds → All (IsServed m) cmds
  all_served-wide cmds h = All-weaker (IsServed n) (IsServed m) served-wide cmds h

-- equal numbers of waiting settings on each channel give equal needs
settings_of-same : (n : ℕ) (cmd : Cmd) (v w : ℕ → ℕ) → IsServed n cmd → ((k : ℕ) → IsConfigured n k → v k ≡ w k) →
    settings_of v cmd ≡ settings_of w cmd
settings_of-same n (Load at take) v w h same = refl
settings_of-same n (LoadBg at take) v w h same = refl
settings_of-same n (Play at) v w h same = refl
settings_of-same n (PlayTake at take) v w h same = refl
settings_of-same n (Pause at) v w h same = refl
settings_of-same n (Resume at) v w h same = refl
settings_of-same n (StopLayer at) v w h same = refl
settings_of-same n (ClearLayer at) v w h same = refl
settings_of-same n (ClearChannel channel) v w h same = refl
settings_of-same n (SwapLayers a b transforms) v w h same = refl
settings_of-same n (SwapChannels a b transforms) v w h same = refl
settings_of-same n (Set setting) v w h same = refl
settings_of-same n (CommitMixer channel) v w h same = same channel h
settings_of-same n (ResetLayer at) v w h same = refl
settings_of-same n (ResetChannel channel) v w h same = refl
settings_of-same n (AddFile marked name) v w h same = refl
settings_of-same n (RemoveFile marked) v w h same = refl
settings_of-same n (Value at prop) v w h same = refl
settings_of-same n Info v w h same = refl

pub settings_of_all-same : (n : ℕ) (cmds : List Cmd) (v w : ℕ → ℕ) → All (IsServed n) cmds → ((k : ℕ) → IsConfigured n k → v k ≡ w k) →
    settings_of_all v cmds ≡ settings_of_all w cmds
settings_of_all-same n [] v w h same = refl
settings_of_all-same n (cmd ∷ cmds) v w h same =
    ap₂ (λ (one more : ℕ). one + more) (settings_of-same n cmd v w (All-head (IsServed n) cmd cmds h) same)
    (settings_of_all-same n cmds (waiting_with cmd v) (waiting_with cmd w) (All-tail (IsServed n) cmd cmds h)
    (λ k c. ap (waiting_count_after cmd k) (same k c)))

-- how many wait on each channel of a list after a command
pub counted-after : (cmd : Cmd) (waiting : List ℕ) (n k : ℕ) → n ≤ length waiting → IsServed n cmd → IsConfigured (length waiting) k →
    count_of k (live_with cmd (record { places = []; waiting = waiting })).waiting ≡ waiting_with cmd (counted waiting) k
counted-after cmd waiting n k few h c = waiting_after cmd (record { places = []; waiting = waiting }) n k few h c

-- how many wait on each channel of a mixer that represents acts, after a command
pub waits_on-after : (cmd : Cmd) (before after : MixerView) (past : List Act) (t : ℕ) → Represents before past t →
    Represents after (acts_of t cmd ++ past) t → after.channels ≡ before.channels →
    (k : ℕ) → IsConfigured before.channels k → waiting_with cmd (waits_on before) k ≡ waits_on after k
waits_on-after cmd before after past t h g same k c =
    ap (λ xs. waiting_count_after cmd k (length xs)) (h.waiting k c)
    ∙ sym (ap (λ (state : StageState). state.waiting k) (stage_state-command past t cmd))
    ∙ ap (λ xs. length xs) (sym (g.waiting k (subst (λ (n : ℕ). IsConfigured n k) (sym same) c)))

-- what holds of a result that is no error
pub if_ok : {T E P : Type 0} (found : Result T E) → is_err found ≡ false → OnOk found P → P
if_ok (Ok value) e h = h
if_ok (Err error) e h = absurd (true≢false e)
