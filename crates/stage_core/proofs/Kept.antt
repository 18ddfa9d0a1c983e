-- What a live state keeps through each event.
use Rattle.std.proofs.Common.{◌≡◌, ℕ, ◌≤◌, Bool, true, false, ◌||◌, inl, inr, List, [], ◌∷◌, ◌++◌, length, refl, sym, ap, ◌∙◌, subst, arith}
use Rattle.std.proofs.lemmas.Bool.{cases_Bool, cond-true, cond-false, false≢true}
use Rattle.play_types.specs.History.{ticks}
use Rattle.play_types.specs.declared.place.TheConstants.{MAX_CHANNELS}
use Rattle.play_types.specs.declared.command.Cmd.{Cmd}
use Rattle.play_types.specs.declared.command.Cmd.TheVariants.{Load, LoadBg, Play, PlayTake, Pause, Resume, StopLayer, ClearLayer, ClearChannel, SwapLayers, SwapChannels, Set, CommitMixer, ResetLayer, ResetChannel, AddFile, RemoveFile, Value, Info}
use Rattle.play_types.specs.declared.event.Tag.{Tag}
use Rattle.play_types.specs.declared.event.Event.{Event}
use Rattle.play_types.specs.declared.event.Event.TheVariants.{Do, Batch, Stop}
use Rattle.history_model.specs.stage.Act.{Act, acts_of}
use Rattle.history_model.specs.stage.Acts.{acts, is_refused}
use Rattle.history_model.specs.stage.StageState.{IsWithinLimits, StageState, acts_after_all, is_refused_by, some_is_refused, stage_state, state_after, state_after_all}
use Rattle.history_model.specs.stage.StageHistory.{stage_after}
use Rattle.history_model.specs.commands.Channels.{IsServed}
use Rattle.stage_core.specs.LiveState.{LiveView, ShowsStage, live_with, live_with_all, is_refused_on, some_is_refused_on}
use Rattle.stage_core.specs.Kept.{AreServed, IsLiveStateOf}
use Rattle.history_model.proofs.stage.Changes.{stage_state-command}
use Rattle.history_model.proofs.stage.Histories.{IsWithinLimits-history, acts-batch, acts-command, acts-stop, is_refused-batch, is_refused-command, stage_after-acts, stage_after-batch, stage_after-command, stage_after-stop}
use Rattle.history_model.proofs.stage.Refusals.{IsWithinLimits-command}
use Rattle.stage_core.proofs.Refusals.{IsTried, ShowsStage-after, is_refused-same, length-places}

-- the acts of a command that is served are served
AreServed-more : (n t : ℕ) (cmd : Cmd) (acts : List Act) → IsServed n cmd → AreServed n acts → AreServed n (acts_of t cmd ++ acts)
AreServed-more n t (Load at take) acts h k = (h, k)
AreServed-more n t (LoadBg at take) acts h k = (h, k)
AreServed-more n t (Play at) acts h k = (h, k)
AreServed-more n t (PlayTake at take) acts h k = (h.0, (h, k))
AreServed-more n t (Pause at) acts h k = (h, k)
AreServed-more n t (Resume at) acts h k = (h, k)
AreServed-more n t (StopLayer at) acts h k = (h, k)
AreServed-more n t (ClearLayer at) acts h k = (h, k)
AreServed-more n t (ClearChannel channel) acts h k = (h, k)
AreServed-more n t (SwapLayers a b transforms) acts h k = (h, k)
AreServed-more n t (SwapChannels a b transforms) acts h k = (h, k)
AreServed-more n t (Set setting) acts h k = (h, k)
AreServed-more n t (CommitMixer channel) acts h k = (h, k)
AreServed-more n t (ResetLayer at) acts h k = (h, k)
AreServed-more n t (ResetChannel channel) acts h k = (h, k)
AreServed-more n t (AddFile marked name) acts h k = k
AreServed-more n t (RemoveFile marked) acts h k = k
AreServed-more n t (Value at prop) acts h k = k
AreServed-more n t Info acts h k = k

-- each command of a list, one after another
abbrev pub AllServed : ℕ → List Cmd → Type 0
AllServed n [] = Unit {0}
AllServed n (cmd ∷ cmds) = IsServed n cmd × AllServed n cmds

AreServed-all : (n t : ℕ) (cmds : List Cmd) (acts : List Act) → AllServed n cmds → AreServed n acts → AreServed n (acts_after_all t cmds acts)
AreServed-all n t [] acts h k = k
AreServed-all n t (cmd ∷ cmds) acts h k = AreServed-all n t cmds (acts_of t cmd ++ acts) h.1 (AreServed-more n t cmd acts h.0 k)

-- a command after acts that leave the stage within its limits
tried : (n t : ℕ) (cmd : Cmd) (acts : List Act) (live : LiveView) → n ≤ MAX_CHANNELS → IsServed n cmd → IsWithinLimits (stage_state acts t) →
    ShowsStage n live (stage_state acts t) → IsTried n live (stage_state acts t) cmd
tried n t cmd acts live few h within shows =
    record { shows = shows; few_channels = few; served = h; within = IsWithinLimits-command acts t cmd within }

-- the live state refuses a list of commands exactly if the stage does, and otherwise shows the stage after them
pub record IsJudged (n t : ℕ) (cmds : List Cmd) (acts : List Act) (live : LiveView) : Type 0 where
  pub refused : some_is_refused_on cmds live ≡ some_is_refused cmds (stage_state acts t)
  pub shows : some_is_refused cmds (stage_state acts t) ≡ false → ShowsStage n (live_with_all cmds live) (state_after_all cmds (stage_state acts t))

judged : (n t : ℕ) (cmds : List Cmd) (acts : List Act) (live : LiveView) → n ≤ MAX_CHANNELS → AllServed n cmds → IsWithinLimits (stage_state acts t) →
    ShowsStage n live (stage_state acts t) → IsJudged n t cmds acts live
judged n t [] earlier live few h within shows = record { refused = refl; shows = λ e. shows }
judged n t (cmd ∷ cmds) acts live few h within shows =
    let one = tried n t cmd acts live few h.0 within shows in
    let same : is_refused_on cmd live ≡ is_refused_by cmd (stage_state acts t) = is_refused-same cmd n live (stage_state acts t) one in
    let now : stage_state (acts_of t cmd ++ acts) t ≡ state_after cmd (stage_state acts t) = stage_state-command acts t cmd in
    elim (cases_Bool (is_refused_by cmd (stage_state acts t))) [
      | inl e ↦ record {
        refused =
            ap (λ (b : Bool). b || some_is_refused_on cmds (live_with cmd live)) (same ∙ e)
            ∙ sym (ap (λ (b : Bool). b || some_is_refused cmds (state_after cmd (stage_state acts t))) e);
        shows = λ none. absurd (false≢true (sym none ∙ ap (λ (b : Bool). b || some_is_refused cmds (state_after cmd (stage_state acts t))) e));
      }
      | inr e ↦
          let more : IsJudged n t cmds (acts_of t cmd ++ acts) (live_with cmd live) =
          judged n t cmds (acts_of t cmd ++ acts) (live_with cmd live) few h.1
          (subst IsWithinLimits (sym now) (IsWithinLimits-command acts t cmd within e))
          (subst (ShowsStage n (live_with cmd live)) (sym now) (ShowsStage-after cmd n live (stage_state acts t) one e)) in
          record {
            refused =
                ap (λ (b : Bool). b || some_is_refused_on cmds (live_with cmd live)) (same ∙ e)
                ∙ more.refused ∙ ap (some_is_refused cmds) now
                ∙ sym (ap (λ (b : Bool). b || some_is_refused cmds (state_after cmd (stage_state acts t))) e);
            shows = λ none.
                let rest : some_is_refused cmds (stage_state (acts_of t cmd ++ acts) t) ≡ false =
                ap (some_is_refused cmds) now ∙ sym (ap (λ (b : Bool). b || some_is_refused cmds (state_after cmd (stage_state acts t))) e) ∙ none in
                subst (λ (s : StageState). ShowsStage n (live_with_all cmds (live_with cmd live)) (state_after_all cmds s)) now (more.shows rest);
          }
    ]

-- the number of channels stays through all commands
pub length-all : (cmds : List Cmd) (live : LiveView) → length (live_with_all cmds live).places ≡ length live.places
length-all [] live = refl
length-all (cmd ∷ cmds) live = length-all cmds (live_with cmd live) ∙ length-places cmd live

-- a live state of some number of channels
pub live_state_of : (events : List Event) (live : LiveView) (n : ℕ) → length live.places ≡ n → 1 ≤ n → n ≤ MAX_CHANNELS → AreServed n (acts events) →
    ShowsStage n live (stage_after events) → IsLiveStateOf events live
live_state_of events live n count some few served shows = record {
  some_channels = omega (arith, count);
  channels = omega (arith, count);
  served = subst (λ (m : ℕ). AreServed m (acts events)) (sym count) served;
  shows = subst (λ (m : ℕ). ShowsStage m live (stage_after events)) (sym count) shows;
}

module _ (events : List Event) (tag : Tag) (live : LiveView) (h : IsLiveStateOf events live) where
  shows_now : ShowsStage (length live.places) live (stage_state (acts events) (ticks events))
  shows_now = subst (ShowsStage (length live.places) live) (stage_after-acts events) h.shows

  within_now : IsWithinLimits (stage_state (acts events) (ticks events))
  within_now = subst IsWithinLimits (stage_after-acts events) (IsWithinLimits-history events)

  tried_now : (cmd : Cmd) → IsServed (length live.places) cmd → IsTried (length live.places) live (stage_after events) cmd
  tried_now cmd served =
      subst (λ (s : StageState). IsTried (length live.places) live s cmd) (sym (stage_after-acts events))
      (tried (length live.places) (ticks events) cmd (acts events) live h.channels served within_now shows_now)

  judged_now : (cmds : List Cmd) → AllServed (length live.places) cmds → IsJudged (length live.places) (ticks events) cmds (acts events) live
  judged_now cmds served = judged (length live.places) (ticks events) cmds (acts events) live h.channels served within_now shows_now

  -- whether a command is refused
  pub refused-command : (cmd : Cmd) → IsServed (length live.places) cmd → is_refused events (Do tag cmd) ≡ is_refused_on cmd live
  refused-command cmd served =
      is_refused-command events tag cmd ∙ sym (is_refused-same cmd (length live.places) live (stage_after events) (tried_now cmd served))

  pub refused_by : (cmd : Cmd) → IsServed (length live.places) cmd → is_refused_by cmd (stage_after events) ≡ is_refused_on cmd live
  refused_by cmd served = sym (is_refused-same cmd (length live.places) live (stage_after events) (tried_now cmd served))

  -- after a command that is refused
  pub acts-refused : (cmd : Cmd) → IsServed (length live.places) cmd → is_refused_on cmd live ≡ true → acts (events ++ Do tag cmd ∷ []) ≡ acts events
  acts-refused cmd served e = acts-command events tag cmd ∙ cond-true _ _ _ (refused_by cmd served ∙ e)

  pub IsLiveStateOf-refused : (cmd : Cmd) → IsServed (length live.places) cmd → is_refused_on cmd live ≡ true → IsLiveStateOf (events ++ Do tag cmd ∷ []) live
  IsLiveStateOf-refused cmd served e =
      live_state_of (events ++ Do tag cmd ∷ []) live (length live.places) refl h.some_channels h.channels
      (subst (AreServed (length live.places)) (sym (acts-refused cmd served e)) h.served)
      (subst (ShowsStage (length live.places) live) (sym (stage_after-command events tag cmd ∙ cond-true _ _ _ (refused_by cmd served ∙ e))) h.shows)

  -- after a command that is not
  pub acts-taken : (cmd : Cmd) → IsServed (length live.places) cmd → is_refused_on cmd live ≡ false →
      acts (events ++ Do tag cmd ∷ []) ≡ acts_of (ticks events) cmd ++ acts events
  acts-taken cmd served e = acts-command events tag cmd ∙ cond-false _ _ _ (refused_by cmd served ∙ e)

  pub IsLiveStateOf-taken : (cmd : Cmd) → IsServed (length live.places) cmd → is_refused_on cmd live ≡ false →
      IsLiveStateOf (events ++ Do tag cmd ∷ []) (live_with cmd live)
  IsLiveStateOf-taken cmd served e =
      live_state_of (events ++ Do tag cmd ∷ []) (live_with cmd live) (length live.places) (length-places cmd live) h.some_channels h.channels
      (subst (AreServed (length live.places)) (sym (acts-taken cmd served e)) (AreServed-more (length live.places) (ticks events) cmd (acts events) served h.served))
      (subst (ShowsStage (length live.places) (live_with cmd live)) (sym (stage_after-command events tag cmd ∙ cond-false _ _ _ (refused_by cmd served ∙ e)))
      (ShowsStage-after cmd (length live.places) live (stage_after events) (tried_now cmd served) (refused_by cmd served ∙ e)))

  -- whether a batch is refused
  pub some_refused_by : (cmds : List Cmd) → AllServed (length live.places) cmds → some_is_refused cmds (stage_after events) ≡ some_is_refused_on cmds live
  some_refused_by cmds served = ap (some_is_refused cmds) (stage_after-acts events) ∙ sym (judged_now cmds served).refused

  pub refused-batch : (cmds : List Cmd) → AllServed (length live.places) cmds → is_refused events (Batch tag cmds) ≡ some_is_refused_on cmds live
  refused-batch cmds served = is_refused-batch events tag cmds ∙ some_refused_by cmds served

  pub acts-batch_refused : (cmds : List Cmd) → AllServed (length live.places) cmds → some_is_refused_on cmds live ≡ true →
      acts (events ++ Batch tag cmds ∷ []) ≡ acts events
  acts-batch_refused cmds served e = acts-batch events tag cmds ∙ cond-true _ _ _ (some_refused_by cmds served ∙ e)

  pub IsLiveStateOf-batch_refused : (cmds : List Cmd) → AllServed (length live.places) cmds → some_is_refused_on cmds live ≡ true →
      IsLiveStateOf (events ++ Batch tag cmds ∷ []) live
  IsLiveStateOf-batch_refused cmds served e =
      live_state_of (events ++ Batch tag cmds ∷ []) live (length live.places) refl h.some_channels h.channels
      (subst (AreServed (length live.places)) (sym (acts-batch_refused cmds served e)) h.served)
      (subst (ShowsStage (length live.places) live) (sym (stage_after-batch events tag cmds ∙ cond-true _ _ _ (some_refused_by cmds served ∙ e))) h.shows)

  pub acts-batch_taken : (cmds : List Cmd) → AllServed (length live.places) cmds → some_is_refused_on cmds live ≡ false →
      acts (events ++ Batch tag cmds ∷ []) ≡ acts_after_all (ticks events) cmds (acts events)
  acts-batch_taken cmds served e = acts-batch events tag cmds ∙ cond-false _ _ _ (some_refused_by cmds served ∙ e)

  pub IsLiveStateOf-batch_taken : (cmds : List Cmd) → AllServed (length live.places) cmds → some_is_refused_on cmds live ≡ false →
      IsLiveStateOf (events ++ Batch tag cmds ∷ []) (live_with_all cmds live)
  IsLiveStateOf-batch_taken cmds served e =
      live_state_of (events ++ Batch tag cmds ∷ []) (live_with_all cmds live) (length live.places) (length-all cmds live) h.some_channels h.channels
      (subst (AreServed (length live.places)) (sym (acts-batch_taken cmds served e)) (AreServed-all (length live.places) (ticks events) cmds (acts events) served h.served))
      (subst (ShowsStage (length live.places) (live_with_all cmds live))
      (ap (state_after_all cmds) (sym (stage_after-acts events)) ∙ sym (stage_after-batch events tag cmds ∙ cond-false _ _ _ (some_refused_by cmds served ∙ e)))
      ((judged_now cmds served).shows (sym (judged_now cmds served).refused ∙ e)))

  -- after a stop
  pub IsLiveStateOf-stop : IsLiveStateOf (events ++ Stop tag ∷ []) live
  IsLiveStateOf-stop =
      live_state_of (events ++ Stop tag ∷ []) live (length live.places) refl h.some_channels h.channels
      (subst (AreServed (length live.places)) (sym (acts-stop events tag)) h.served)
      (subst (ShowsStage (length live.places) live) (sym (stage_after-stop events tag)) h.shows)
