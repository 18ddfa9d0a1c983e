-- A commit starts its group: the timeline after it agrees with the one that has the group in its place.
use Rattle.std.proofs.Common.{◌≡◌, ℕ, Bool, true, false, ◌&&◌, ◌==◌, List, [], ◌∷◌, ◌++◌, map, refl, sym, ap, ap₂, subst, ◌∙◌, if◌then◌else◌}
use Rattle.std.proofs.lemmas.Bool.{false≢true}
use Rattle.play_types.specs.Place.{PlaceView}
use Rattle.play_types.specs.Setting.{SettingView}
use Rattle.play_types.specs.declared.setting.Prop.{Prop}
use Rattle.play_types.specs.declared.command.Cmd.{Cmd}
use Rattle.play_types.specs.declared.command.Cmd.TheVariants.{Set, CommitMixer}
use Rattle.history_model.specs.stage.Act.{Act, act_after}
use Rattle.history_model.specs.stage.Group.{and_not_committed, at_once, is_deferred_of, with_group, without_waiting}
use Rattle.history_model.specs.stage.Live.{layers}
use Rattle.history_model.specs.stage.Resolved.{settled_act, waiting_settings}
use Rattle.history_model.specs.stage.WaitingList.{listed_acts, waiting_list}
use Rattle.history_model.specs.stage.Timeline.{Entry, Did, Ticked, timeline_acts, timeline_ticks, timeline_value}
use Rattle.history_model.specs.stage.Trail.{trail}
use Rattle.history_model.specs.pictures.Media.{Setup}
use Rattle.history_model.specs.pictures.TimelineFrame.{timeline_foregrounds, timeline_frames, timeline_pixel, timeline_sample, timeline_sounds, timeline_statuses}
use Rattle.history_model.proofs.Listed.{waiting_settings-listed}
use Rattle.history_model.proofs.Groups.{IsWithout, IsCut, IsCut-did, IsCut-ticked, pixel-same, sample-same, value-same, statuses-same, without-cut}

-- settings that take effect at once do not change the ticks, and what was shown and sounded
kept_by_group : {C : Type 0} (look : List Entry → C) → ((setting : SettingView) (rest : List Entry) → look (at_once setting ∷ rest) ≡ look rest) →
    (settings : List SettingView) (rest : List Entry) → look (map at_once settings ++ rest) ≡ look rest
kept_by_group look each [] rest = refl
kept_by_group look each (setting ∷ settings) rest = each setting (map at_once settings ++ rest) ∙ kept_by_group look each settings rest

-- the acts of such settings, all after the ticks before them
group_ticks : (settings : List SettingView) (rest : List Entry) → timeline_ticks (map at_once settings ++ rest) ≡ timeline_ticks rest
group_ticks settings rest = kept_by_group timeline_ticks (λ setting rest. refl) settings rest

group_acts : (settings : List SettingView) (rest : List Entry) →
    timeline_acts (map at_once settings ++ rest) ≡ map (settled_act (timeline_ticks rest)) settings ++ timeline_acts rest
group_acts [] rest = refl
group_acts (setting ∷ settings) rest =
    ap₂ {A = ℕ} {B = List Act} {C = List Act} (λ now past. settled_act now setting ∷ past) (group_ticks settings rest) (group_acts settings rest)

-- such settings are resolved to themselves, name no layer and no content, and do not wait
kept_by_settings : {C : Type 0} (t : ℕ) (look : List Act → C) → ((setting : SettingView) (rest : List Act) → look (settled_act t setting ∷ rest) ≡ look rest) →
    (settings : List SettingView) (rest : List Act) → look (map (settled_act t) settings ++ rest) ≡ look rest
kept_by_settings t look each [] rest = refl
kept_by_settings t look each (setting ∷ settings) rest =
    each setting (map (settled_act t) settings ++ rest) ∙ kept_by_settings t look each settings rest

resolved_settings : (t : ℕ) (settings : List SettingView) (rest : List Act) →
    listed_acts (map (settled_act t) settings ++ rest) ≡ map (settled_act t) settings ++ listed_acts rest
resolved_settings t [] rest = refl
resolved_settings t (setting ∷ settings) rest = ap (λ past. settled_act t setting ∷ past) (resolved_settings t settings rest)

-- the settings that wait after the commit are those that wait without the group
waiting_then : (committed channel : ℕ) (own : Bool) (a b : List Act) → (committed == channel) ≡ own →
    IsWithout (λ other. committed == other) a b → waiting_list a channel ≡ (if own then [] else waiting_list b channel)
waiting_then committed channel true a b is h = h.none channel is
waiting_then committed channel false a b is h = h.others channel is

-- the acts with the group in place of the commit
IsWithout-group : (committed t u : ℕ) (settings : List SettingView) (a b : List Act) → t ≡ u → settings ≡ waiting_list b committed →
    IsWithout (λ other. committed == other) a b →
    IsWithout (λ other. false) (map (settled_act t) settings ++ a) (act_after u (CommitMixer committed) ∷ b)
IsWithout-group committed t u settings a b now group h = record {
  layers = kept_by_settings t layers (λ setting rest. refl) settings a ∙ h.layers;
  trails = λ place. kept_by_settings t (λ past. trail past place) (λ setting rest. refl) settings a ∙ h.trails place;
  resolved =
      resolved_settings t settings a
      ∙ ap₂ {A = List Act} {B = List Act} {C = List Act} (λ first rest. first ++ rest)
      (ap₂ (λ n waiting. map (settled_act n) waiting) now group) h.resolved;
  others = λ channel off.
      kept_by_settings t (λ past. waiting_list past channel) (λ setting rest. refl) settings a
      ∙ waiting_then committed channel (committed == channel) a b refl h;
  none = λ channel on. absurd (false≢true on);
}

-- the timeline with the group in place of the commit, and with later entries
group-cut : (setup : Setup) (committed : ℕ) (before : List Entry) →
    IsCut setup (λ other. false) (with_group committed before) (Did (CommitMixer committed) ∷ before)
group-cut setup committed before =
    let which = λ (other : ℕ). committed == other in
    let kept : List Entry = without_waiting which before in
    let group : List SettingView = waiting_settings (timeline_acts before) committed in
    let h : IsCut setup which kept before = without-cut setup which before in
    record {
      acts =
          subst (λ past. IsWithout (λ other. false) past (timeline_acts (Did (CommitMixer committed) ∷ before)))
          (sym (group_acts group kept))
          (IsWithout-group committed (timeline_ticks kept) (timeline_ticks before) group (timeline_acts kept) (timeline_acts before) h.ticks
          (waiting_settings-listed (timeline_acts before) committed) h.acts);
      ticks = group_ticks group kept ∙ h.ticks;
      foregrounds = kept_by_group timeline_foregrounds (λ setting rest. refl) group kept ∙ h.foregrounds;
      frames = kept_by_group (timeline_frames setup) (λ setting rest. refl) group kept ∙ h.frames;
      sounds = kept_by_group (timeline_sounds setup) (λ setting rest. refl) group kept ∙ h.sounds;
    }

-- if no channel passes the test, none does after a command, and no setting is left out
none_passes : (cmd : Cmd) (channel : ℕ) → and_not_committed (λ other. false) cmd channel ≡ false
none_passes (CommitMixer committed) channel = refl
none_passes cmd channel = refl

none_out : (cmd : Cmd) → is_deferred_of (λ other. false) cmd ≡ false
none_out (Set setting) = by_mark setting.deferred
  where
    by_mark : (deferred : Bool) → (deferred && false) ≡ false
    by_mark true = refl
    by_mark false = refl
none_out cmd = refl

still_none : (setup : Setup) (cmd : Cmd) (a b : List Entry) → IsCut setup (λ other. false) a b →
    IsCut setup (and_not_committed (λ other. false) cmd) a b
still_none setup cmd a b h =
    subst (λ which. IsCut setup which a b) (λ i. λ channel. sym (none_passes cmd channel) i) h

later-cut : (setup : Setup) (later a b : List Entry) → IsCut setup (λ other. false) a b → IsCut setup (λ other. false) (later ++ a) (later ++ b)
later-cut setup [] a b h = h
later-cut setup (Did cmd ∷ later) a b h =
    IsCut-did setup (λ other. false) cmd (later ++ a) (later ++ b) (none_out cmd)
    (still_none setup cmd (later ++ a) (later ++ b) (later-cut setup later a b h))
later-cut setup (Ticked ∷ later) a b h =
    IsCut-ticked setup (λ other. false) (later ++ a) (later ++ b) (later-cut setup later a b h)

-- everything that is shown, sounded, answered and reported later is equal
after_commit : (setup : Setup) (later before : List Entry) (committed : ℕ) →
    IsCut setup (λ other. false) (later ++ with_group committed before) (later ++ Did (CommitMixer committed) ∷ before)
after_commit setup later before committed =
    later-cut setup later (with_group committed before) (Did (CommitMixer committed) ∷ before) (group-cut setup committed before)

no_media : Setup
no_media = record { channels = []; clips = [] }

pub pixel-group : (setup : Setup) (later before : List Entry) (committed channel x y : ℕ) →
    timeline_pixel setup (later ++ Did (CommitMixer committed) ∷ before) channel x y
    ≡ timeline_pixel setup (later ++ with_group committed before) channel x y
pixel-group setup later before committed channel x y =
    sym (pixel-same setup (λ other. false) (later ++ with_group committed before) (later ++ Did (CommitMixer committed) ∷ before)
    (after_commit setup later before committed) channel x y)

pub sample-group : (setup : Setup) (later before : List Entry) (committed channel pair side : ℕ) →
    timeline_sample setup (later ++ Did (CommitMixer committed) ∷ before) channel pair side
    ≡ timeline_sample setup (later ++ with_group committed before) channel pair side
sample-group setup later before committed channel pair side =
    sym (sample-same setup (λ other. false) (later ++ with_group committed before) (later ++ Did (CommitMixer committed) ∷ before)
    (after_commit setup later before committed) channel pair side)

pub value-group : (later before : List Entry) (committed : ℕ) (place : PlaceView) (prop : Prop) (now : ℕ) →
    timeline_value (later ++ Did (CommitMixer committed) ∷ before) place prop now
    ≡ timeline_value (later ++ with_group committed before) place prop now
value-group later before committed place prop now =
    sym (value-same no_media (λ other. false) (later ++ with_group committed before) (later ++ Did (CommitMixer committed) ∷ before)
    (after_commit no_media later before committed) place prop now)

pub statuses-group : (setup : Setup) (later before : List Entry) (committed : ℕ) →
    timeline_statuses setup (later ++ Did (CommitMixer committed) ∷ before)
    ≡ timeline_statuses setup (later ++ with_group committed before)
statuses-group setup later before committed =
    sym (statuses-same setup (λ other. false) (later ++ with_group committed before) (later ++ Did (CommitMixer committed) ∷ before)
    (after_commit setup later before committed))

-- the acts of the group are all after the ticks before the commit
pub acts-group : (before : List Entry) (committed : ℕ) →
    timeline_acts (with_group committed before)
    ≡ map (settled_act (timeline_ticks before)) (waiting_settings (timeline_acts before) committed)
    ++ timeline_acts (without_waiting (λ other. committed == other) before)
acts-group before committed =
    let which = λ (other : ℕ). committed == other in
    let group : List SettingView = waiting_settings (timeline_acts before) committed in
    group_acts group (without_waiting which before)
    ∙ ap (λ n. map (settled_act n) group ++ timeline_acts (without_waiting which before)) (without-cut no_media which before).ticks
