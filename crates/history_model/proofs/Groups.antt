-- Waiting settings change nothing, and a commit starts its group: where two timelines agree.
use Rattle.std.proofs.Common.{◌≡◌, ℕ, ◌+◌, min, Bool, true, false, not, ◌&&◌, ◌==◌, List, [], ◌∷◌, ◌++◌, map, refl, sym, ap, ap₂, ◌∙◌, eqb-true, eq-eqb, if◌then◌else◌}
use Rattle.std.proofs.lemmas.Bool.{false≢true, and_parts}
use Rattle.std.specs.Prelude.{Option, Some, option_map, filter_map}
use Rattle.play_types.specs.Place.{PlaceView}
use Rattle.play_types.specs.Playhead.{head}
use Rattle.play_types.specs.Take.{played}
use Rattle.play_types.specs.Setting.{SettingView, number_at}
use Rattle.play_types.specs.declared.setting.Prop.{Prop}
use Rattle.play_types.specs.declared.setting.Prop.TheVariants.{Opacity, Fill, Clip, Volume, Keyer}
use Rattle.play_types.specs.declared.command.Cmd.{Cmd}
use Rattle.play_types.specs.declared.command.Cmd.TheVariants.{LoadBg, Play, PlayTake, Set, CommitMixer, AddFile, RemoveFile, Value, Info}
use Rattle.play_types.specs.declared.drawn.Drawn.{Drawn}
use Rattle.history_model.specs.stage.Act.{Act, act_after, acts_of}
use Rattle.history_model.specs.stage.Answer.{channel_numbers, status_of}
use Rattle.history_model.specs.stage.Group.{and_not_committed, is_deferred_of, without_waiting}
use Rattle.history_model.specs.stage.Life.{Foreground, life, ready}
use Rattle.history_model.specs.stage.Live.{foreground_at, layers, with_layers_of}
use Rattle.history_model.specs.stage.Resolved.{resolved_acts, settled_act, waiting_settings}
use Rattle.history_model.specs.stage.WaitingList.{listed_acts, resolved_act, waiting_after, waiting_list}
use Rattle.history_model.specs.stage.Timeline.{Entry, Did, Ticked, timeline_acts, timeline_ticks, timeline_value}
use Rattle.history_model.specs.stage.Trail.{acts_on_content, content_origin, trail, tuning}
use Rattle.history_model.specs.stage.Value.{tuned_value}
use Rattle.history_model.specs.pictures.Media.{Setup, size}
use Rattle.history_model.specs.pictures.Easing.{eased}
use Rattle.history_model.specs.pictures.Scene.{is_one, outgoing_still, scene_of, step_of}
use Rattle.history_model.specs.pictures.Source.{source}
use Rattle.history_model.specs.pictures.Frame.{scene_pixel}
use Rattle.history_model.specs.pictures.Sound.{scene_sample}
use Rattle.history_model.specs.pictures.TimelineFrame.{timeline_foregrounds, timeline_frames, timeline_pixel, timeline_sample, timeline_sounds, timeline_statuses}
use Rattle.history_model.proofs.Listed.{resolved_acts-listed, waiting_settings-listed}

-- the acts a are like the acts b without the settings that wait on the channels that pass the test
pub record IsWithout (which : ℕ → Bool) (a b : List Act) : Type 0 where
  pub layers : layers a ≡ layers b
  pub trails : (place : PlaceView) → trail a place ≡ trail b place
  pub resolved : listed_acts a ≡ listed_acts b
  pub others : (channel : ℕ) → which channel ≡ false → waiting_list a channel ≡ waiting_list b channel
  pub none : (channel : ℕ) → which channel ≡ true → waiting_list a channel ≡ []

-- after a commit its channel fails the test, and so does each channel that failed it before
committed_fails : (b : Bool) (channel : ℕ) → (b && not (channel == channel)) ≡ false
committed_fails false channel = refl
committed_fails true channel = ap not (eq-eqb channel channel refl)

fails_still : (which : ℕ → Bool) (cmd : Cmd) (channel : ℕ) → which channel ≡ false → and_not_committed which cmd channel ≡ false
fails_still which (CommitMixer committed) channel e = ap (λ b. b && not (committed == channel)) e
fails_still which cmd channel e = e

-- the acts that replace a command depend only on the waiting settings of the channel that it commits
resolved_act-same : (which : ℕ → Bool) (cmd : Cmd) (t : ℕ) (a b : List Act) →
    ((channel : ℕ) → and_not_committed which cmd channel ≡ false → waiting_list a channel ≡ waiting_list b channel) →
    resolved_act cmd t a ≡ resolved_act cmd t b
resolved_act-same which (CommitMixer committed) t a b others =
    ap (map (settled_act t)) (others committed (committed_fails (which committed) committed))
resolved_act-same which cmd t a b others = refl

-- a command that is kept leaves a channel that passes the test without waiting settings
none_after_setting : (which : ℕ → Bool) (setting : SettingView) (channel : ℕ) (deferred own : Bool) →
    (setting.place.channel == channel) ≡ own → (deferred && which setting.place.channel) ≡ false → which channel ≡ true →
    (if deferred && own then setting ∷ [] else []) ≡ []
none_after_setting which setting channel false own is e on = refl
none_after_setting which setting channel true false is e on = refl
none_after_setting which setting channel true true is e on =
    absurd (false≢true (sym e ∙ ap which (eqb-true setting.place.channel channel is) ∙ on))

none_after_commit : (passes own : Bool) (waiting : List SettingView) → passes ≡ true → ((passes && not own) ≡ true → waiting ≡ []) →
    (if own then [] else waiting) ≡ []
none_after_commit passes true waiting on none = refl
none_after_commit passes false waiting on none = none (ap (λ b. b && true) on)

none_after : (which : ℕ → Bool) (cmd : Cmd) (channel : ℕ) (before : List Act) → is_deferred_of which cmd ≡ false → which channel ≡ true →
    (and_not_committed which cmd channel ≡ true → waiting_list before channel ≡ []) →
    waiting_after cmd channel (waiting_list before channel) ≡ []
none_after which (Set setting) channel before kept on none =
    ap (waiting_after (Set setting) channel) (none on)
    ∙ none_after_setting which setting channel setting.deferred (setting.place.channel == channel) refl kept on
none_after which (CommitMixer committed) channel before kept on none =
    none_after_commit (which channel) (committed == channel) (waiting_list before channel) on none
none_after which cmd channel before kept on none = none on

-- a deferred setting of a channel that passes the test is none of another channel
not_among : (which : ℕ → Bool) (setting : SettingView) (channel : ℕ) (waiting : List SettingView) (deferred own : Bool) →
    (setting.place.channel == channel) ≡ own → (deferred && which setting.place.channel) ≡ true → which channel ≡ false →
    (if deferred && own then setting ∷ waiting else waiting) ≡ waiting
not_among which setting channel waiting false own is e off = refl
not_among which setting channel waiting true false is e off = refl
not_among which setting channel waiting true true is e off =
    absurd (false≢true (sym off ∙ ap which (sym (eqb-true setting.place.channel channel is)) ∙ e))

-- one more command that both sides keep
IsWithout-act : (which : ℕ → Bool) (t u : ℕ) (cmd : Cmd) (a b : List Act) → t ≡ u → is_deferred_of which cmd ≡ false →
    IsWithout (and_not_committed which cmd) a b → IsWithout which (act_after t cmd ∷ a) (act_after u cmd ∷ b)
IsWithout-act which t u cmd a b now kept h = record {
  layers = ap (with_layers_of cmd) h.layers;
  trails = λ place. λ i.
      if acts_on_content cmd place then act_after (now i) cmd ∷ h.trails (content_origin cmd place) i
      else h.trails (content_origin cmd place) i;
  resolved = ap₂ {A = List Act} {B = List Act} {C = List Act} (λ first rest. first ++ rest)
      (resolved_act-same which cmd t a b h.others ∙ ap (λ n. resolved_act cmd n b) now) h.resolved;
  others = λ channel off. ap (waiting_after cmd channel) (h.others channel (fails_still which cmd channel off));
  none = λ channel on. none_after which cmd channel a kept on (h.none channel);
}

IsWithout-did : (which : ℕ → Bool) (t u : ℕ) (cmd : Cmd) (a b : List Act) → t ≡ u → is_deferred_of which cmd ≡ false →
    IsWithout (and_not_committed which cmd) a b → IsWithout which (acts_of t cmd ++ a) (acts_of u cmd ++ b)
IsWithout-did which t u (PlayTake place take) a b now kept h =
    IsWithout-act which t u (Play place) (act_after t (LoadBg place (played take)) ∷ a) (act_after u (LoadBg place (played take)) ∷ b) now refl
    (IsWithout-act which t u (LoadBg place (played take)) a b now refl h)
IsWithout-did which t u (AddFile marked name) a b now kept h = h
IsWithout-did which t u (RemoveFile marked) a b now kept h = h
IsWithout-did which t u (Value place prop) a b now kept h = h
IsWithout-did which t u Info a b now kept h = h
IsWithout-did which t u cmd a b now kept h = IsWithout-act which t u cmd a b now kept h

-- one more setting that one side leaves out
IsWithout-left : (which : ℕ → Bool) (u : ℕ) (setting : SettingView) (a b : List Act) →
    (setting.deferred && which setting.place.channel) ≡ true → IsWithout which a b → IsWithout which a (act_after u (Set setting) ∷ b)
IsWithout-left which u setting a b out h = record {
  layers = h.layers;
  trails = h.trails;
  resolved =
      h.resolved
      ∙ ap (λ (deferred : Bool). (if deferred then [] else settled_act u setting ∷ []) ++ listed_acts b)
      (sym (and_parts setting.deferred (which setting.place.channel) out).0);
  others = λ channel off.
      h.others channel off
      ∙ sym (not_among which setting channel (waiting_list b channel) setting.deferred (setting.place.channel == channel) refl out off);
  none = h.none;
}

-- a timeline without such settings agrees with the timeline in everything that is looked at later
pub record IsCut (setup : Setup) (which : ℕ → Bool) (a b : List Entry) : Type 0 where
  pub acts : IsWithout which (timeline_acts a) (timeline_acts b)
  pub ticks : timeline_ticks a ≡ timeline_ticks b
  pub foregrounds : timeline_foregrounds a ≡ timeline_foregrounds b
  pub frames : timeline_frames setup a ≡ timeline_frames setup b
  pub sounds : timeline_sounds setup a ≡ timeline_sounds setup b

pub IsCut-did : (setup : Setup) (which : ℕ → Bool) (cmd : Cmd) (a b : List Entry) → is_deferred_of which cmd ≡ false →
    IsCut setup (and_not_committed which cmd) a b → IsCut setup which (Did cmd ∷ a) (Did cmd ∷ b)
IsCut-did setup which cmd a b kept h = record {
  acts = IsWithout-did which (timeline_ticks a) (timeline_ticks b) cmd (timeline_acts a) (timeline_acts b) h.ticks kept h.acts;
  ticks = h.ticks;
  foregrounds = h.foregrounds;
  frames = h.frames;
  sounds = h.sounds;
}

IsCut-left : (setup : Setup) (which : ℕ → Bool) (cmd : Cmd) (a b : List Entry) → is_deferred_of which cmd ≡ true →
    IsCut setup (and_not_committed which cmd) a b → IsCut setup which a (Did cmd ∷ b)
IsCut-left setup which (Set setting) a b out h = record {
  acts = IsWithout-left which (timeline_ticks b) setting (timeline_acts a) (timeline_acts b) out h.acts;
  ticks = h.ticks;
  foregrounds = h.foregrounds;
  frames = h.frames;
  sounds = h.sounds;
}
IsCut-left setup which cmd a b out h = absurd (false≢true out)

-- the resolved acts are equal
resolved-same : (which : ℕ → Bool) (a b : List Act) → IsWithout which a b → resolved_acts a ≡ resolved_acts b
resolved-same which a b h = resolved_acts-listed a ∙ h.resolved ∙ sym (resolved_acts-listed b)

-- the places show equal foregrounds at the next tick
foregrounds-same : (which : ℕ → Bool) (a b : List Act) (t u : ℕ) → IsWithout which a b → t ≡ u → foreground_at a t ≡ foreground_at b u
foregrounds-same which a b t u h now = λ i. λ place. (ready (life (h.trails place i) (now i))).foreground

drawn_by : List Act → ℕ → Option (PlaceView → Option Foreground) → PlaceView → Foreground → Drawn
drawn_by resolved t foregrounds place foreground = record {
  still = source foregrounds foreground.take.spec (head foreground.take foreground.shown);
  old = outgoing_still foregrounds foreground.old foreground.shown;
  trans = (eased foreground.take.trans (step_of foreground)).0;
  step = (eased foreground.take.trans (step_of foreground)).1;
  opacity = number_at (tuned_value (tuning resolved place) Opacity (t + 1)) 0;
  fill = tuned_value (tuning resolved place) Fill (t + 1);
  clip = tuned_value (tuning resolved place) Clip (t + 1);
  volume = number_at (tuned_value (tuning resolved place) Volume (t + 1)) 0;
  keyer = is_one (number_at (tuned_value (tuning resolved place) Keyer (t + 1)) 0);
}

scene-same : (which : ℕ → Bool) (a b : List Act) (t u : ℕ) (f g : Option (PlaceView → Option Foreground)) (channel : ℕ) →
    IsWithout which a b → t ≡ u → f ≡ g → scene_of a t f channel ≡ scene_of b u g channel
unfolding drawn_by
scene-same which a b t u f g channel h now shown =
    λ i. filter_map
    (λ layer. let place : PlaceView = record { channel = channel; layer = layer } in
    option_map (drawn_by (resolved-same which a b h i) (now i) (shown i) place) (ready (life (h.trails place i) (now i))).foreground) (h.layers i)

frames-same : (setup : Setup) (which : ℕ → Bool) (a b : List Entry) → IsCut setup which a b →
    timeline_frames setup (Ticked ∷ a) ≡ timeline_frames setup (Ticked ∷ b)
frames-same setup which a b h =
    λ i. λ channel x y.
    scene_pixel (record { setup = setup; frames = h.frames i }) (size setup channel)
    (scene-same which (timeline_acts a) (timeline_acts b) (timeline_ticks a) (timeline_ticks b)
    (timeline_foregrounds a) (timeline_foregrounds b) channel h.acts h.ticks h.foregrounds i) x y

sounds-same : (setup : Setup) (which : ℕ → Bool) (a b : List Entry) → IsCut setup which a b →
    timeline_sounds setup (Ticked ∷ a) ≡ timeline_sounds setup (Ticked ∷ b)
sounds-same setup which a b h =
    λ i. λ channel pair side.
    scene_sample setup (h.sounds i)
    (scene-same which (timeline_acts a) (timeline_acts b) (timeline_ticks a) (timeline_ticks b)
    (timeline_foregrounds a) (timeline_foregrounds b) channel h.acts h.ticks h.foregrounds i) pair side

pub IsCut-ticked : (setup : Setup) (which : ℕ → Bool) (a b : List Entry) → IsCut setup which a b → IsCut setup which (Ticked ∷ a) (Ticked ∷ b)
IsCut-ticked setup which a b h = record {
  acts = h.acts;
  ticks = ap (λ n. 1 + n) h.ticks;
  foregrounds =
      ap Some (foregrounds-same which (timeline_acts a) (timeline_acts b) (timeline_ticks a) (timeline_ticks b) h.acts h.ticks);
  frames = frames-same setup which a b h;
  sounds = sounds-same setup which a b h;
}

-- everything that is shown, sounded, answered and reported later is equal
pub pixel-same : (setup : Setup) (which : ℕ → Bool) (a b : List Entry) → IsCut setup which a b → (channel x y : ℕ) →
    timeline_pixel setup a channel x y ≡ timeline_pixel setup b channel x y
unfolding timeline_pixel
pixel-same setup which a b h channel x y = λ i. frames-same setup which a b h i channel x y

pub sample-same : (setup : Setup) (which : ℕ → Bool) (a b : List Entry) → IsCut setup which a b → (channel pair side : ℕ) →
    timeline_sample setup a channel pair side ≡ timeline_sample setup b channel pair side
unfolding timeline_sample
sample-same setup which a b h channel pair side = λ i. sounds-same setup which a b h i channel pair side

pub value-same : (setup : Setup) (which : ℕ → Bool) (a b : List Entry) → IsCut setup which a b → (place : PlaceView) (prop : Prop) (now : ℕ) →
    timeline_value a place prop now ≡ timeline_value b place prop now
unfolding timeline_value
value-same setup which a b h place prop now = ap (λ (past : List Act). tuned_value (tuning past place) prop now) (resolved-same which (timeline_acts a) (timeline_acts b) h.acts)

pub statuses-same : (setup : Setup) (which : ℕ → Bool) (a b : List Entry) → IsCut setup which a b →
    timeline_statuses setup a ≡ timeline_statuses setup b
statuses-same setup which a b h =
    λ i. map (λ channel. status_of (filter_map
    (λ layer. (life (h.acts.trails (record { channel = channel; layer = layer }) i) (h.ticks i)).foreground) (h.acts.layers i)))
    (channel_numbers setup)

-- a timeline without waiting settings agrees with the timeline
cut_by : (setup : Setup) (which : ℕ → Bool) (cmd : Cmd) (a b : List Entry) (out : Bool) → is_deferred_of which cmd ≡ out →
    IsCut setup (and_not_committed which cmd) a b → IsCut setup which (if out then a else Did cmd ∷ a) (Did cmd ∷ b)
cut_by setup which cmd a b true is h = IsCut-left setup which cmd a b is h
cut_by setup which cmd a b false is h = IsCut-did setup which cmd a b is h

pub without-cut : (setup : Setup) (which : ℕ → Bool) (entries : List Entry) → IsCut setup which (without_waiting which entries) entries
without-cut setup which [] = record {
  acts = record {
    layers = refl;
    trails = λ place. refl;
    resolved = refl;
    others = λ channel off. refl;
    none = λ channel on. refl;
  };
  ticks = refl;
  foregrounds = refl;
  frames = refl;
  sounds = refl;
}
without-cut setup which (Did cmd ∷ before) =
    cut_by setup which cmd (without_waiting (and_not_committed which cmd) before) before (is_deferred_of which cmd) refl
    (without-cut setup (and_not_committed which cmd) before)
without-cut setup which (Ticked ∷ before) =
    IsCut-ticked setup which (without_waiting which before) before (without-cut setup which before)

no_media : Setup
no_media = record { channels = []; clips = [] }

pub pixel-without : (setup : Setup) (which : ℕ → Bool) (entries : List Entry) (channel x y : ℕ) →
    timeline_pixel setup (without_waiting which entries) channel x y ≡ timeline_pixel setup entries channel x y
pixel-without setup which entries = pixel-same setup which (without_waiting which entries) entries (without-cut setup which entries)

pub sample-without : (setup : Setup) (which : ℕ → Bool) (entries : List Entry) (channel pair side : ℕ) →
    timeline_sample setup (without_waiting which entries) channel pair side ≡ timeline_sample setup entries channel pair side
sample-without setup which entries = sample-same setup which (without_waiting which entries) entries (without-cut setup which entries)

pub value-without : (which : ℕ → Bool) (entries : List Entry) (place : PlaceView) (prop : Prop) (now : ℕ) →
    timeline_value (without_waiting which entries) place prop now ≡ timeline_value entries place prop now
value-without which entries = value-same no_media which (without_waiting which entries) entries (without-cut no_media which entries)

pub statuses-without : (setup : Setup) (which : ℕ → Bool) (entries : List Entry) →
    timeline_statuses setup (without_waiting which entries) ≡ timeline_statuses setup entries
statuses-without setup which entries = statuses-same setup which (without_waiting which entries) entries (without-cut setup which entries)

pub ticks-without : (which : ℕ → Bool) (entries : List Entry) → timeline_ticks (without_waiting which entries) ≡ timeline_ticks entries
ticks-without which entries = (without-cut no_media which entries).ticks

pub waiting-without : (which : ℕ → Bool) (entries : List Entry) (channel : ℕ) → which channel ≡ true →
    waiting_settings (timeline_acts (without_waiting which entries)) channel ≡ []
waiting-without which entries channel on =
    waiting_settings-listed (timeline_acts (without_waiting which entries)) channel ∙ (without-cut no_media which entries).acts.none channel on

-- an earlier part of the shorter timeline is that part of the timeline, without waiting settings too
cut_at : (out : Bool) (cmd : Cmd) (a later : List Entry) (before : List Entry) → (some : ℕ → Bool) × (a ≡ later ++ without_waiting some before) →
    (some : ℕ → Bool) × ((if out then a else Did cmd ∷ a) ≡ (if out then later else Did cmd ∷ later) ++ without_waiting some before)
cut_at true cmd a later before (some, e) = (some, e)
cut_at false cmd a later before (some, e) = (some, ap (λ l. Did cmd ∷ l) e)

pub without-before : (which : ℕ → Bool) (later before : List Entry) → (some : ℕ → Bool) ×
    (without_waiting which (later ++ before) ≡ without_waiting which later ++ without_waiting some before)
without-before which [] before = (which, refl)
without-before which (Did cmd ∷ later) before =
    cut_at (is_deferred_of which cmd) cmd (without_waiting (and_not_committed which cmd) (later ++ before))
    (without_waiting (and_not_committed which cmd) later) before (without-before (and_not_committed which cmd) later before)
without-before which (Ticked ∷ later) before =
    let (some, e) = without-before which later before in (some, ap (λ l. Ticked ∷ l) e)
