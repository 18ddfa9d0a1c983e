-- What a mixer represents, after each command.
use Rattle.std.proofs.Common.{◌≡◌, ℕ, ◌-◌, ◌<◌, ◌≤◌, ◌==◌, Bool, true, false, ◌&&◌, inl, inr, List, [], ◌∷◌, ◌++◌, ℤ, length, get_or, set, map, fold, reverse, sym, ap, ◌∙◌, subst, arith, append_assoc, ◌≢◌, eq-eqb, eqb-true, length-set, if◌then◌else◌, refl}
use Rattle.std.specs.Prelude.{IsTrue, None, Option}
use Rattle.std.proofs.lemmas.Bool.{cases_Bool, cond-true, cond-false, false≢true, and_from, and_left, and_right}
use Rattle.std.proofs.lemmas.List.{get_or-map, get_or-set_other, get_or-set_same, map-append, reverse-append}
use Rattle.std.proofs.lemmas.Simd.{map-map}
use Rattle.play_types.specs.Place.{PlaceView}
use Rattle.play_types.specs.Scene.{IsConfigured}
use Rattle.play_types.specs.Setting.{SettingView, is_same_prop}
use Rattle.play_types.specs.declared.setting.Prop.{Prop}
use Rattle.play_types.specs.declared.command.Cmd.{Cmd}
use Rattle.play_types.specs.declared.transition.Curve.TheVariants.{Linear}
use Rattle.play_types.specs.declared.command.Cmd.TheVariants.{CommitMixer, ResetChannel, ResetLayer, Set, SwapChannels, SwapLayers}
use Rattle.history_model.specs.stage.Act.{Act, act_after}
use Rattle.history_model.specs.stage.WaitingList.{listed_acts, listed_value_at, waiting_list}
use Rattle.history_model.specs.stage.Resolved.{settled_act}
use Rattle.history_model.specs.stage.Trail.{channel_swapped_place, same_place, swapped_place, tuning}
use Rattle.history_model.specs.stage.Value.{all_along, default_of, tuned_value}
use Rattle.history_model.proofs.Listed.{value_at-listed, waiting_settings-listed}
use Rattle.mixer_state.specs.declared.course.Course.{Course}
use Rattle.mixer_state.specs.declared.courses.Courses.{Courses}
use Rattle.mixer_state.specs.Course.{numbers_at, set_out}
use Rattle.mixer_state.specs.Entries.{Entries, Table, course_at, course_of, courses_or, deferred_setting, table_of, waiting_lists}
use Rattle.mixer_state.specs.Mixer.{MixerView, values_of, waiting_on}
use Rattle.mixer_state.specs.Past.{Represents, TakesCommand, leaves_mixer}
use Rattle.mixer_state.specs.inner.Changes.{course_after, courses_after, with_entry, with_setting, with_settings, without_channel}
use Rattle.mixer_state.specs.Ranges.{AreRunning}
use Rattle.mixer_state.proofs.Exchanged.{configured-channel_swapped, configured-swapped, same_place-true}
use Rattle.mixer_state.proofs.Numbers.{AreNumbers-default, all_along-once}
use Rattle.mixer_state.proofs.Ways.{AreNumbers-course, course_of-after, course_of-standing, numbers_at-default}

-- the value of a property of a place by its course
pub values_of-course : (mixer : MixerView) (place : PlaceView) (prop : Prop) (t : ℕ) →
    values_of mixer place prop t ≡ numbers_at (course_at (table_of mixer.tuned) place prop) t
unfolding values_of
values_of-course mixer place prop t = refl

-- the course of a property of a place after a setting
pub course_at-setting : (ticks : ℕ) (table : Table) (setting : SettingView) (place : PlaceView) (prop : Prop) →
    course_at (with_setting ticks table setting) place prop ≡ course_after ticks place prop (course_at table place prop) setting
course_at-setting ticks table setting place prop =
    let there : Bool = same_place setting.place place in
    let same : Bool = is_same_prop setting.prop prop in
    let now : Course = course_at table place prop in
    let anew : Courses = courses_after ticks setting (courses_or (table setting.place)) in
    let found = λ (entry : Option Courses). course_of (courses_or entry) prop in
    elim (cases_Bool there) [
      | inl e ↦
          ap found (cond-true there _ (table place) e)
          ∙ ap (λ (p : PlaceView). course_of (courses_after ticks setting (courses_or (table p))) prop) (same_place-true setting.place place e)
          ∙ course_of-after ticks setting (courses_or (table place)) prop
          ∙ sym (ap (λ (b : Bool). if b && same then set_out ticks setting now else now) e)
      | inr n ↦
          ap found (cond-false there _ (table place) n)
          ∙ sym (ap (λ (b : Bool). if b && same then set_out ticks setting now else now) n)
    ]

pub course_at-settings : (ticks : ℕ) (settings : List SettingView) (table : Table) (place : PlaceView) (prop : Prop) →
    course_at (with_settings ticks table settings) place prop ≡ fold (course_after ticks place prop) (course_at table place prop) settings
course_at-settings ticks [] table place prop = refl
course_at-settings ticks (x ∷ xs) table place prop =
    course_at-settings ticks xs (with_setting ticks table x) place prop
    ∙ ap (λ (course : Course). fold (course_after ticks place prop) course xs) (course_at-setting ticks table x place prop)

-- from now on the numbers of a course are those that the acts give
pub Follows : PlaceView → Prop → ℕ → Course → List Act → Type 0
Follows place prop ticks course acts = (t : ℕ) → ticks ≤ t → numbers_at course t ≡ tuned_value (tuning acts place) prop t

-- a setting of another property leaves the value, and one of this property starts a course from it
tuned_value-same : (acts : List Act) (prop : Prop) (ticks t : ℕ) (setting : SettingView) → is_same_prop setting.prop prop ≡ true →
    tuned_value (settled_act ticks setting ∷ acts) prop t ≡ all_along setting.curve (tuned_value acts prop ticks) setting.values (t - ticks) setting.duration
tuned_value-same acts prop ticks t setting e = rw (e, tuned_value)

tuned_value-other : (acts : List Act) (prop : Prop) (ticks t : ℕ) (setting : SettingView) → is_same_prop setting.prop prop ≡ false →
    tuned_value (settled_act ticks setting ∷ acts) prop t ≡ tuned_value acts prop t
tuned_value-other acts prop ticks t setting e = rw (e, tuned_value)

module _ (place : PlaceView) (prop : Prop) (ticks : ℕ) where
  -- one more setting, among the acts and on the course
  pub Follows-setting : (course : Course) (acts : List Act) (setting : SettingView) → Follows place prop ticks course acts →
      Follows place prop ticks (course_after ticks place prop course setting) (settled_act ticks setting ∷ acts)
  unfolding Follows
  Follows-setting course acts setting follows t later =
      let now : ticks ≤ ticks = omega arith in
      let there : Bool = same_place setting.place place in
      let same : Bool = is_same_prop setting.prop prop in
      let earlier : List Act = tuning acts place in
      let code = λ (c : Course). numbers_at c t in
      let model = λ (ys : List Act). tuned_value ys prop t in
      elim (cases_Bool there) [
        | inl h ↦ elim (cases_Bool same) [
          | inl s ↦
              ap code (cond-true (there && same) (set_out ticks setting course) course (and_from there same h s))
              ∙ ap (λ (from : List ℤ). all_along setting.curve from setting.values (t - ticks) setting.duration) (follows ticks now)
              ∙ sym (ap model (cond-true there (settled_act ticks setting ∷ earlier) earlier h) ∙ tuned_value-same earlier prop ticks t setting s)
          | inr n ↦
              ap code (cond-false (there && same) (set_out ticks setting course) course (and_right there same n))
              ∙ follows t later
              ∙ sym (ap model (cond-true there (settled_act ticks setting ∷ earlier) earlier h) ∙ tuned_value-other earlier prop ticks t setting n)
        ]
        | inr n ↦
            ap code (cond-false (there && same) (set_out ticks setting course) course (and_left there same n))
            ∙ follows t later
            ∙ sym (ap model (cond-false there (settled_act ticks setting ∷ earlier) earlier n))
      ]

  -- settings that are started together, the first first, and the last first among the acts
  pub Follows-group : (settings : List SettingView) (course : Course) (acts : List Act) → Follows place prop ticks course acts →
      Follows place prop ticks (fold (course_after ticks place prop) course settings)
      (map (settled_act ticks) (reverse settings) ++ acts)
  Follows-group [] course acts follows = follows
  Follows-group (x ∷ xs) course acts follows =
      let rest = Follows-group xs (course_after ticks place prop course x) (settled_act ticks x ∷ acts)
      (Follows-setting course acts x follows) in
      let same : map (settled_act ticks) (reverse xs) ++ (settled_act ticks x ∷ acts) ≡ map (settled_act ticks) (reverse (x ∷ xs)) ++ acts =
      sym (ap (λ (ys : List SettingView). map (settled_act ticks) ys ++ acts) (reverse-append (x ∷ []) xs)
      ∙ ap (λ (ys : List Act). ys ++ acts) (map-append (settled_act ticks) (reverse xs) (x ∷ []))
      ∙ append_assoc (map (settled_act ticks) (reverse xs)) (settled_act ticks x ∷ []) acts) in
      subst (Follows place prop ticks (fold (course_after ticks place prop) course (x ∷ xs))) same rest

-- what a mixer represents, by the list of settings that wait
values_by : (mixer : MixerView) (acts : List Act) (ticks : ℕ) → Represents mixer acts ticks → (place : PlaceView) (prop : Prop) (t : ℕ) →
    IsConfigured mixer.channels place.channel → ticks ≤ t → values_of mixer place prop t ≡ listed_value_at acts place prop t
values_by mixer acts ticks represents place prop t of_place later =
    represents.values place prop t of_place later ∙ value_at-listed acts place prop t

waiting_by : (mixer : MixerView) (acts : List Act) (ticks : ℕ) → Represents mixer acts ticks → (channel : ℕ) →
    IsConfigured mixer.channels channel → waiting_on mixer channel ≡ waiting_list acts channel
waiting_by mixer acts ticks represents channel of_channel = represents.waiting channel of_channel ∙ waiting_settings-listed acts channel

-- what is to be shown of a mixer after a command
goes_on : (before after : MixerView) (cmd : Cmd) (acts : List Act) (ticks : ℕ) → after.channels ≡ before.channels → after.latest ≤ ticks →
    ((place : PlaceView) (prop : Prop) (t : ℕ) → IsConfigured before.channels place.channel → ticks ≤ t →
    values_of after place prop t ≡ listed_value_at (act_after ticks cmd ∷ acts) place prop t) →
    ((channel : ℕ) → IsConfigured before.channels channel → waiting_on after channel ≡ waiting_list (act_after ticks cmd ∷ acts) channel) →
    Represents after (act_after ticks cmd ∷ acts) ticks
goes_on before after cmd acts ticks same latest values waiting = record {
  latest = latest;
  values = λ place prop t of_place later.
      values place prop t (subst (λ (n : ℕ). IsConfigured n place.channel) same of_place) later
      ∙ sym (value_at-listed (act_after ticks cmd ∷ acts) place prop t);
  waiting = λ channel of_channel.
      waiting channel (subst (λ (n : ℕ). IsConfigured n channel) same of_channel)
      ∙ sym (waiting_settings-listed (act_after ticks cmd ∷ acts) channel);
}

-- the settings that wait on a channel, if they stay
stays_waiting : (before after : MixerView) → after.waiting ≡ before.waiting → (channel : ℕ) → waiting_on after channel ≡ waiting_on before channel
stays_waiting before after e channel = ap (λ (lists : List (List SettingView)). get_or lists (channel - 1) []) e

module _ (before after : MixerView) (acts : List Act) (ticks : ℕ) (represents : Represents before acts ticks) where
  -- the courses of a mixer follow the acts that it represents
  follows : (place : PlaceView) (prop : Prop) → IsConfigured before.channels place.channel →
      Follows place prop ticks (course_at (table_of before.tuned) place prop) (listed_acts acts)
  unfolding Follows
  follows place prop of_place t later = sym (values_of-course before place prop t) ∙ values_by before acts ticks represents place prop t of_place later

  -- after a setting
  pub set_represents : (setting : SettingView) → table_of after.tuned ≡ with_setting ticks (table_of before.tuned) setting →
      after.channels ≡ before.channels → after.latest ≤ ticks → after.waiting ≡ before.waiting →
      Represents after (act_after ticks (Set (record setting { deferred = false })) ∷ acts) ticks
  unfolding Follows
  set_represents setting now same latest waits =
      goes_on before after (Set (record setting { deferred = false })) acts ticks same latest
      (λ place prop t of_place later.
      values_of-course after place prop t
      ∙ ap (λ (table : Table). numbers_at (course_at table place prop) t) now
      ∙ ap (λ (course : Course). numbers_at course t) (course_at-setting ticks (table_of before.tuned) setting place prop)
      ∙ Follows-setting place prop ticks (course_at (table_of before.tuned) place prop) (listed_acts acts) setting
      (follows place prop of_place) t later)
      (λ channel of_channel. stays_waiting before after waits channel ∙ waiting_by before acts ticks represents channel of_channel)

  -- after settings that waited on a channel are started
  pub commit_represents : (channel : ℕ) (waited : List SettingView) →
      waiting_on before channel ≡ map deferred_setting (reverse waited) → IsConfigured before.channels channel →
      table_of after.tuned ≡ with_settings ticks (table_of before.tuned) waited →
      after.channels ≡ before.channels → after.latest ≤ ticks →
      ((other : ℕ) → IsConfigured before.channels other → waiting_on after other ≡ (if channel == other then [] else waiting_on before other)) →
      Represents after (act_after ticks (CommitMixer channel) ∷ acts) ticks
  unfolding Follows
  commit_represents channel waited had of_channel now same latest waits =
      let group : map (settled_act ticks) (reverse waited) ≡ map (settled_act ticks) (waiting_list acts channel) =
      sym (map-map (settled_act ticks) deferred_setting (reverse waited))
      ∙ ap (map (settled_act ticks)) (sym had ∙ waiting_by before acts ticks represents channel of_channel) in
      goes_on before after (CommitMixer channel) acts ticks same latest
      (λ place prop t of_place later.
      values_of-course after place prop t
      ∙ ap (λ (table : Table). numbers_at (course_at table place prop) t) now
      ∙ ap (λ (course : Course). numbers_at course t) (course_at-settings ticks waited (table_of before.tuned) place prop)
      ∙ Follows-group place prop ticks waited (course_at (table_of before.tuned) place prop) (listed_acts acts)
      (follows place prop of_place) t later
      ∙ ap (λ (ys : List Act). tuned_value (tuning (ys ++ listed_acts acts) place) prop t) group)
      (λ other of_other.
      waits other of_other
      ∙ ap (λ (ys : List SettingView). if channel == other then [] else ys) (waiting_by before acts ticks represents other of_other))

  -- after a swap a place has the values that the place exchanged with it had
  moved : (from : PlaceView → PlaceView) → ((place : PlaceView) → table_of after.tuned place ≡ table_of before.tuned (from place)) →
      (place : PlaceView) (prop : Prop) (t : ℕ) → values_of after place prop t ≡ values_of before (from place) prop t
  moved from now place prop t =
      values_of-course after place prop t
      ∙ ap (λ (entry : Option Courses). numbers_at (course_of (courses_or entry) prop) t) (now place)
      ∙ sym (values_of-course before (from place) prop t)

  pub swap_layers_represents : (a b : PlaceView) → IsConfigured before.channels a.channel → IsConfigured before.channels b.channel →
      ((place : PlaceView) → table_of after.tuned place ≡ table_of before.tuned (swapped_place a b place)) →
      after.channels ≡ before.channels → after.latest ≡ before.latest → after.waiting ≡ before.waiting →
      Represents after (act_after ticks (SwapLayers a b true) ∷ acts) ticks
  swap_layers_represents a b of_a of_b now same latest waits =
      goes_on before after (SwapLayers a b true) acts ticks same (omega (arith, latest, represents.latest))
      (λ place prop t of_place later.
      moved (swapped_place a b) now place prop t
      ∙ values_by before acts ticks represents (swapped_place a b place) prop t (configured-swapped before.channels a b place of_a of_b of_place) later)
      (λ channel of_channel. stays_waiting before after waits channel ∙ waiting_by before acts ticks represents channel of_channel)

  pub swap_channels_represents : (a b : ℕ) → IsConfigured before.channels a → IsConfigured before.channels b →
      ((place : PlaceView) → table_of after.tuned place ≡ table_of before.tuned (channel_swapped_place a b place)) →
      after.channels ≡ before.channels → after.latest ≡ before.latest → after.waiting ≡ before.waiting →
      Represents after (act_after ticks (SwapChannels a b true) ∷ acts) ticks
  swap_channels_represents a b of_a of_b now same latest waits =
      goes_on before after (SwapChannels a b true) acts ticks same (omega (arith, latest, represents.latest))
      (λ place prop t of_place later.
      moved (channel_swapped_place a b) now place prop t
      ∙ values_by before acts ticks represents (channel_swapped_place a b place) prop t (configured-channel_swapped before.channels a b place of_a of_b of_place) later)
      (λ channel of_channel. stays_waiting before after waits channel ∙ waiting_by before acts ticks represents channel of_channel)

  -- a place without an entry has its defaults
  absent : (place : PlaceView) (prop : Prop) (t : ℕ) → table_of after.tuned place ≡ None → values_of after place prop t ≡ default_of prop
  absent place prop t none =
      values_of-course after place prop t
      ∙ ap (λ (entry : Option Courses). numbers_at (course_of (courses_or entry) prop) t) none
      ∙ ap (λ (course : Course). numbers_at course t) (course_of-standing prop)
      ∙ numbers_at-default prop t

  stays : (place : PlaceView) (prop : Prop) (t : ℕ) → table_of after.tuned place ≡ table_of before.tuned place →
      values_of after place prop t ≡ values_of before place prop t
  stays place prop t same =
      values_of-course after place prop t
      ∙ ap (λ (entry : Option Courses). numbers_at (course_of (courses_or entry) prop) t) same
      ∙ sym (values_of-course before place prop t)

  -- a reset sets out from four numbers, and is at the defaults at once
  reset_is : (latest : ℕ) → AreRunning latest (table_of before.tuned) → (place : PlaceView) (prop : Prop) (t : ℕ) → IsConfigured before.channels place.channel →
      all_along Linear (listed_value_at acts place prop ticks) (default_of prop) (t - ticks) 0 ≡ default_of prop
  unfolding Follows
  reset_is latest running place prop t of_place =
      let now : ticks ≤ ticks = omega arith in
      let numbers = AreNumbers-course prop latest ticks (course_at (table_of before.tuned) place prop) (running place prop) in
      let four : length (listed_value_at acts place prop ticks) ≡ 4 =
      ap (λ (ys : List ℤ). length ys) (sym (follows place prop of_place ticks now)) ∙ numbers.four in
      let of_default = AreNumbers-default prop in
      all_along-once Linear (listed_value_at acts place prop ticks) (default_of prop) (t - ticks) (four ∙ sym of_default.four)

  pub reset_layer_represents : (latest : ℕ) → AreRunning latest (table_of before.tuned) → (at : PlaceView) →
      table_of after.tuned ≡ with_entry at None (table_of before.tuned) →
      after.channels ≡ before.channels → after.latest ≡ before.latest → after.waiting ≡ before.waiting →
      Represents after (act_after ticks (ResetLayer at) ∷ acts) ticks
  reset_layer_represents latest running at now same still waits =
      goes_on before after (ResetLayer at) acts ticks same (omega (arith, still, represents.latest))
      (λ place prop t of_place later.
      let model = λ (ys : List Act). tuned_value ys prop t in
      let earlier : List Act = tuning (listed_acts acts) place in
      let act : Act = act_after ticks (ResetLayer at) in
      let found : table_of after.tuned place ≡ with_entry at None (table_of before.tuned) place = ap (λ (table : Table). table place) now in
      elim (cases_Bool (same_place at place)) [
        | inl here ↦
            absent place prop t (found ∙ cond-true (same_place at place) None _ here)
            ∙ sym (ap model (cond-true (same_place at place) (act ∷ earlier) earlier here) ∙ reset_is latest running place prop t of_place)
        | inr away ↦
            stays place prop t (found ∙ cond-false (same_place at place) None _ away)
            ∙ values_by before acts ticks represents place prop t of_place later
            ∙ sym (ap model (cond-false (same_place at place) (act ∷ earlier) earlier away))
      ])
      (λ other of_other. stays_waiting before after waits other ∙ waiting_by before acts ticks represents other of_other)

  pub reset_channel_represents : (latest : ℕ) → AreRunning latest (table_of before.tuned) → (channel : ℕ) →
      table_of after.tuned ≡ without_channel channel (table_of before.tuned) →
      after.channels ≡ before.channels → after.latest ≡ before.latest → after.waiting ≡ before.waiting →
      Represents after (act_after ticks (ResetChannel channel) ∷ acts) ticks
  reset_channel_represents latest running channel now same still waits =
      goes_on before after (ResetChannel channel) acts ticks same (omega (arith, still, represents.latest))
      (λ place prop t of_place later.
      let model = λ (ys : List Act). tuned_value ys prop t in
      let earlier : List Act = tuning (listed_acts acts) place in
      let act : Act = act_after ticks (ResetChannel channel) in
      let found : table_of after.tuned place ≡ without_channel channel (table_of before.tuned) place = ap (λ (table : Table). table place) now in
      elim (cases_Bool (channel == place.channel)) [
        | inl here ↦
            absent place prop t (found ∙ cond-true (channel == place.channel) None _ here)
            ∙ sym (ap model (cond-true (channel == place.channel) (act ∷ earlier) earlier here) ∙ reset_is latest running place prop t of_place)
        | inr away ↦
            stays place prop t (found ∙ cond-false (channel == place.channel) None _ away)
            ∙ values_by before acts ticks represents place prop t of_place later
            ∙ sym (ap model (cond-false (channel == place.channel) (act ∷ earlier) earlier away))
      ])
      (λ other of_other. stays_waiting before after waits other ∙ waiting_by before acts ticks represents other of_other)

-- after a setting that waits
pub takes_deferred : (before after : MixerView) (setting : SettingView) (ticks : ℕ) → after.tuned ≡ before.tuned →
    after.channels ≡ before.channels → after.latest ≡ before.latest →
    ((channel : ℕ) → IsConfigured before.channels channel →
    waiting_on after channel
    ≡ (if setting.place.channel == channel then deferred_setting setting ∷ waiting_on before channel else waiting_on before channel)) →
    TakesCommand (Set (deferred_setting setting)) ticks before after
unfolding values_of
takes_deferred before after setting ticks now same latest waits acts represents =
    goes_on before after (Set (deferred_setting setting)) acts ticks same (omega (arith, latest, represents.latest))
    (λ place prop t of_place later.
    ap (λ (tuned : Entries). numbers_at (course_at (table_of tuned) place prop) t) now ∙ values_by before acts ticks represents place prop t of_place later)
    (λ channel of_channel.
    waits channel of_channel
    ∙ ap (λ (ys : List SettingView). if setting.place.channel == channel then deferred_setting setting ∷ ys else ys)
    (waiting_by before acts ticks represents channel of_channel))

-- a mixer without entries represents no acts
pub represents_none : (mixer : MixerView) (ticks : ℕ) → ((place : PlaceView) → table_of mixer.tuned place ≡ None) → mixer.latest ≤ ticks →
    ((channel : ℕ) → IsConfigured mixer.channels channel → waiting_on mixer channel ≡ []) → Represents mixer [] ticks
represents_none mixer ticks none latest waits = record {
  latest = latest;
  values = λ place prop t of_place later.
      values_of-course mixer place prop t
      ∙ ap (λ (entry : Option Courses). numbers_at (course_of (courses_or entry) prop) t) (none place)
      ∙ ap (λ (course : Course). numbers_at course t) (course_of-standing prop)
      ∙ numbers_at-default prop t;
  waiting = waits;
}

-- the settings that wait on each channel, once those of one are replaced
module _ (lists : List (List SettingView)) (channel other : ℕ) (of_channel : IsConfigured (length lists) channel) (of_other : IsConfigured (length lists) other) where
  waiting-set : (settings : List SettingView) →
      get_or (waiting_lists (set lists (channel - 1) settings)) (other - 1) []
      ≡ (if channel == other then map deferred_setting (reverse settings) else get_or (waiting_lists lists) (other - 1) [])
  waiting-set settings =
      let W = λ (xs : List SettingView). map deferred_setting (reverse xs) in
      let count : length (set lists (channel - 1) settings) ≡ length lists = length-set lists (channel - 1) settings in
      let here : channel - 1 < length lists = omega (arith, of_channel.0, of_channel.1) in
      let there : other - 1 < length lists = omega (arith, of_other.0, of_other.1) in
      get_or-map W (set lists (channel - 1) settings) (other - 1) [] [] (omega (arith, count, there))
      ∙ elim (cases_Bool (channel == other)) [
        | inl e ↦
            ap (λ (n : ℕ). W (get_or (set lists (channel - 1) settings) (n - 1) [])) (sym (eqb-true channel other e))
            ∙ ap W (get_or-set_same lists (channel - 1) settings [] here)
            ∙ sym (cond-true (channel == other) (W settings) (get_or (waiting_lists lists) (other - 1) []) e)
        | inr n ↦
            let apart : other - 1 ≢ channel - 1 = λ e. false≢true (sym n ∙ eq-eqb channel other (omega (arith, of_channel.0, of_other.0, e))) in
            ap W (get_or-set_other lists (channel - 1) (other - 1) settings [] apart)
            ∙ sym (get_or-map W lists (other - 1) [] [] there)
            ∙ sym (cond-false (channel == other) (W settings) (get_or (waiting_lists lists) (other - 1) []) n)
      ]

  -- by one more, or by none
  pub waiting-push : (setting : SettingView) →
      get_or (waiting_lists (set lists (channel - 1) (get_or lists (channel - 1) [] ++ setting ∷ []))) (other - 1) []
      ≡ (if channel == other then deferred_setting setting ∷ get_or (waiting_lists lists) (other - 1) [] else get_or (waiting_lists lists) (other - 1) [])
  waiting-push setting =
      let W = λ (xs : List SettingView). map deferred_setting (reverse xs) in
      let there : other - 1 < length lists = omega (arith, of_other.0, of_other.1) in
      let rest : List SettingView = get_or (waiting_lists lists) (other - 1) [] in
      waiting-set (get_or lists (channel - 1) [] ++ setting ∷ [])
      ∙ elim (cases_Bool (channel == other)) [
        | inl e ↦
            cond-true (channel == other) (W (get_or lists (channel - 1) [] ++ setting ∷ [])) rest e
            ∙ ap (map deferred_setting) (reverse-append (get_or lists (channel - 1) []) (setting ∷ []))
            ∙ ap (λ (n : ℕ). deferred_setting setting ∷ W (get_or lists (n - 1) [])) (eqb-true channel other e)
            ∙ ap (λ (xs : List SettingView). deferred_setting setting ∷ xs) (sym (get_or-map W lists (other - 1) [] [] there))
            ∙ sym (cond-true (channel == other) (deferred_setting setting ∷ rest) rest e)
        | inr n ↦
            cond-false (channel == other) (W (get_or lists (channel - 1) [] ++ setting ∷ [])) rest n
            ∙ sym (cond-false (channel == other) (deferred_setting setting ∷ rest) rest n)
      ]

  pub waiting-clear : get_or (waiting_lists (set lists (channel - 1) [])) (other - 1) []
      ≡ (if channel == other then [] else get_or (waiting_lists lists) (other - 1) [])
  waiting-clear = waiting-set []

-- what waits on a channel
pub waiting-at : (lists : List (List SettingView)) (channel : ℕ) → IsConfigured (length lists) channel →
    get_or (waiting_lists lists) (channel - 1) [] ≡ map deferred_setting (reverse (get_or lists (channel - 1) []))
waiting-at lists channel of_channel =
    get_or-map (λ (xs : List SettingView). map deferred_setting (reverse xs)) lists (channel - 1) [] [] (omega (arith, of_channel.0, of_channel.1))

-- a command that changes no value and no waiting setting leaves what a mixer represents
pub takes_left : (cmd : Cmd) (mixer : MixerView) (ticks : ℕ) → IsTrue (leaves_mixer cmd) → TakesCommand cmd ticks mixer mixer
takes_left (SwapLayers a b true) mixer ticks leaves acts represents = absurd (false≢true leaves)
takes_left (SwapChannels a b true) mixer ticks leaves acts represents = absurd (false≢true leaves)
takes_left (Set setting) mixer ticks leaves acts represents = absurd (false≢true leaves)
takes_left (CommitMixer channel) mixer ticks leaves acts represents = absurd (false≢true leaves)
takes_left (ResetLayer at) mixer ticks leaves acts represents = absurd (false≢true leaves)
takes_left (ResetChannel channel) mixer ticks leaves acts represents = absurd (false≢true leaves)
takes_left cmd mixer ticks leaves acts represents =
    goes_on mixer mixer cmd acts ticks refl represents.latest (values_by mixer acts ticks represents) (waiting_by mixer acts ticks represents)
