-- What a command and a tick make of the stage.
use Rattle.std.proofs.Common.{◌≡◌, ℕ, ◌+◌, ◌==◌, eqb, Bool, true, false, ◌&&◌, ◌||◌, List, [], ◌∷◌, ◌++◌, length, refl, sym, ap, ◌∙◌, arith, eqb-true, if◌then◌else◌}
use Rattle.std.proofs.lemmas.Bool.{and_parts, cond-false, or_parts}
use Rattle.play_types.specs.Place.{PlaceView}
use Rattle.play_types.specs.Setting.{SettingView}
use Rattle.play_types.specs.Take.{played}
use Rattle.play_types.specs.declared.command.Cmd.{Cmd}
use Rattle.play_types.specs.declared.command.Cmd.TheVariants.{Load, LoadBg, Play, PlayTake, Pause, Resume, StopLayer, ClearLayer, ClearChannel, SwapLayers, SwapChannels, Set, CommitMixer, ResetLayer, ResetChannel, AddFile, RemoveFile, Value, Info}
use Rattle.history_model.specs.stage.Act.{Act, act_after, acts_of}
use Rattle.history_model.specs.stage.Trail.{channel_swapped_place, same_place, swapped_place}
use Rattle.history_model.specs.stage.Life.{Life}
use Rattle.history_model.specs.stage.Live.{state}
use Rattle.history_model.specs.stage.Places.{Places, AreBy, ArePlaces, changed_at, live_places, standing, with_place}
use Rattle.history_model.specs.stage.Resolved.{waiting_settings}
use Rattle.history_model.specs.stage.WaitingList.{waiting_after}
use Rattle.history_model.specs.stage.StageState.{StageState, acts_after_all, exchanged, exchanged_channel, live_after, names_channel, placed_at, some_is_refused, is_refused_by, stage_state, standing_at, state_after, state_after_all, state_one_tick_later, waiting_count_after}
use Rattle.history_model.proofs.Listed.{eqb_turned, waiting_settings-act}
use Rattle.history_model.proofs.places.Lists.{ArePlaces-with_place, same_places, standing-with_place}
use Rattle.history_model.proofs.places.Layers.{ArePlaces-live, standing-live}
use Rattle.history_model.proofs.places.Commands.{ArePlaces-changed, at_one, live_places-tick, places_chosen, standing-cleared, state-act, state-play_take}

-- a list of places with this life at a place of its channel or of another
placed_here : (here : Bool) (layer n : ℕ) (s : Life) (places : Places) → ArePlaces places →
    standing (if here then with_place places layer s else places) n ≡ (if here && eqb layer n then s else standing places n)
placed_here true layer n s places p = standing-with_place places layer n s p
placed_here false layer n s places p = refl

ArePlaces-placed_at : (at : PlaceView) (s : Life) (channel : ℕ) (places : Places) → ArePlaces places → ArePlaces (placed_at at s channel places)
ArePlaces-placed_at at s channel places p =
    places_chosen (at.channel == channel) (with_place places at.layer s) places (ArePlaces-with_place places at.layer s p) p

-- places that pass the test for equal places are equal, and the test is symmetric
equal_places : (a b : PlaceView) → same_place a b ≡ true → a ≡ b
equal_places a b e =
    let parts = and_parts (a.channel == b.channel) (a.layer == b.layer) e in
    λ i. record { channel = eqb-true a.channel b.channel parts.0 i; layer = eqb-true a.layer b.layer parts.1 i }

same_place_turned : (a b : PlaceView) → same_place a b ≡ same_place b a
same_place_turned a b = λ i. eqb_turned a.channel b.channel i && eqb_turned a.layer b.layer i

-- what places hold after two are exchanged
exchanged_tests : (f : PlaceView → Life) (a b place : PlaceView) (is_a is_b : Bool) → same_place place a ≡ is_a → same_place place b ≡ is_b →
    (if is_b then f a else (if is_a then f b else f place)) ≡ f (if is_a then b else (if is_b then a else place))
exchanged_tests f a b place true true e e' = ap f (sym (equal_places place a e) ∙ equal_places place b e')
exchanged_tests f a b place true false e e' = refl
exchanged_tests f a b place false true e e' = refl
exchanged_tests f a b place false false e e' = refl

pub standing-exchanged : (a b : PlaceView) (before : ℕ → Places) → ((channel : ℕ) → ArePlaces (before channel)) → (channel layer : ℕ) →
    standing (exchanged a b before channel) layer ≡ standing_at before (swapped_place a b (record { channel = channel; layer = layer }))
standing-exchanged a b before each channel layer =
    let place : PlaceView = record { channel = channel; layer = layer } in
    let first : Places = placed_at a (standing_at before b) channel (before channel) in
    placed_here (b.channel == channel) b.layer layer (standing_at before a) first
    (ArePlaces-placed_at a (standing_at before b) channel (before channel) (each channel))
    ∙ ap (λ (s : Life). if same_place b place then standing_at before a else s)
    (placed_here (a.channel == channel) a.layer layer (standing_at before b) (before channel) (each channel))
    ∙ (λ i. if same_place_turned b place i then standing_at before a
    else (if same_place_turned a place i then standing_at before b else standing_at before place))
    ∙ exchanged_tests (standing_at before) a b place (same_place place a) (same_place place b) refl refl

pub ArePlaces-exchanged : (a b : PlaceView) (before : ℕ → Places) → ((channel : ℕ) → ArePlaces (before channel)) → (channel : ℕ) →
    ArePlaces (exchanged a b before channel)
ArePlaces-exchanged a b before each channel =
    ArePlaces-placed_at b (standing_at before a) channel (placed_at a (standing_at before b) channel (before channel))
    (ArePlaces-placed_at a (standing_at before b) channel (before channel) (each channel))

-- a layer of a channel that is exchanged
exchanged_layer : (a b channel layer : ℕ) →
    record { channel = exchanged_channel a b channel; layer = layer } ≡ channel_swapped_place a b (record { channel = channel; layer = layer })
exchanged_layer a b channel layer = by_tests (channel == a) (channel == b)
  where
    by_tests : (is_a is_b : Bool) →
        (let place : PlaceView = record { channel = if is_a then b else (if is_b then a else channel); layer = layer } in place)
        ≡ (let before : PlaceView = record { channel = channel; layer = layer } in
        if is_a then record before { channel = b } else (if is_b then record before { channel = a } else before))
    by_tests true is_b = refl
    by_tests false true = refl
    by_tests false false = refl

-- what a layer of a channel holds after a command
module _ (acts : List Act) (t channel : ℕ) where
  stands-after : (cmd : Cmd) (n : ℕ) →
      standing (live_after cmd (live_places acts t) channel) n ≡ state (acts_of t cmd ++ acts) t (record { channel = channel; layer = n })
  stands-after (Load at take) n = at_one acts t channel at (Load at take) n ∙ sym (state-act acts t (Load at take) (record { channel = channel; layer = n }) refl)
  stands-after (LoadBg at take) n = at_one acts t channel at (LoadBg at take) n ∙ sym (state-act acts t (LoadBg at take) (record { channel = channel; layer = n }) refl)
  stands-after (Play at) n = at_one acts t channel at (Play at) n ∙ sym (state-act acts t (Play at) (record { channel = channel; layer = n }) refl)
  stands-after (PlayTake at take) n =
      at_one acts t channel at (PlayTake at take) n
      ∙ sym (state-play_take acts t at (record { channel = channel; layer = n }) (LoadBg at (played take)) (Play at) refl refl refl)
  stands-after (Pause at) n = at_one acts t channel at (Pause at) n ∙ sym (state-act acts t (Pause at) (record { channel = channel; layer = n }) refl)
  stands-after (Resume at) n = at_one acts t channel at (Resume at) n ∙ sym (state-act acts t (Resume at) (record { channel = channel; layer = n }) refl)
  stands-after (StopLayer at) n = at_one acts t channel at (StopLayer at) n ∙ sym (state-act acts t (StopLayer at) (record { channel = channel; layer = n }) refl)
  stands-after (ClearLayer at) n = at_one acts t channel at (ClearLayer at) n ∙ sym (state-act acts t (ClearLayer at) (record { channel = channel; layer = n }) refl)
  stands-after (ClearChannel cleared) n =
      standing-cleared (cleared == channel) n (live_places acts t channel) (λ k. state acts t (record { channel = channel; layer = k })) (standing-live acts t channel)
      ∙ sym (state-act acts t (ClearChannel cleared) (record { channel = channel; layer = n }) refl)
  stands-after (SwapLayers a b transforms) n =
      let from : PlaceView = swapped_place a b (record { channel = channel; layer = n }) in
      standing-exchanged a b (live_places acts t) (ArePlaces-live acts t) channel n ∙ standing-live acts t from.channel from.layer
  stands-after (SwapChannels a b transforms) n =
      standing-live acts t (exchanged_channel a b channel) n ∙ ap (state acts t) (exchanged_layer a b channel n)
  stands-after (Set setting) n = standing-live acts t channel n
  stands-after (CommitMixer committed) n = standing-live acts t channel n
  stands-after (ResetLayer at) n = standing-live acts t channel n
  stands-after (ResetChannel reset) n = standing-live acts t channel n
  stands-after (AddFile marked name) n = standing-live acts t channel n
  stands-after (RemoveFile marked) n = standing-live acts t channel n
  stands-after (Value at prop) n = standing-live acts t channel n
  stands-after Info n = standing-live acts t channel n

-- the live places after a command are lists of places
pub ArePlaces-live_after : (cmd : Cmd) (before : ℕ → Places) → ((channel : ℕ) → ArePlaces (before channel)) → (channel : ℕ) →
    ArePlaces (live_after cmd before channel)
ArePlaces-live_after (Load at take) before each channel = ArePlaces-changed at (Load at take) channel (before channel) (each channel)
ArePlaces-live_after (LoadBg at take) before each channel = ArePlaces-changed at (LoadBg at take) channel (before channel) (each channel)
ArePlaces-live_after (Play at) before each channel = ArePlaces-changed at (Play at) channel (before channel) (each channel)
ArePlaces-live_after (PlayTake at take) before each channel = ArePlaces-changed at (PlayTake at take) channel (before channel) (each channel)
ArePlaces-live_after (Pause at) before each channel = ArePlaces-changed at (Pause at) channel (before channel) (each channel)
ArePlaces-live_after (Resume at) before each channel = ArePlaces-changed at (Resume at) channel (before channel) (each channel)
ArePlaces-live_after (StopLayer at) before each channel = ArePlaces-changed at (StopLayer at) channel (before channel) (each channel)
ArePlaces-live_after (ClearLayer at) before each channel = ArePlaces-changed at (ClearLayer at) channel (before channel) (each channel)
ArePlaces-live_after (ClearChannel cleared) before each channel = places_chosen (cleared == channel) [] (before channel) tt (each channel)
ArePlaces-live_after (SwapLayers a b transforms) before each channel = ArePlaces-exchanged a b before each channel
ArePlaces-live_after (SwapChannels a b transforms) before each channel = each (exchanged_channel a b channel)
ArePlaces-live_after (Set setting) before each channel = each channel
ArePlaces-live_after (CommitMixer committed) before each channel = each channel
ArePlaces-live_after (ResetLayer at) before each channel = each channel
ArePlaces-live_after (ResetChannel reset) before each channel = each channel
ArePlaces-live_after (AddFile marked name) before each channel = each channel
ArePlaces-live_after (RemoveFile marked) before each channel = each channel
ArePlaces-live_after (Value at prop) before each channel = each channel
ArePlaces-live_after Info before each channel = each channel

-- the live places of a channel after a command
pub live_places-live_after : (acts : List Act) (t : ℕ) (cmd : Cmd) (channel : ℕ) →
    live_places (acts_of t cmd ++ acts) t channel ≡ live_after cmd (live_places acts t) channel
live_places-live_after acts t cmd channel =
    let more : List Act = acts_of t cmd ++ acts in
    same_places (live_places more t channel) (live_after cmd (live_places acts t) channel)
    (ArePlaces-live more t channel) (ArePlaces-live_after cmd (live_places acts t) (ArePlaces-live acts t) channel)
    (λ n. standing-live more t channel n ∙ sym (stands-after acts t channel cmd n))

-- the settings that wait after a command, and their number
pub waiting_settings-more : (acts : List Act) (t : ℕ) (cmd : Cmd) (channel : ℕ) →
    waiting_settings (acts_of t cmd ++ acts) channel ≡ waiting_after cmd channel (waiting_settings acts channel)
waiting_settings-more acts t (PlayTake at take) channel =
    waiting_settings-act (act_after t (Play at)) (act_after t (LoadBg at (played take)) ∷ acts) channel
    ∙ waiting_settings-act (act_after t (LoadBg at (played take))) acts channel
waiting_settings-more acts t (AddFile marked name) channel = refl
waiting_settings-more acts t (RemoveFile marked) channel = refl
waiting_settings-more acts t (Value at prop) channel = refl
waiting_settings-more acts t Info channel = refl
waiting_settings-more acts t cmd channel = waiting_settings-act (act_after t cmd) acts channel

one_more : (waits : Bool) (setting : SettingView) (earlier : List SettingView) →
    length (if waits then setting ∷ earlier else earlier) ≡ (if waits then 1 + length earlier else length earlier)
one_more true setting earlier = omega arith
one_more false setting earlier = refl

none_left : (committed : Bool) (earlier : List SettingView) →
    length (if committed then [] else earlier) ≡ (if committed then 0 else length earlier)
none_left true earlier = refl
none_left false earlier = refl

length-waiting_after : (cmd : Cmd) (channel : ℕ) (earlier : List SettingView) →
    length (waiting_after cmd channel earlier) ≡ waiting_count_after cmd channel (length earlier)
length-waiting_after (Load at take) channel earlier = refl
length-waiting_after (LoadBg at take) channel earlier = refl
length-waiting_after (Play at) channel earlier = refl
length-waiting_after (PlayTake at take) channel earlier = refl
length-waiting_after (Pause at) channel earlier = refl
length-waiting_after (Resume at) channel earlier = refl
length-waiting_after (StopLayer at) channel earlier = refl
length-waiting_after (ClearLayer at) channel earlier = refl
length-waiting_after (ClearChannel cleared) channel earlier = refl
length-waiting_after (SwapLayers a b transforms) channel earlier = refl
length-waiting_after (SwapChannels a b transforms) channel earlier = refl
length-waiting_after (Set setting) channel earlier = one_more (setting.deferred && (setting.place.channel == channel)) setting earlier
length-waiting_after (CommitMixer committed) channel earlier = none_left (committed == channel) earlier
length-waiting_after (ResetLayer at) channel earlier = refl
length-waiting_after (ResetChannel reset) channel earlier = refl
length-waiting_after (AddFile marked name) channel earlier = refl
length-waiting_after (RemoveFile marked) channel earlier = refl
length-waiting_after (Value at prop) channel earlier = refl
length-waiting_after Info channel earlier = refl

-- the stage after a command, after some commands, and one tick later
pub stage_state-command : (acts : List Act) (t : ℕ) (cmd : Cmd) →
    stage_state (acts_of t cmd ++ acts) t ≡ state_after cmd (stage_state acts t)
stage_state-command acts t cmd =
    λ i. record {
      places = λ channel. live_places-live_after acts t cmd channel i;
      waiting = λ channel.
          (ap length (waiting_settings-more acts t cmd channel) ∙ length-waiting_after cmd channel (waiting_settings acts channel)) i;
    }

pub stage_state-commands : (acts : List Act) (t : ℕ) (cmds : List Cmd) →
    stage_state (acts_after_all t cmds acts) t ≡ state_after_all cmds (stage_state acts t)
stage_state-commands acts t [] = refl
stage_state-commands acts t (cmd ∷ cmds) =
    stage_state-commands (acts_of t cmd ++ acts) t cmds ∙ ap (state_after_all cmds) (stage_state-command acts t cmd)

pub stage_state-tick : (acts : List Act) (t : ℕ) → AreBy t acts → stage_state acts (t + 1) ≡ state_one_tick_later (stage_state acts t)
stage_state-tick acts t by =
    λ i. record {
      places = λ channel. live_places-tick acts t channel by i;
      waiting = λ channel. length (waiting_settings acts channel);
    }

-- commands in two parts
pub state_after_all-append : (front back : List Cmd) (state : StageState) →
    state_after_all (front ++ back) state ≡ state_after_all back (state_after_all front state)
state_after_all-append [] back state = refl
state_after_all-append (cmd ∷ front) back state = state_after_all-append front back (state_after cmd state)

pub acts_after_all-append : (t : ℕ) (front back : List Cmd) (acts : List Act) →
    acts_after_all t (front ++ back) acts ≡ acts_after_all t back (acts_after_all t front acts)
acts_after_all-append t [] back acts = refl
acts_after_all-append t (cmd ∷ front) back acts = acts_after_all-append t front back (acts_of t cmd ++ acts)

or_again : (x y z w : Bool) → y ≡ (z || w) → (x || y) ≡ ((x || z) || w)
or_again true y z w e = refl
or_again false y z w e = e

pub some_is_refused-append : (front back : List Cmd) (state : StageState) →
    some_is_refused (front ++ back) state ≡ (some_is_refused front state || some_is_refused back (state_after_all front state))
some_is_refused-append [] back state = refl
some_is_refused-append (cmd ∷ front) back state =
    or_again (is_refused_by cmd state) (some_is_refused (front ++ back) (state_after cmd state)) (some_is_refused front (state_after cmd state))
    (some_is_refused back (state_after_all front (state_after cmd state)))
    (some_is_refused-append front back (state_after cmd state))

-- a command does not change the live places of a channel that it does not name
module _ (before : ℕ → Places) (channel : ℕ) where
  unchanged-at : (at : PlaceView) (cmd : Cmd) → (at.channel == channel) ≡ false → changed_at at cmd channel (before channel) ≡ before channel
  unchanged-at at cmd apart = cond-false (eqb at.channel channel) _ (before channel) apart

  unplaced : (at : PlaceView) (s : Life) (places : Places) → (at.channel == channel) ≡ false → placed_at at s channel places ≡ places
  unplaced at s places apart = cond-false (eqb at.channel channel) _ places apart

  unexchanged : (a b : ℕ) → ((a == channel) || (b == channel)) ≡ false → exchanged_channel a b channel ≡ channel
  unexchanged a b apart =
      let parts = or_parts (a == channel) (b == channel) apart in
      cond-false (eqb channel a) b _ (eqb_turned channel a ∙ parts.0) ∙ cond-false (eqb channel b) a channel (eqb_turned channel b ∙ parts.1)

  pub live_after-other : (cmd : Cmd) → names_channel cmd channel ≡ false → live_after cmd before channel ≡ before channel
  live_after-other (Load at take) apart = unchanged-at at (Load at take) apart
  live_after-other (LoadBg at take) apart = unchanged-at at (LoadBg at take) apart
  live_after-other (Play at) apart = unchanged-at at (Play at) apart
  live_after-other (PlayTake at take) apart = unchanged-at at (PlayTake at take) apart
  live_after-other (Pause at) apart = unchanged-at at (Pause at) apart
  live_after-other (Resume at) apart = unchanged-at at (Resume at) apart
  live_after-other (StopLayer at) apart = unchanged-at at (StopLayer at) apart
  live_after-other (ClearLayer at) apart = unchanged-at at (ClearLayer at) apart
  live_after-other (ClearChannel cleared) apart = cond-false (eqb cleared channel) [] (before channel) apart
  live_after-other (SwapLayers a b transforms) apart =
      let parts = or_parts (a.channel == channel) (b.channel == channel) apart in
      unplaced b (standing_at before a) (placed_at a (standing_at before b) channel (before channel)) parts.1
      ∙ unplaced a (standing_at before b) (before channel) parts.0
  live_after-other (SwapChannels a b transforms) apart = ap before (unexchanged a b apart)
  live_after-other (Set setting) apart = refl
  live_after-other (CommitMixer committed) apart = refl
  live_after-other (ResetLayer at) apart = refl
  live_after-other (ResetChannel reset) apart = refl
  live_after-other (AddFile marked name) apart = refl
  live_after-other (RemoveFile marked) apart = refl
  live_after-other (Value at prop) apart = refl
  live_after-other Info apart = refl

-- nor does it change the number of its waiting settings
and_none : (x y : Bool) → y ≡ false → (x && y) ≡ false
and_none true y e = e
and_none false y e = refl

pub waiting_count_after-other : (cmd : Cmd) (channel before : ℕ) → names_channel cmd channel ≡ false → waiting_count_after cmd channel before ≡ before
waiting_count_after-other (Load at take) channel before apart = refl
waiting_count_after-other (LoadBg at take) channel before apart = refl
waiting_count_after-other (Play at) channel before apart = refl
waiting_count_after-other (PlayTake at take) channel before apart = refl
waiting_count_after-other (Pause at) channel before apart = refl
waiting_count_after-other (Resume at) channel before apart = refl
waiting_count_after-other (StopLayer at) channel before apart = refl
waiting_count_after-other (ClearLayer at) channel before apart = refl
waiting_count_after-other (ClearChannel cleared) channel before apart = refl
waiting_count_after-other (SwapLayers a b transforms) channel before apart = refl
waiting_count_after-other (SwapChannels a b transforms) channel before apart = refl
waiting_count_after-other (Set setting) channel before apart =
    cond-false (setting.deferred && (setting.place.channel == channel)) _ before (and_none setting.deferred (setting.place.channel == channel) apart)
waiting_count_after-other (CommitMixer committed) channel before apart = cond-false (eqb committed channel) 0 before apart
waiting_count_after-other (ResetLayer at) channel before apart = refl
waiting_count_after-other (ResetChannel reset) channel before apart = refl
waiting_count_after-other (AddFile marked name) channel before apart = refl
waiting_count_after-other (RemoveFile marked) channel before apart = refl
waiting_count_after-other (Value at prop) channel before apart = refl
waiting_count_after-other Info channel before apart = refl
