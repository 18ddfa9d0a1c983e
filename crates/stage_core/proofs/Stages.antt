-- What a stage keeps through each event, and what it answers and shows by that.
use Rattle.std.proofs.Common.{◌≡◌, ℕ, zero, suc, ◌+◌, ◌-◌, ◌<◌, ◌≤◌, Bool, true, false, List, [], ◌∷◌, ◌++◌, All, length, get_or, map, replicate, refl, sym, ap, ap₂, ◌∙◌, subst, arith, filter_map, le-ltb, take, drop, append-nil}
use Rattle.std.proofs.lemmas.Bool.{false≢true, ltb-false}
use Rattle.std.proofs.lemmas.List.{drop_all, ext_get_or, get_or-map, get_or_default, get_or-replicate, length-map, length-replicate, take_all}
use Rattle.std.proofs.lemmas.List.Elements.{All-from_get_or, All-weaker}
use Rattle.std.proofs.lemmas.List.Folds.{list_any_none}
use Rattle.std.proofs.lemmas.List.FromFn.{length-map-range_with_len, get_or-map-range_with_len}
use Rattle.std.specs.Prelude.{Option, Some, None, option_map}
use Rattle.std.specs.List.{range_with_len}
use Rattle.std.specs.Option.{ForSome}
use Rattle.play_types.specs.Answer.{status_list_of}
use Rattle.play_types.specs.Place.{PlaceView}
use Rattle.play_types.specs.Scene.{IsConfigured}
use Rattle.play_types.specs.History.{stop_at, ticks}
use Rattle.play_types.specs.declared.place.TheConstants.{MAX_CHANNELS, MAX_LIVE_LAYERS}
use Rattle.play_types.specs.declared.command.Cmd.{Cmd}
use Rattle.play_types.specs.declared.command.Cmd.TheVariants.{Load, LoadBg, Play, PlayTake, Pause, Resume, StopLayer, ClearLayer, ClearChannel, SwapLayers, SwapChannels, Set, CommitMixer, ResetLayer, ResetChannel, AddFile, RemoveFile, Value, Info}
use Rattle.play_types.specs.declared.answer.Answer.TheVariants as reply
use Rattle.play_types.specs.declared.answer.Status.{Status}
use Rattle.play_types.specs.declared.event.Tag.{Tag}
use Rattle.play_types.specs.declared.event.Event.{Event}
use Rattle.play_types.specs.declared.event.Event.TheVariants.{Batch, Do, Tick, Stop}
use Rattle.play_types.specs.declared.event.TheConstants.{MAX_TICKS}
use Rattle.play_types.proofs.Histories.{stop_at-append, stop_at-stop}
use Rattle.history_model.specs.pictures.Media.{Setup}
use Rattle.history_model.specs.pictures.Scene.{scene}
use Rattle.history_model.specs.pictures.StageScene.{last_shown}
use Rattle.history_model.specs.stage.Act.{Act, acts_of}
use Rattle.history_model.specs.stage.Acts.{acts}
use Rattle.history_model.specs.stage.Answer.{StageAnswer, answer, command_answer, outcome_of, status_of, statuses}
use Rattle.history_model.specs.stage.Life.{Foreground, Life}
use Rattle.history_model.specs.stage.Live.{state}
use Rattle.history_model.specs.stage.Places.{Places, is_over_limit, one_tick_later, places}
use Rattle.history_model.specs.stage.StageHistory.{foreground_of, stage_after}
use Rattle.history_model.specs.stage.StageState.{StageState, acts_after_all, empty_stage}
use Rattle.history_model.specs.stage.Trail.{acts_on_content, content_origin, trail}
use Rattle.history_model.proofs.Liveness.{acts-tick}
use Rattle.history_model.proofs.places.Histories.{places-states}
use Rattle.history_model.proofs.stage.Histories.{ArePlaces-places, IsWithinLimits-history, acts-stop, places-tick, stage_after-acts, stage_after-start, stage_after-tick}
use Rattle.history_model.proofs.stage.Shown.{last_shown-batch, last_shown-command, last_shown-start, last_shown-stop, last_shown-tick, scene-places, statuses-places}
use Rattle.layer_state.proofs.Growth.{shown-few}
use Rattle.layer_state.proofs.Histories.{acts-past}
use Rattle.layer_state.proofs.Pasts.{IsPast-along}
use Rattle.route_graph.specs.Past.{KeepsForegrounds}
use Rattle.route_graph.specs.Routes.{RoutesView, next_tick, no_ticks}
use Rattle.route_graph.specs.Shown.{shown_at}
use Rattle.history_model.specs.commands.Channels.{IsRouted, IsServed}
use Rattle.stage_core.specs.LiveState.{LiveView, Channels, ShowsStage, live_with, live_with_all, live_one_tick_later, is_refused_on, is_some_over, places_of, some_is_refused_on}
use Rattle.stage_core.specs.inner.Drawn.{drawn_next, mixed_values, scene_next, shown_layer, with_present}
use Rattle.stage_core.specs.Kept.{AreServed, IsMixed, IsShownBefore, IsStage}
use Rattle.stage_core.specs.inner.Settled.{CanTake, counted, settings_of_all, waits_on}
use Rattle.stage_core.specs.inner.Shown.{CanShow, HasOwnRoutes, HasTicksLeft}
use Rattle.stage_core.proofs.Kept.{AllServed, IsLiveStateOf-batch_refused, IsLiveStateOf-batch_taken, IsLiveStateOf-refused, IsLiveStateOf-stop, IsLiveStateOf-taken, acts-batch_refused, acts-batch_taken, acts-refused, acts-taken, live_state_of, length-all, refused-batch, refused-command, refused_by, some_refused_by}
use Rattle.stage_core.proofs.Exchanges.{one_within}
use Rattle.stage_core.proofs.Refusals.{length-places}
use Rattle.stage_core.proofs.Routed.{IsShown-routed, OfPlace-routed, drawn_places, keeps_next, same_on_range}
use Rattle.stage_core.proofs.Takes.{OfPlace}
use Rattle.mixer_state.specs.Mixer.{IsAsBefore, MixerView}
use Rattle.mixer_state.specs.Past.{Represents}
use Rattle.stage_core.proofs.Needs.{settings_of_all-same}
use Rattle.stage_core.proofs.Mixing.{can_take, can_take_all, IsMixed-as_before, IsMixed-event, IsMixed-tick}

map_of_map : {X Y : Type 0} (g : X → Y) (f : ℕ → X) (first m : ℕ) → map g (map f (range_with_len first m)) ≡ map (λ k. g (f k)) (range_with_len first m)
map_of_map g f first zero = refl
map_of_map g f first (suc m) = ap (λ ys. g (f first) ∷ ys) (map_of_map g f (first + 1) m)

-- the channels are those of the stage, in order
pub channels-shown : (n : ℕ) (channels : Channels) (f : ℕ → Places) → length channels ≡ n →
    ((k : ℕ) → IsConfigured n k → places_of k channels ≡ f k) → channels ≡ map f (range_with_len 1 n)
channels-shown n channels f count shows =
    ext_get_or [] channels (map f (range_with_len 1 n)) (count ∙ sym (length-map-range_with_len f 1 n)) (λ i within.
    let here : (i + 1) - 1 ≡ i = omega arith in
    let low : i < n = omega (arith, within, count) in
    ap (λ (j : ℕ). get_or channels j []) (sym here) ∙ shows (i + 1) (omega arith, omega (arith, low))
    ∙ sym (get_or-map-range_with_len f 1 n i (i + 1) [] low (omega arith)))

-- and none has too many places if the stage is within its limits
pub none_over : (n : ℕ) (channels : Channels) (f : ℕ → Places) → length channels ≡ n →
    ((k : ℕ) → IsConfigured n k → places_of k channels ≡ f k) → ((k : ℕ) → length (f k) ≤ MAX_LIVE_LAYERS) → is_some_over channels ≡ false
none_over n channels f count shows few =
    list_any_none is_over_limit channels (All-from_get_or (λ (ps : Places). is_over_limit ps ≡ false) channels [] (λ i within.
    let here : (i + 1) - 1 ≡ i = omega arith in
    ap (λ (j : ℕ). is_over_limit (get_or channels j [])) (sym here)
    ∙ ap is_over_limit (shows (i + 1) (omega arith, omega (arith, within, count)))
    ∙ le-ltb MAX_LIVE_LAYERS (length (f (i + 1))) (few (i + 1))))

-- a stage without events
places_of-empty : (n k : ℕ) → IsConfigured n k → places_of k (replicate n []) ≡ []
places_of-empty n k c = get_or-replicate n (k - 1) [] [] (omega (arith, c.0, c.1))

pub ShowsStage-empty : (n : ℕ) → n ≤ MAX_CHANNELS → ShowsStage n (record { places = replicate n []; waiting = replicate MAX_CHANNELS 0 }) empty_stage
ShowsStage-empty n few = record {
  count = length-replicate n [];
  counts = length-replicate {A = ℕ} MAX_CHANNELS 0;
  few = none_over n (replicate n []) (λ k. []) (length-replicate n []) (places_of-empty n) (λ k. omega arith);
  places = places_of-empty n;
  waiting = λ k c. get_or-replicate MAX_CHANNELS (k - 1) 0 0 (omega (arith, c.0, c.1, few));
}

no_acts : acts [] ≡ []
unfolding acts
no_acts = refl

-- the routes of events after which each place shows what it showed
module _ (n : ℕ) (before after : List Event) (routes : RoutesView) (same : last_shown after ≡ last_shown before) where
  pub IsShownBefore-same : IsShownBefore n before routes → IsShownBefore n after routes
  IsShownBefore-same h = record { count = h.count; shown = subst (KeepsForegrounds n routes.present) (sym same) h.shown }

pub IsStage-new : (n : ℕ) (live saved : LiveView) (mixer : MixerView) (routes : RoutesView) → 1 ≤ n → n ≤ MAX_CHANNELS →
    live ≡ record { places = replicate n []; waiting = replicate MAX_CHANNELS 0 } →
    saved ≡ record { places = replicate n []; waiting = replicate MAX_CHANNELS 0 } → mixer.channels ≡ n →
    Represents mixer [] 0 → routes ≡ no_ticks n → IsStage [] live saved mixer routes
IsStage-new n live saved mixer routes some few e f channels represents r =
    let count : length live.places ≡ n = ap (λ (b : LiveView). length b.places) e ∙ length-replicate n [] in
    let other : length saved.places ≡ n = ap (λ (b : LiveView). length b.places) f ∙ length-replicate n [] in
    record {
      live =
          live_state_of [] live n count some few (subst (AreServed n) (sym no_acts) tt)
          (subst (ShowsStage n live) (sym stage_after-start) (subst (λ (b : LiveView). ShowsStage n b empty_stage) (sym e) (ShowsStage-empty n few)));
      saved = other ∙ sym count;
      mixed = record {
        count = channels ∙ sym count;
        past = subst (λ (past : List Act). Represents mixer past 0) (sym no_acts) represents;
      };
      shown = subst (λ (m : ℕ). IsShownBefore m [] routes) (sym count) (subst (IsShownBefore n []) (sym r)
          (record { count = refl; shown = subst (KeepsForegrounds n None) (sym last_shown-start) tt }));
    }

module _ (events : List Event) (tag : Tag) (cmd : Cmd) (live saved : LiveView) (mixer : MixerView) (routes : RoutesView) (h : IsStage events live saved mixer routes)
    (served : IsServed (length live.places) cmd) where
  -- if it is not refused, the mixer can take it
  pub served_by_mixer : IsServed mixer.channels cmd
  served_by_mixer = subst (λ (n : ℕ). IsServed n cmd) (sym h.mixed.count) served

  pub can_take_one : is_refused_on cmd live ≡ false → CanTake (cmd ∷ []) (ticks events) mixer
  can_take_one e = can_take (length live.places) events mixer h.mixed cmd (refused_by events tag live h.live cmd served ∙ e)

  -- after a command that is refused
  pub IsStage-refused : is_refused_on cmd live ≡ true → IsStage (events ++ Do tag cmd ∷ []) live saved mixer routes
  IsStage-refused e = record {
    live = IsLiveStateOf-refused events tag live h.live cmd served e;
    saved = h.saved;
    mixed =
        IsMixed-event (length live.places) events (Do tag cmd) mixer (acts events) refl h.mixed.count
        (acts-refused events tag live h.live cmd served e) h.mixed.past;
    shown = IsShownBefore-same (length live.places) events (events ++ Do tag cmd ∷ []) routes (last_shown-command events tag cmd) h.shown;
  }

  -- and after one that is not
  pub IsStage-taken : (after : MixerView) → after.channels ≡ mixer.channels →
      ((earlier : List Act) → Represents mixer earlier (ticks events) → Represents after (acts_of (ticks events) cmd ++ earlier) (ticks events)) →
      is_refused_on cmd live ≡ false → IsStage (events ++ Do tag cmd ∷ []) (live_with cmd live) saved after routes
  IsStage-taken after count past e = record {
    live = IsLiveStateOf-taken events tag live h.live cmd served e;
    saved = h.saved ∙ sym (length-places cmd live);
    mixed =
        IsMixed-event (length (live_with cmd live).places) events (Do tag cmd) after (acts_of (ticks events) cmd ++ acts events) refl
        (count ∙ h.mixed.count ∙ sym (length-places cmd live)) (acts-taken events tag live h.live cmd served e) (past (acts events) h.mixed.past);
    shown =
        subst (λ (m : ℕ). IsShownBefore m (events ++ Do tag cmd ∷ []) routes) (sym (length-places cmd live))
        (IsShownBefore-same (length live.places) events (events ++ Do tag cmd ∷ []) routes (last_shown-command events tag cmd) h.shown);
  }

  -- their answers
  pub answer-refused : (setup : Setup) → is_refused_on cmd live ≡ true → answer setup events (Do tag cmd) ≡ StageAnswer.Answered reply.Refused
  unfolding answer
  answer-refused setup e =
      ap (λ (refused : Bool). StageAnswer.Answered (command_answer setup events refused cmd)) (refused-command events tag live h.live cmd served ∙ e)
      ∙ ap StageAnswer.Answered (of_refused cmd e)
    where
      of_refused : (one : Cmd) → is_refused_on one live ≡ true → command_answer setup events true one ≡ reply.Refused
      of_refused (Load at take) over = refl
      of_refused (LoadBg at take) over = refl
      of_refused (Play at) over = refl
      of_refused (PlayTake at take) over = refl
      of_refused (Pause at) over = refl
      of_refused (Resume at) over = refl
      of_refused (StopLayer at) over = refl
      of_refused (ClearLayer at) over = refl
      of_refused (ClearChannel channel) over = refl
      of_refused (SwapLayers a b transforms) over = refl
      of_refused (SwapChannels a b transforms) over = refl
      of_refused (Set setting) over = refl
      of_refused (CommitMixer channel) over = refl
      of_refused (ResetLayer at) over = refl
      of_refused (ResetChannel channel) over = refl
      of_refused (AddFile marked name) over = refl
      of_refused (RemoveFile marked) over = refl
      of_refused (Value at prop) over = absurd (false≢true over)
      of_refused Info over = absurd (false≢true over)

  pub answer-taken : (setup : Setup) → is_refused_on cmd live ≡ false →
      answer setup events (Do tag cmd) ≡ StageAnswer.Answered (command_answer setup events false cmd)
  unfolding answer
  answer-taken setup e =
      ap (λ (refused : Bool). StageAnswer.Answered (command_answer setup events refused cmd)) (refused-command events tag live h.live cmd served ∙ e)

-- each command of a list, one after another
pub AllServed-from : (n : ℕ) (cmds : List Cmd) → All (IsServed n) cmds → AllServed n cmds
AllServed-from n [] h = tt
AllServed-from n (cmd ∷ cmds) h = (h 0 cmd (omega arith), AllServed-from n cmds (λ i d low. h (suc i) d (omega arith)))

module _ (events : List Event) (tag : Tag) (cmds : List Cmd) (live saved : LiveView) (mixer : MixerView) (routes : RoutesView) (h : IsStage events live saved mixer routes)
    (each : All (IsServed (length live.places)) cmds) where
  -- if it is not refused, the mixer can take it
  pub each_by_mixer : All (IsServed mixer.channels) cmds
  each_by_mixer = subst (λ (n : ℕ). All (IsServed n) cmds) (sym h.mixed.count) each

  pub can_take_each : some_is_refused_on cmds live ≡ false → CanTake cmds (ticks events) mixer
  can_take_each e =
      can_take_all (length live.places) events mixer h.mixed cmds
      (some_refused_by events tag live h.live cmds (AllServed-from (length live.places) cmds each) ∙ e)

  -- after a batch that is refused
  pub IsStage-batch_refused : some_is_refused_on cmds live ≡ true → IsStage (events ++ Batch tag cmds ∷ []) live live mixer routes
  IsStage-batch_refused e = record {
    live = IsLiveStateOf-batch_refused events tag live h.live cmds (AllServed-from (length live.places) cmds each) e;
    saved = refl;
    mixed =
        IsMixed-event (length live.places) events (Batch tag cmds) mixer (acts events) refl h.mixed.count
        (acts-batch_refused events tag live h.live cmds (AllServed-from (length live.places) cmds each) e) h.mixed.past;
    shown = IsShownBefore-same (length live.places) events (events ++ Batch tag cmds ∷ []) routes (last_shown-batch events tag cmds) h.shown;
  }

  -- and after one that is not
  pub IsStage-batch_taken : (after : MixerView) → after.channels ≡ mixer.channels →
      ((earlier : List Act) → Represents mixer earlier (ticks events) → Represents after (acts_after_all (ticks events) cmds earlier) (ticks events)) →
      some_is_refused_on cmds live ≡ false → IsStage (events ++ Batch tag cmds ∷ []) (live_with_all cmds live) live after routes
  IsStage-batch_taken after count past e = record {
    live = IsLiveStateOf-batch_taken events tag live h.live cmds (AllServed-from (length live.places) cmds each) e;
    saved = sym (length-all cmds live);
    mixed =
        IsMixed-event (length (live_with_all cmds live).places) events (Batch tag cmds) after (acts_after_all (ticks events) cmds (acts events)) refl
        (count ∙ h.mixed.count ∙ sym (length-all cmds live))
        (acts-batch_taken events tag live h.live cmds (AllServed-from (length live.places) cmds each) e) (past (acts events) h.mixed.past);
    shown =
        subst (λ (m : ℕ). IsShownBefore m (events ++ Batch tag cmds ∷ []) routes) (sym (length-all cmds live))
        (IsShownBefore-same (length live.places) events (events ++ Batch tag cmds ∷ []) routes (last_shown-batch events tag cmds) h.shown);
  }

  -- their answers
  pub answer-batch : (setup : Setup) → answer setup events (Batch tag cmds) ≡ StageAnswer.Answered (outcome_of (some_is_refused_on cmds live))
  unfolding answer
  answer-batch setup =
      ap (λ (refused : Bool). StageAnswer.Answered (outcome_of refused))
      (refused-batch events tag live h.live cmds (AllServed-from (length live.places) cmds each))

module _ (events : List Event) (live saved : LiveView) (mixer : MixerView) (routes : RoutesView) (h : IsStage events live saved mixer routes) where
  -- after memory was reserved for its mixer
  pub IsStage-as_before : (after : MixerView) → IsAsBefore mixer after → IsStage events live saved after routes
  IsStage-as_before after same = record {
    live = h.live;
    saved = h.saved;
    mixed = IsMixed-as_before (length live.places) events mixer h.mixed after same;
    shown = h.shown;
  }

  -- as many settings wait on each channel of the mixer as are counted, so the memory it needs for commands is the counted one
  pub needs_counted : (after : MixerView) → IsAsBefore mixer after → (cmds : List Cmd) → All (IsServed (length live.places)) cmds →
      settings_of_all (waits_on after) cmds ≡ settings_of_all (counted live.waiting) cmds
  needs_counted after same cmds each =
      settings_of_all-same (length live.places) cmds (waits_on after) (counted live.waiting) each
      (λ k c.
      ap (λ (m : MixerView). waits_on m k) same
      ∙ ap length (h.mixed.past.waiting k (subst (λ (n : ℕ). IsConfigured n k) (sym h.mixed.count) c))
      ∙ sym (ap (λ (state : StageState). state.waiting k) (stage_after-acts events))
      ∙ sym (h.live.shows.waiting k c))

  -- the statuses of the channels
  pub statuses-shown : (setup : Setup) → length setup.channels ≡ length live.places →
      status_list_of (map (λ (one : Places). status_of (filter_map foreground_of one)) live.places) (length live.places)
      ≡ status_list_of (statuses setup events) (length setup.channels)
  statuses-shown setup same =
      let n : ℕ = length live.places in
      let listed : map (λ (one : Places). status_of (filter_map foreground_of one)) live.places ≡ statuses setup events =
      ap (map (λ (one : Places). status_of (filter_map foreground_of one))) (channels-shown (length live.places) live.places (places events) refl h.live.shows.places)
      ∙ map_of_map (λ (one : Places). status_of (filter_map foreground_of one)) (places events) 1 (length live.places)
      ∙ ap (λ (m : ℕ). map (λ k. status_of (filter_map foreground_of (places events k))) (range_with_len 1 m)) (sym same)
      ∙ sym (statuses-places setup events) in
      ap₂ (λ (list : List Status) (m : ℕ). status_list_of list m) listed (sym same)

  -- after a stop
  pub IsStage-stop : (tag : Tag) → IsStage (events ++ Stop tag ∷ []) live saved mixer routes
  IsStage-stop tag = record {
    live = IsLiveStateOf-stop events tag live h.live;
    saved = h.saved;
    mixed = IsMixed-event (length live.places) events (Stop tag) mixer (acts events) refl h.mixed.count (acts-stop events tag) h.mixed.past;
    shown = IsShownBefore-same (length live.places) events (events ++ Stop tag ∷ []) routes (last_shown-stop events tag) h.shown;
  }

  -- after a tick
  later_at : (k : ℕ) → IsConfigured (length live.places) k →
      places_of k (map (λ (one : Places). map one_tick_later one) live.places) ≡ places (events ++ Tick ∷ []) k
  later_at k c =
      get_or-map (λ (one : Places). map one_tick_later one) live.places (k - 1) [] [] (omega (arith, c.0, c.1))
      ∙ ap (map one_tick_later) (h.live.shows.places k c) ∙ sym (places-tick events k)

  pub ShowsStage-tick : ShowsStage (length live.places) (live_one_tick_later live) (stage_after (events ++ Tick ∷ []))
  ShowsStage-tick = record {
    count = length-map live.places (λ (one : Places). map one_tick_later one);
    counts = h.live.shows.counts;
    few =
        none_over (length live.places) (map (λ (one : Places). map one_tick_later one) live.places) (places (events ++ Tick ∷ []))
        (length-map live.places (λ (one : Places). map one_tick_later one)) later_at (IsWithinLimits-history (events ++ Tick ∷ [])).places;
    places = later_at;
    waiting = λ k c. h.live.shows.waiting k c ∙ sym (ap (λ (s : StageState). s.waiting k) (stage_after-tick events));
  }

  pub IsStage-tick : IsStage (events ++ Tick ∷ []) (live_one_tick_later live) saved mixer
      (with_present (map (filter_map shown_layer) live.places) (next_tick routes))
  IsStage-tick = record {
    live =
        live_state_of (events ++ Tick ∷ []) (live_one_tick_later live) (length live.places) (length-map live.places (λ (one : Places). map one_tick_later one))
        h.live.some_channels h.live.channels (subst (AreServed (length live.places)) (sym (acts-tick events)) h.live.served) ShowsStage-tick;
    saved = h.saved ∙ sym (length-map live.places (λ (one : Places). map one_tick_later one));
    mixed = subst (λ (m : ℕ). IsMixed m (events ++ Tick ∷ []) mixer) (sym (length-map live.places (λ (one : Places). map one_tick_later one)))
        (IsMixed-tick (length live.places) events mixer (acts-tick events) h.mixed);
    shown = subst (λ (m : ℕ). IsShownBefore m (events ++ Tick ∷ []) (with_present (map (filter_map shown_layer) live.places) (next_tick routes)))
        (sym (length-map live.places (λ (one : Places). map one_tick_later one)))
        (record {
          count = h.shown.count;
          shown =
              subst (KeepsForegrounds (length live.places) (Some (map (filter_map shown_layer) live.places))) (sym (last_shown-tick events))
              (keeps_next (length live.places) live.places (places events) refl (ArePlaces-places events) h.live.shows.places);
        });
  }

  -- its places route to its channels alone
  places-routed : (k : ℕ) → All (λ (place : ℕ × Life). OfPlace (IsRouted (length live.places)) place.1) (places events k)
  places-routed k =
      All-weaker (λ (place : ℕ × Life). place.1 ≡ state (acts events) (ticks events) (record { channel = k; layer = place.0 }))
      (λ (place : ℕ × Life). OfPlace (IsRouted (length live.places)) place.1)
      (λ place e. subst (OfPlace (IsRouted (length live.places))) (sym e)
      (OfPlace-routed (length live.places) (acts events) (ticks events) (record { channel = k; layer = place.0 }) h.live.served))
      (places events k) (places-states events k)

  -- what it shows
  scene_at_once : (k : ℕ) → IsConfigured (length live.places) k →
      scene events k ≡ scene_next (mixed_values mixer (ticks events + 1)) (option_map shown_at routes.present) live.places k
  scene_at_once k c =
      scene-places events k
      ∙ drawn_places (length live.places) routes.present (last_shown events) h.shown.shown (mixed_values mixer (ticks events + 1)) (acts events) (ticks events) k (places events k)
      (λ layer prop. h.mixed.past.values (record { channel = k; layer = layer }) prop (ticks events + 1) (c.0, omega (arith, c.1, h.mixed.count)) (omega arith))
      (places-routed k)
      ∙ ap (filter_map (drawn_next (mixed_values mixer (ticks events + 1)) (option_map shown_at routes.present) k)) (sym (h.live.shows.places k c))

  pub scenes-shown : map (scene events) (range_with_len 1 (length live.places))
      ≡ map (scene_next (mixed_values mixer (ticks events + 1)) (option_map shown_at routes.present) live.places) (range_with_len 1 (length live.places))
  scenes-shown = same_on_range (scene events) (scene_next (mixed_values mixer (ticks events + 1)) (option_map shown_at routes.present) live.places) (length live.places) scene_at_once

  -- if the history may have one tick more, so may each place be shown for one more
  pub AllHaveTicksLeft : ticks events < MAX_TICKS → All (All HasTicksLeft) live.places
  AllHaveTicksLeft low k d within =
      let here : (k + 1) - 1 ≡ k = omega arith in
      subst (All HasTicksLeft) (sym (get_default k d within ∙ ap (λ (j : ℕ). get_or live.places j []) (sym here) ∙ h.live.shows.places (k + 1) (omega arith, omega (arith, within))))
      (left (k + 1))
    where
      get_default : (j : ℕ) (e : Places) → j < length live.places → get_or live.places j e ≡ get_or live.places j []
      get_default j e low = get_or_default live.places j e [] low

      few_enough : (found : Option Foreground) (t : ℕ) → t < MAX_TICKS → ForSome found (λ f. f.shown ≤ t) → ForSome found (λ f. f.shown < MAX_TICKS)
      few_enough found t low few x e = let q = few x e in omega (arith, q, low)

      state-few : (place : PlaceView) → ForSome (state (acts events) (ticks events) place).foreground (λ f. f.shown ≤ ticks events)
      state-few place =
          shown-few (state (acts events) (ticks events) place) (trail (acts events) place) (ticks events)
          (record { past = IsPast-along acts_on_content content_origin (acts events) place (ticks events) (acts-past events); state = refl })

      left : (channel : ℕ) → All HasTicksLeft (places events channel)
      left channel =
          All-weaker (λ (place : ℕ × Life). place.1 ≡ state (acts events) (ticks events) (record { channel = channel; layer = place.0 })) HasTicksLeft
          (λ place e.
          subst (λ (s : Life). ForSome s.foreground (λ f. f.shown < MAX_TICKS)) (sym e)
          (few_enough (state (acts events) (ticks events) (record { channel = channel; layer = place.0 })).foreground (ticks events) low
          (state-few (record { channel = channel; layer = place.0 }))))
          (places events channel) (places-states events channel)

  -- and a tick can show the places of each channel
  AllHaveOwnRoutes : All (All (HasOwnRoutes (length live.places))) live.places
  AllHaveOwnRoutes k d within =
      let here : (k + 1) - 1 ≡ k = omega arith in
      subst (All (HasOwnRoutes (length live.places)))
      (sym (get_or_default live.places k d [] within ∙ ap (λ (j : ℕ). get_or live.places j []) (sym here) ∙ h.live.shows.places (k + 1) (omega arith, omega (arith, within))))
      (All-weaker (λ (place : ℕ × Life). OfPlace (IsRouted (length live.places)) place.1) (HasOwnRoutes (length live.places))
      (λ place routed. IsShown-routed (length live.places) place routed) (places events (k + 1)) (places-routed (k + 1)))

  pub AllCanShow : ticks events < MAX_TICKS → All (CanShow (length live.places)) live.places
  AllCanShow low k d within = record {
    ticks = AllHaveTicksLeft low k d within;
    routes = AllHaveOwnRoutes k d within;
    few =
        let mine : get_or live.places k d ≡ get_or live.places k [] = get_or_default live.places k d [] within in
        let few : length (get_or live.places k []) ≤ MAX_LIVE_LAYERS =
        ltb-false MAX_LIVE_LAYERS (length (get_or live.places k [])) (one_within live.places h.live.shows.few k within) in
        subst (λ (ps : Places). length ps ≤ MAX_LIVE_LAYERS) (sym mine) few;
  }

-- a stop after events without one is at the number of these
pub stop_at-more : (events : List Event) (tag : Tag) → stop_at events ≡ None → stop_at (events ++ Stop tag ∷ []) ≡ Some (length events)
stop_at-more events tag none =
    let same : length events + 0 ≡ length events = omega arith in
    stop_at-append events (Stop tag ∷ []) none ∙ ap (option_map (λ n. length events + n)) (stop_at-stop tag []) ∙ ap Some same

-- a slice that was lent is put back whole
pub put_back : {X : Type 0} (now before : List X) (n : ℕ) → length now ≡ length before → length before ≡ n →
    take n (now ++ drop (length now) before) ≡ now
put_back now before n same count =
    ap (λ more. take n (now ++ more)) (drop_all (length now) before (omega (arith, same)))
    ∙ ap (take n) (append-nil now) ∙ take_all n now (omega (arith, same, count))
