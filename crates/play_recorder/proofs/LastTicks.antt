-- The frames of the last tick of a history that is played once more.
use Rattle.std.proofs.Common.{◌≡◌, ℕ, ◌≤◌, List, [], ◌∷◌, ◌++◌, append-nil, length, map, refl, sym, ap, ◌∙◌, subst, arith}
use Rattle.play_types.specs.Config.{ConfigView}
use Rattle.play_types.specs.declared.event.Event.{Event}
use Rattle.clip_format.specs.Table.{Entry}
use Rattle.history_model.specs.pictures.Media.{Setup}
use Rattle.history_model.specs.scripts.History.{channel_size}
use Rattle.play_scene.specs.Picture.{clips_of}
use Rattle.band_render.specs.Histories.{Represents}
use Rattle.band_render.specs.Rendered.{sizes}
use Rattle.needed_frames.proofs.Rendering.{whole-last}
use Rattle.stage_core.specs.Stage.{StageView}
use Rattle.play_recorder.specs.declared.frame_replay.FrameReplay.{FrameReplay}
use Rattle.play_recorder.specs.inner.Depths.{unneeded}
use Rattle.play_recorder.specs.inner.Frames.{Follows, IsReady, events_in, setup_in}
use Rattle.play_recorder.specs.inner.Replay.{new_stage, stage_with}
use Rattle.play_recorder.proofs.FrameReplays.{frame_count}
use Rattle.play_recorder.proofs.Playing.{IsPlayedTo, all_played, none_played, one_played}

-- the events before the ones that are left were played, with the frames of the ticks that are not skipped
pub record IsFramedTo (settings : ConfigView) (entries : List Entry) (unmade : ℕ) (events : List Event) (now : FrameReplay) (left : List Event) : Type 0 where
  pub ready : IsReady now
  pub config : now.config.now ≡ settings
  pub media : now.media.now ≡ entries
  pub skipped : now.skipped ≡ unmade
  pub played : IsPlayedTo (new_stage settings) events now.played.stage left

module _ (config : ConfigView) (media : List Entry) (skipped : ℕ) (events : List Event) (now : FrameReplay) where
  pub none_framed : (left : List Event) → IsReady now → now.config.now ≡ config → now.media.now ≡ media → now.skipped ≡ skipped → now.played.stage ≡ new_stage config
      → left ≡ events → IsFramedTo config media skipped events now left
  none_framed left ready same_config same_media same_skipped new is = record {
    ready = ready;
    config = same_config;
    media = same_media;
    skipped = same_skipped;
    played = subst (λ stage. IsPlayedTo (new_stage config) events stage left) (sym new) (none_played (new_stage config) events left refl is);
  }

  -- after an event the rest is left
  pub one_framed : (event : Event) (left : List Event) (new : FrameReplay) → IsFramedTo config media skipped events now (event ∷ left) → IsReady new → Follows event now new
      → IsFramedTo config media skipped events new left
  one_framed event left new framed ready follows = record {
    ready = ready;
    config = follows.config ∙ framed.config;
    media = follows.media ∙ framed.media;
    skipped = follows.skipped ∙ framed.skipped;
    played = one_played (new_stage config) events now.played.stage event left framed.played new.played.stage follows.stage;
  }

  -- all events were played: the stage is the one with these events
  pub framed_stage : IsFramedTo config media skipped events now [] → now.played.stage ≡ stage_with config events
  framed_stage framed =
      let played = framed.played in
      λ i. record { journal = record { limit = played.limit i; events = all_played (new_stage config) events now.played.stage played i }; channels = played.channels i }

  pub all_framed : IsReady now → now.config.now ≡ config → now.media.now ≡ media → now.skipped ≡ skipped → now.played.stage ≡ stage_with config events
      → IsFramedTo config media skipped events now []
  all_framed ready same_config same_media same_skipped made = record {
    ready = ready;
    config = same_config;
    media = same_media;
    skipped = same_skipped;
    played = record {
      channels = ap (λ (s : StageView). s.channels) made;
      limit = ap (λ (s : StageView). s.journal.limit) made;
      whole = ap (λ (s : StageView). s.journal.events ++ []) made ∙ append-nil events;
    };
  }

  module _ (framed : IsFramedTo config media skipped events now []) where
    pub framed_sizes : sizes now.renderer ≡ map channel_size config.channels
    framed_sizes = sym framed.ready.frames.pictures.sizes ∙ ap (λ (one : ConfigView). map channel_size one.channels) framed.config

    setup_is : setup_in now ≡ record { channels = sizes now.renderer; clips = clips_of media }
    setup_is = λ i. record { channels = framed.ready.frames.pictures.sizes i; clips = clips_of (framed.media i) }

    whole_here : now.skipped ≤ unneeded (length now.renderer) (events_in now) → Represents (setup_in now) (events_in now) now.media.now now.renderer
    whole_here early = whole-last (setup_in now) now.skipped (events_in now) now.media.now now.renderer framed.ready.frames early

    past : events_in now ≡ events
    past = all_played (new_stage config) events now.played.stage framed.played

    -- how many ticks the history does not need is known by the replay
    pub framed_unneeded : unneeded now.played.stage.channels (events_in now) ≡ unneeded (length config.channels) events
    framed_unneeded =
        let channels : now.played.stage.channels ≡ length config.channels = framed.ready.channels ∙ ap (λ (one : ConfigView). length one.channels) framed.config in
        λ i. unneeded (channels i) (past i)

    pub framed_last : skipped ≤ unneeded (length config.channels) events
        → Represents (record { channels = sizes now.renderer; clips = clips_of media }) events media now.renderer
    framed_last early =
        let count : length now.renderer ≡ length config.channels = frame_count now framed.ready ∙ ap (λ (one : ConfigView). length one.channels) framed.config in
        let same : unneeded (length config.channels) events ≡ unneeded (length now.renderer) (events_in now) = λ i. unneeded (sym count i) (sym past i) in
        let here : now.skipped ≤ unneeded (length now.renderer) (events_in now) = omega (arith, early, same, framed.skipped) in
        subst (λ es. Represents (record { channels = sizes now.renderer; clips = clips_of media }) es media now.renderer) past
        (subst (λ entries. Represents (record { channels = sizes now.renderer; clips = clips_of media }) (events_in now) entries now.renderer) framed.media
        (subst (λ (setup : Setup). Represents setup (events_in now) now.media.now now.renderer) setup_is (whole_here here)))
