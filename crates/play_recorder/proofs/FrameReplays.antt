-- A replay with frames goes on, event by event.
use Rattle.std.proofs.Common.{◌≡◌, ◌≢◌, ℕ, zero, suc, ◌-◌, ◌<◌, ◌≤◌, List, [], ◌∷◌, ◌++◌, length, map, unwrap_or, refl, sym, ap, ◌∙◌, subst, subst₂, arith}
use Rattle.std.specs.Prelude.{Option, Some, option_map, slice_get}
use Rattle.std.specs.List.{range_with_len}
use Rattle.std.proofs.lemmas.List.{length-map}
use Rattle.std.proofs.lemmas.List.FromFn.{length-map-range_with_len}
use Rattle.std.proofs.lemmas.Option.{slice_get-map}
use Rattle.play_types.specs.Config.{ChannelView}
use Rattle.play_types.specs.History.{ticks}
use Rattle.play_types.specs.Scene.{IsConfigured}
use Rattle.play_types.specs.declared.drawn.Drawn.{Drawn}
use Rattle.play_types.specs.declared.event.Event.{Event}
use Rattle.play_types.specs.declared.event.Event.TheVariants.{Tick}
use Rattle.play_types.specs.declared.geometry.Geometry.{Geometry}
use Rattle.history_model.specs.pictures.Media.{no_size, size}
use Rattle.history_model.specs.pictures.Scene.{scene}
use Rattle.history_model.specs.scripts.History.{channel_size}
use Rattle.history_model.specs.scripts.Output.{raw_frame}
use Rattle.play_scene.specs.Frames.{FrameView, frame_at, zero_frame}
use Rattle.band_render.specs.Histories.{HasFrame, scenes_after}
use Rattle.band_render.specs.Rendered.{AreRendered, sizes}
use Rattle.needed_frames.specs.Depth.{depth}
use Rattle.needed_frames.specs.Rendered.{RepresentsFrom}
use Rattle.needed_frames.proofs.Rendering.{from-first, from-other, from-skipped, from-tick, whole_frame}
use Rattle.stage_core.specs.Stage.{StageView, after_event}
use Rattle.play_recorder.specs.declared.frame_replay.FrameReplay.{FrameReplay}
use Rattle.play_recorder.specs.declared.replay.Replay.{Replay}
use Rattle.play_recorder.specs.inner.Frames.{IsReady, bytes_in, channels_in, events_in, setup_in}
use Rattle.play_recorder.specs.inner.Replay.{HasScenes, new_stage}

-- the size of a channel that is configured
pub size_there : (replay : FrameReplay) (channel : ℕ) (one : ChannelView) → 1 ≤ channel → slice_get replay.config.now.channels (channel - 1) ≡ Some one
    → size (setup_in replay) channel ≡ channel_size one
size_there replay zero one low there = absurd (omega (arith, low))
size_there replay (suc before) one low there =
    ap (λ (o : Option Geometry). unwrap_or o no_size)
    (slice_get-map channel_size replay.config.now.channels before
    ∙ ap (option_map channel_size) (ap (slice_get replay.config.now.channels) (let same : before ≡ suc before - 1 = omega arith in same) ∙ there))

-- the sizes of new frames are those of the channels
zero_sizes : (channels : List ChannelView) → sizes (map zero_frame channels) ≡ map channel_size channels
zero_sizes [] = refl
zero_sizes (channel ∷ channels) = ap (λ (rest : List Geometry). channel_size channel ∷ rest) (zero_sizes channels)

-- a new stage, scenes for its channels and new frames are ready
pub new_ready : (replay : FrameReplay) → replay.played.stage ≡ new_stage replay.config.now → HasScenes replay.played
    → replay.renderer ≡ map zero_frame replay.config.now.channels → IsReady replay
new_ready replay new scenes frames = record {
  channels = ap (λ (s : StageView). s.channels) new;
  scenes = scenes;
  frames = subst₂ (λ es last. RepresentsFrom (setup_in replay) replay.skipped es replay.media.now last) (sym (ap (λ (s : StageView). s.journal.events) new)) (sym frames)
      (from-first (setup_in replay) replay.skipped replay.config.now.channels replay.media.now refl (sym (zero_sizes replay.config.now.channels)));
}

-- there is a frame for each channel
pub frame_count : (replay : FrameReplay) → IsReady replay → length replay.renderer ≡ channels_in replay
frame_count replay ready =
    sym (length-map replay.renderer (λ (frame : FrameView). frame.size)) ∙ ap length (sym ready.frames.pictures.sizes)
    ∙ length-map replay.config.now.channels channel_size

-- a tick was played, and the frames were rendered from its scenes
module _ (old : FrameReplay) (played : Replay) (renderer : List FrameView) (ready : IsReady old)
    (made : played.stage ≡ after_event Tick old.played.stage) (shown : played.scenes ≡ map (scene (events_in old)) (range_with_len 1 old.played.stage.channels)) where
  abbrev pub after_tick : FrameReplay
  after_tick = record old { played = played; renderer = renderer }

  scene_count : length played.scenes ≡ old.played.stage.channels
  scene_count = ap length shown ∙ length-map-range_with_len (scene (events_in old)) 1 old.played.stage.channels

  pub as_many : length played.scenes ≡ length old.renderer
  as_many = scene_count ∙ ready.channels ∙ sym (frame_count old ready)

  -- after the tick the replay is ready, if the frames represent the history with it
  ready_with : RepresentsFrom (setup_in old) old.skipped (events_in old ++ Tick ∷ []) old.media.now renderer → IsReady after_tick
  ready_with represents =
      let channels : played.stage.channels ≡ old.played.stage.channels = ap (λ (s : StageView). s.channels) made in
      record {
        channels = channels ∙ ready.channels;
        scenes = scene_count ∙ sym channels;
        frames = subst (λ es. RepresentsFrom (setup_in old) old.skipped es old.media.now renderer) (sym (ap (λ (s : StageView). s.journal.events) made)) represents;
      }

  -- the tick is skipped
  pub ready_after_skipped : renderer ≡ old.renderer → ticks (events_in old) < old.skipped → IsReady after_tick
  ready_after_skipped same early =
      ready_with
      (from-skipped (setup_in old) old.skipped (events_in old) old.media.now renderer early
      (subst (RepresentsFrom (setup_in old) old.skipped (events_in old) old.media.now) (sym same) ready.frames))

  module _ (rendered : AreRendered old.renderer old.media.now played.scenes renderer) (late : old.skipped ≤ ticks (events_in old)) where
    of_history : AreRendered old.renderer old.media.now (scenes_after (events_in old) (length old.renderer)) renderer
    of_history =
        subst (λ (s : List (List Drawn)). AreRendered old.renderer old.media.now s renderer)
        (shown ∙ ap (λ (n : ℕ). scenes_after (events_in old) n) (ready.channels ∙ sym (frame_count old ready))) rendered

    pub ready_after_tick : IsReady after_tick
    ready_after_tick =
        ready_with (from-tick (setup_in old) old.skipped (events_in old) old.media.now old.renderer renderer late ready.frames of_history)

    pub frame_after_tick : (channel : ℕ) → IsConfigured (channels_in old) channel
        → old.skipped ≤ ticks (events_in old) - depth (events_in old) channel
        → bytes_in after_tick channel ≡ raw_frame (setup_in old) (events_in old) channel
    unfolding raw_frame
    frame_after_tick channel configured early =
        let there : IsConfigured (length old.renderer) channel =
        subst (λ (n : ℕ). IsConfigured n channel) (sym (frame_count old ready)) configured in
        let has : HasFrame (setup_in old) (events_in old) channel (frame_at channel renderer) =
        whole_frame (setup_in old) old.skipped (events_in old) old.media.now old.renderer renderer late ready.frames of_history channel there early in
        λ i. has.picture i ++ has.sound i

-- an event that is no tick was played
pub ready_after_event : (old : FrameReplay) (played : Replay) (event : Event) → event ≢ Tick → IsReady old → HasScenes played
    → played.stage ≡ after_event event old.played.stage → IsReady (record old { played = played })
ready_after_event old played event other ready scenes made = record {
  channels = ap (λ (s : StageView). s.channels) made ∙ ready.channels;
  scenes = scenes;
  frames = subst (λ es. RepresentsFrom (setup_in old) old.skipped es old.media.now old.renderer) (sym (ap (λ (s : StageView). s.journal.events) made))
      (from-other (setup_in old) old.skipped (events_in old) old.media.now event old.renderer other ready.frames);
}
