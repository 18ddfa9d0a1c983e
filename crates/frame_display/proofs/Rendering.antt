-- What the frames of a tick show.
use Rattle.std.proofs.Common.{◌≡◌, ℕ, zero, suc, ◌+◌, ◌-◌, ◌<◌, ◌≤◌, Bool, false, List, [], ◌∷◌, ◌++◌, length, map, refl, sym, ap, ap₂, ◌∙◌, subst, arith, unwrap_or}
use Rattle.std.specs.Prelude.{Option, Some, flat_map, option_map, slice_get}
use Rattle.std.specs.List.{range_with_len}
use Rattle.std.proofs.lemmas.List.{length-map}
use Rattle.std.proofs.lemmas.List.FromFn.{length-map-range_with_len}
use Rattle.std.proofs.lemmas.Option.{slice_get-map}
use Rattle.play_types.specs.Config.{ChannelView}
use Rattle.play_types.specs.History.{ticks}
use Rattle.play_types.specs.Scene.{IsConfigured}
use Rattle.play_types.specs.declared.drawn.Drawn.{Drawn}
use Rattle.play_types.specs.declared.event.Event.{Event}
use Rattle.play_types.specs.declared.event.Event.TheVariants.{Tick}
use Rattle.play_types.specs.declared.geometry.Geometry.{Geometry}
use Rattle.history_model.specs.pictures.Media.{Setup, no_size, size}
use Rattle.history_model.specs.pictures.Scene.{scene}
use Rattle.history_model.specs.scripts.History.{Playout, channel_size, setup_of}
use Rattle.history_model.specs.scripts.Output.{channel_output, picture_bytes, sound_bytes, tick_output}
use Rattle.play_scene.specs.Frames.{FrameView, frame_at, zero_frame}
use Rattle.band_render.specs.Histories.{HasFrame, Represents, scenes_after}
use Rattle.band_render.specs.Rendered.{AreRendered, sizes}
use Rattle.band_render.proofs.Ticks.{frame_of_tick, represents-first, represents-tick, size_in_setup}
use Rattle.server_setup.specs.declared.setup.ServerSetup.{ServerSetup}
use Rattle.script_player.specs.Playouts.{playout_of}
use Rattle.frame_display.specs.declared.tick_frames.TickFrames.{TickFrames}
use Rattle.frame_display.specs.Frames.{FitSetup, playout_for}

-- the size of a configured channel
pub size_there : (frames : TickFrames) (channel : ℕ) (one : ChannelView) → 1 ≤ channel → slice_get frames.setup.now.config.channels (channel - 1) ≡ Some one
    → size (setup_of (playout_for frames)) channel ≡ channel_size one
size_there frames zero one low there = absurd (omega (arith, low))
size_there frames (suc before) one low there =
    ap (λ (o : Option Geometry). unwrap_or o no_size)
    (slice_get-map channel_size frames.setup.now.config.channels before
    ∙ ap (option_map channel_size) (ap (slice_get frames.setup.now.config.channels) (let same : before ≡ suc before - 1 = omega arith in same) ∙ there))

-- the frame of a configured channel has its size
pub size_of_frame : (frames : TickFrames) (channel : ℕ) (one : ChannelView) → FitSetup frames → 1 ≤ channel
    → slice_get frames.setup.now.config.channels (channel - 1) ≡ Some one → (frame_at channel frames.renderer.now).size ≡ channel_size one
size_of_frame frames channel one fits low there =
    sym (size_in_setup (setup_of (playout_for frames)) frames.renderer.now channel low fits) ∙ size_there frames channel one low there

-- texts that are equal for each number
same_texts : (f g : ℕ → List ℕ) (first count : ℕ) → ((k : ℕ) → first ≤ k → k < first + count → f k ≡ g k)
    → flat_map f (range_with_len first count) ≡ flat_map g (range_with_len first count)
same_texts f g first zero same = refl
same_texts f g first (suc count) same =
    ap₂ (λ a b. a ++ b) (same first (omega arith) (omega arith)) (same_texts f g (first + 1) count (λ k low high. same k (omega arith) (omega arith)))

zero_sizes : (channels : List ChannelView) → sizes (map zero_frame channels) ≡ map channel_size channels
zero_sizes [] = refl
zero_sizes (channel ∷ channels) = ap (λ others. channel_size channel ∷ others) (zero_sizes channels)

-- the channels and clips of a setup
abbrev pub shown_setup : ServerSetup → Setup
shown_setup setup = setup_of (playout_of setup false)

-- zero frames are those before the first tick
pub nothing_shown : (setup : ServerSetup) (frames : List FrameView) → frames ≡ map zero_frame setup.config.channels → Represents (shown_setup setup) [] setup.media frames
nothing_shown setup frames zeros =
    subst (λ last. Represents (shown_setup setup) [] setup.media last) (sym zeros)
    (represents-first (shown_setup setup) setup.config.channels setup.media refl (sym (zero_sizes setup.config.channels)))

-- there is a frame for each channel, after some events
pub frame_count : (setup : ServerSetup) (events : List Event) (frames : List FrameView) → Represents (shown_setup setup) events setup.media frames
    → length frames ≡ length setup.config.channels
frame_count setup events frames last =
    sym (length-map frames (λ (frame : FrameView). frame.size)) ∙ ap length (sym last.pictures.sizes) ∙ length-map setup.config.channels channel_size

-- there is a frame for each scene
pub scene_for_each : (setup : ServerSetup) (events : List Event) (frames : List FrameView) (scenes : List (List Drawn)) → Represents (shown_setup setup) events setup.media frames
    → scenes ≡ map (scene events) (range_with_len 1 (length setup.config.channels)) → length scenes ≡ length frames
scene_for_each setup events frames scenes last drawn =
    ap length drawn ∙ length-map-range_with_len (scene events) 1 (length setup.config.channels) ∙ sym (frame_count setup events frames last)

-- the frames were rendered from the scenes of the next tick
module _ (setup : ServerSetup) (events : List Event) (scenes : List (List Drawn)) (old new : List FrameView) (last : Represents (shown_setup setup) events setup.media old)
    (drawn : scenes ≡ map (scene events) (range_with_len 1 (length setup.config.channels))) (rendered : AreRendered old setup.media scenes new) where
  of_history : AreRendered old setup.media (scenes_after events (length old)) new
  of_history =
      subst (λ (s : List (List Drawn)). AreRendered old setup.media s new)
      (drawn ∙ ap (λ (n : ℕ). scenes_after events n) (sym (frame_count setup events old last))) rendered

  -- the new frames have the sizes of the channels
  pub fit_setup : (shown_setup setup).channels ≡ sizes new
  fit_setup = last.pictures.sizes ∙ sym rendered.same_sizes

  -- the new frames are those of the tick
  pub shows_tick : Represents (shown_setup setup) (events ++ Tick ∷ []) setup.media new
  shows_tick = represents-tick (shown_setup setup) events setup.media old new last of_history

  module _ (digests : Bool) (tick : ℕ) (at : tick ≡ ticks events + 1) where
    abbrev playout : Playout
    playout = playout_of setup digests

    -- what is written for a channel
    abbrev pub frame_text : ℕ → List ℕ
    frame_text channel = channel_output playout tick channel (frame_at channel new).bytes (frame_at channel new).sound

    abbrev said : ℕ → List ℕ
    said channel = channel_output playout (ticks events + 1) channel (picture_bytes (shown_setup setup) events channel) (sound_bytes (shown_setup setup) events channel)

    each : (channel : ℕ) → 1 ≤ channel → channel < 1 + length setup.config.channels → frame_text channel ≡ said channel
    each channel low high =
        let count = frame_count setup events old last in
        let there : IsConfigured (length old) channel = (low, omega (arith, high, count)) in
        let has : HasFrame (shown_setup setup) events channel (frame_at channel new) =
        frame_of_tick (shown_setup setup) events setup.media old new channel last of_history there in
        λ i. channel_output playout (at i) channel (has.picture i) (has.sound i)

    -- what is written for the frames is what is written for the tick
    pub frames_of_tick : flat_map frame_text (range_with_len 1 (length setup.config.channels)) ≡ tick_output playout events
    unfolding tick_output
    frames_of_tick =
        same_texts frame_text said 1 (length setup.config.channels) each
        ∙ ap (λ (n : ℕ). flat_map said (range_with_len 1 n)) (sym (length-map setup.config.channels channel_size))
