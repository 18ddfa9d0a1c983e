-- Frames that are rendered at a tick.
use Rattle.std.proofs.Common.{◌≡◌, ℕ, false, List, [], ◌∷◌, ◌++◌, length, map, sym, ap, ◌∙◌, subst}
use Rattle.std.specs.List.{range_with_len}
use Rattle.std.proofs.lemmas.List.{length-map}
use Rattle.std.proofs.lemmas.List.FromFn.{length-map-range_with_len}
use Rattle.play_types.specs.declared.drawn.Drawn.{Drawn}
use Rattle.play_types.specs.declared.event.Event.{Event}
use Rattle.play_types.specs.declared.event.Event.TheVariants.{Tick}
use Rattle.history_model.specs.pictures.Scene.{scene}
use Rattle.history_model.specs.scripts.History.{channel_size, setup_of}
use Rattle.play_scene.specs.Frames.{FrameView}
use Rattle.band_render.specs.Histories.{scenes_after}
use Rattle.band_render.specs.Rendered.{AreRendered}
use Rattle.band_render.proofs.Ticks.{represents-tick}
use Rattle.server_setup.specs.declared.setup.ServerSetup.{ServerSetup}
use Rattle.script_player.specs.Playouts.{playout_of}
use Rattle.live_view.specs.View.{AreLastFrames}

module _ (setup : ServerSetup) (events : List Event) (frames : List FrameView) (last : AreLastFrames setup events frames) where
  -- there is a frame for each channel
  pub frame_count : length frames ≡ length setup.config.channels
  frame_count =
      sym (length-map frames (λ (frame : FrameView). frame.size)) ∙ ap length (sym last.pictures.sizes) ∙ length-map setup.config.channels channel_size

  module _ (scenes : List (List Drawn)) (drawn : scenes ≡ map (scene events) (range_with_len 1 (length setup.config.channels))) where
    -- there is a frame for each scene
    pub scene_for_each : length scenes ≡ length frames
    scene_for_each = ap length drawn ∙ length-map-range_with_len (scene events) 1 (length setup.config.channels) ∙ sym frame_count

    -- the frames that are rendered from the scenes of the next tick are those of it
    pub next_frames : (new : List FrameView) → AreRendered frames setup.media scenes new → AreLastFrames setup (events ++ Tick ∷ []) new
    next_frames new rendered =
        represents-tick (setup_of (playout_of setup false)) events setup.media frames new last
        (subst (λ (s : List (List Drawn)). AreRendered frames setup.media s new)
        (drawn ∙ ap (λ (n : ℕ). scenes_after events n) (sym frame_count)) rendered)
