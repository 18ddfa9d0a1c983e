-- The frames of a tick, and what is written for them.
use Rattle.std.specs.Prelude.{◌≡◌, ℕ, List, false, length, flat_map}
use Rattle.std.specs.List.{range_with_len}
use Rattle.play_types.specs.declared.event.Event.{Event}
use Rattle.history_model.specs.scripts.History.{Playout, setup_of}
use Rattle.history_model.specs.scripts.Output.{channel_output}
use Rattle.play_scene.specs.Frames.{FrameView, frame_at}
use Rattle.band_render.specs.Histories.{Represents}
use Rattle.band_render.specs.Rendered.{sizes}
use Rattle.server_setup.specs.declared.setup.ServerSetup.{ServerSetup}
use Rattle.script_player.specs.Playouts.{playout_of}
use Rattle.frame_display.specs.declared.tick_frames.TickFrames.{TickFrames}

-- these frames are those of the last tick of some events, on this setup: transparent and silent if the events have no tick
abbrev pub ShowsFrames : ServerSetup → List Event → List FrameView → Type 0
ShowsFrames setup events frames = Represents (setup_of (playout_of setup false)) events setup.media frames

-- the playout of the frames
abbrev pub playout_for : TickFrames → Playout
playout_for frames = playout_of frames.setup.now frames.digests

-- the frames have the sizes of the configured channels
abbrev pub FitSetup : TickFrames → Type 0
FitSetup frames = (setup_of (playout_for frames)).channels ≡ sizes frames.renderer.now

-- what is written for the frame of a channel
abbrev pub one_text : TickFrames → ℕ → List ℕ
one_text frames channel =
    channel_output (playout_for frames) frames.tick channel (frame_at channel frames.renderer.now).bytes (frame_at channel frames.renderer.now).sound

-- what is written for the frames of all channels
abbrev pub all_texts : TickFrames → List ℕ
all_texts frames = flat_map (one_text frames) (range_with_len 1 (length frames.setup.now.config.channels))
