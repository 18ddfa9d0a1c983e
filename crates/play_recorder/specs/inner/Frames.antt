-- The state of a replay with frames, and how an event changes it.
use Rattle.std.specs.Prelude.{◌≡◌, ℕ, List, ◌++◌, length}
use Rattle.play_types.specs.declared.event.Event.{Event}
use Rattle.history_model.specs.pictures.Media.{Setup}
use Rattle.play_scene.specs.Frames.{frame_at}
use Rattle.needed_frames.specs.Rendered.{RepresentsFrom}
use Rattle.stage_core.specs.Stage.{after_event}
use Rattle.play_recorder.specs.Recording.{setup_with}
use Rattle.play_recorder.specs.declared.frame_replay.FrameReplay.{FrameReplay}
use Rattle.play_recorder.specs.inner.Replay.{HasScenes}

-- its channels and clips, the events so far, and the number of channels
abbrev pub setup_in : FrameReplay → Setup
setup_in replay = setup_with replay.config.now replay.media.now

abbrev pub events_in : FrameReplay → List Event
events_in replay = replay.played.stage.journal.events

abbrev pub channels_in : FrameReplay → ℕ
channels_in replay = length replay.config.now.channels

-- the bytes of the frame of a channel at the last tick, and then those of its sound
abbrev pub bytes_in : FrameReplay → ℕ → List ℕ
bytes_in replay channel = (frame_at channel replay.renderer).bytes ++ (frame_at channel replay.renderer).sound

-- a replay can go on: the stage, the scenes and the frames are those of the configuration, and the frames are those of the last
-- tick, made from the first tick on that is not skipped
pub record IsReady (replay : FrameReplay) : Type 0 where
  pub channels : replay.played.stage.channels ≡ channels_in replay
  pub scenes : HasScenes replay.played
  pub frames : RepresentsFrom (setup_in replay) replay.skipped (events_in replay) replay.media.now replay.renderer

-- a replay has this event more, and its configuration and clips are as before
pub record Follows (event : Event) (old new : FrameReplay) : Type 0 where
  pub config : new.config.now ≡ old.config.now
  pub media : new.media.now ≡ old.media.now
  pub skipped : new.skipped ≡ old.skipped
  pub stage : new.played.stage ≡ after_event event old.played.stage
