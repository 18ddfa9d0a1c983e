-- How the text of a run is played again as a script.
use Rattle.std.specs.Prelude.{◌≡◌, ℕ, ◌+◌, ◌*◌, Some, List, [], ◌∷◌, ◌++◌, drop, flat_map, take}
use mathlib.Core.List.{IsPrefix}
use Rattle.play_types.specs.History.{ticks}
use Rattle.play_types.specs.declared.event.Event.{Event}
use Rattle.play_types.specs.declared.event.Event.TheVariants.{Do, Batch, Tick, Stop}
use Rattle.play_types.specs.declared.reply.Name.TheVariants as name
use Rattle.play_types.specs.declared.reply.Reply.TheVariants as reply
use Rattle.history_model.specs.pictures.Media.{size}
use Rattle.history_model.specs.scripts.History.{Playout, setup_of}
use Rattle.history_model.specs.scripts.Output.{channel_output, reply_output}
use Rattle.history_model.specs.stage.Answer.{channel_numbers}
use Rattle.history_replay.specs.ReplayOutput.{events_output, history_output, local_output, waiting_output}
use Rattle.play_ticker.specs.Frames.{frames_text, raw_frame}
use Rattle.conn_worker.specs.Followed.{Followed, Service, reply_of}

-- what is written for an event before the reply to it: for a batch, the replies to its lines before COMMIT
abbrev pub opening_output : Playout → Event → List ℕ
opening_output playout (Do tag cmd) = []
opening_output playout (Batch tag cmds) =
    reply_output playout tag (Some (reply.Done name.Begin)) ++ flat_map (waiting_output playout tag) cmds
opening_output playout Tick = []
opening_output playout (Stop tag) = []

-- a step of a connection made this event of a history, after the events that the run began with and those that the step found. For the
-- event a replay writes the reply that the step had, after the output for the earlier events
pub record IsAnsweredAgain (playout : Playout) (service : Service) (history : List Event) (one : Followed) (event : Event) : Type 0 where
  pub later : List Event
  pub whole : history ≡ (service.given ++ one.found) ++ event ∷ later
  pub output : history_output playout history
      ≡ history_output playout (service.given ++ one.found)
      ++ (opening_output playout event ++ reply_output playout service.tag (reply_of service one))
      ++ events_output playout ((service.given ++ one.found) ++ event ∷ []) later

-- a step of a connection made this event after the steps `before`. Before the reply to the event a replay writes the replies that the
-- last of those steps had without the stage
pub record IsOpenedAgain (playout : Playout) (service : Service) (before : List Followed) (event : Event) : Type 0 where
  pub earlier : List Followed
  pub since : List Followed
  pub whole : before ≡ earlier ++ since
  pub output : opening_output playout event ≡ flat_map (λ (one : Followed). local_output playout service.tag one.step) since

-- what is written for a channel at the tick with this number, from the bytes of its frame: first those of its picture, then of its sound
abbrev pub frame_output : Playout → ℕ → ℕ → List ℕ → List ℕ
frame_output playout tick channel bytes =
    let picture = 4 * (size (setup_of playout) channel).width * (size (setup_of playout) channel).height in
    channel_output playout tick channel (take picture bytes) (drop picture bytes)

-- what is written for the tick after these events, from the bytes of the frames
abbrev pub raw_output : Playout → List Event → List ℕ
raw_output playout events =
    flat_map
    (λ channel. frame_output playout (ticks events + 1) channel (raw_frame (setup_of playout) events channel))
    (channel_numbers (setup_of playout))

-- a history has a tick between these events. For the tick a replay writes the frames that the outputs took at it, after the output
-- for the earlier events
pub record IsShownAgain (playout : Playout) (history before later : List Event) : Type 0 where
  pub output : history_output playout history
      ≡ history_output playout before ++ raw_output playout before ++ events_output playout (before ++ Tick ∷ []) later
  pub frames : (channel : ℕ) → IsPrefix
      (frames_text (setup_of playout) before channel ++ raw_frame (setup_of playout) before channel)
      (frames_text (setup_of playout) history channel)
