-- What is written for a script, line by line.
use Rattle.std.specs.Prelude.{ℕ, zero, suc, ◌+◌, ◌-◌, if◌then◌else◌, ℤ, pos, negsuc, Option, Some, None, List, [], ◌∷◌, ◌++◌, length, codes, decimal, flat_map}
use Rattle.std.specs.Int.{w16, to_le_bytes}
use Rattle.play_types.specs.Config.{ConfigView}
use Rattle.play_types.specs.Commands.{command_name, answer_reply}
use Rattle.play_types.specs.History.{ticks}
use Rattle.play_types.specs.declared.command.Cmd.{Cmd}
use Rattle.play_types.specs.declared.event.Tag.{Tag}
use Rattle.play_types.specs.declared.event.Event.{Event}
use Rattle.play_types.specs.declared.event.Event.TheVariants as event
use Rattle.play_types.specs.declared.answer.Answer.{Answer}
use Rattle.play_types.specs.declared.reply.Name.{Name}
use Rattle.play_types.specs.declared.reply.Name.TheVariants as name
use Rattle.play_types.specs.declared.reply.Reply.{Reply}
use Rattle.play_types.specs.declared.reply.Reply.TheVariants as reply
use Rattle.history_model.specs.stage.Acts.{is_refused}
use Rattle.history_model.specs.stage.Answer.{ChannelFrame, numbers_below, pair_samples, channel_numbers, command_answer, outcome_of}
use Rattle.pixel_math.specs.Pixel.{pixel_bytes}
use Rattle.history_model.specs.pictures.Frame.{frame_pixel}
use Rattle.history_model.specs.text.Frames.{frame_bytes, frame_lines, digest_line}
use Rattle.history_model.specs.pictures.Media.{Setup, size}
use Rattle.history_model.specs.text.Replies.{answer_lines}
use Rattle.history_model.specs.scripts.Line.{ScriptLine, Comment, Ticks, Said, Stop, Rejected}
use Rattle.history_model.specs.scripts.History.{Playout, PlayedLine, Turn, Verdict, JournalFull, OutOfMemory, Taken, setup_of, verdict, turn_of, said_step, ends_at, script_events}
use Rattle.history_model.specs.sessions.Request.{text_token}
use Rattle.history_model.specs.sessions.Session.{Step, Local, Ask, AskBatch, KillServer, EndConnection, Skip}

-- the configuration of a run that names a width and a height alone
abbrev pub plain_config : ℕ → ℕ → ConfigView
plain_config width height = record {
  listen = codes "none";
  media = codes "none";
  rate = 25;
  connections = 4;
  journal_limit = 4194304;
  channels = record { width = width; height = height; pairs = 0; output = codes "none" } ∷ [];
}

-- the head of each line of a reply: the tag of the connection
unfoldable pub tag_text : Tag → List ℕ
tag_text tag = decimal tag.worker ++ 46 ∷ decimal tag.session ++ 32 ∷ []

-- a line of a reply
unfoldable pub reply_line : Tag → List ℕ → List ℕ
reply_line tag text = tag_text tag ++ text ++ 10 ∷ []

-- lines of a reply, each after the tag
unfoldable pub tagged_lines : Tag → List (List ℕ) → List ℕ
tagged_lines tag lines = flat_map (reply_line tag) lines

-- what is written for the reply to a line with this token, or without one, if there is a reply
abbrev pub answer_output : Playout → Tag → Option (List ℕ) → Option Reply → List ℕ
answer_output playout tag token None = []
answer_output playout tag token (Some answer) = tagged_lines tag (answer_lines playout.config playout.names token answer)

-- what is written for the reply to a line without a token
abbrev pub reply_output : Playout → Tag → Option Reply → List ℕ
reply_output playout tag answer = answer_output playout tag None answer

-- the reply to a command or a batch of this name, by whether it is taken: if it is, that of `found`, the stage's answer
abbrev pub verdict_reply : Name → Answer → Verdict → Reply
verdict_reply asked found JournalFull = reply.Refused 503 asked
verdict_reply asked found OutOfMemory = reply.Refused 501 asked
verdict_reply asked found Taken = answer_reply asked found

-- the reply to a command that the stage is asked for
abbrev pub ask_reply : Turn → Cmd → Reply
ask_reply turn command =
    verdict_reply (command_name command)
    (command_answer (setup_of turn.playout) turn.events (is_refused turn.events (event.Do turn.tag command)) command)
    (verdict turn 1)

-- the reply to a batch that the stage is asked for
abbrev pub batch_reply : Turn → List Cmd → Reply
batch_reply turn commands =
    verdict_reply name.Commit (outcome_of (is_refused turn.events (event.Batch turn.tag commands)))
    (verdict turn (length commands))

-- the reply of a step
abbrev pub step_reply : Turn → Option Step → Option Reply
step_reply turn None = None
step_reply turn (Some (Local answer)) = Some answer
step_reply turn (Some (Ask command)) = Some (ask_reply turn command)
step_reply turn (Some (AskBatch commands)) = Some (batch_reply turn commands)
step_reply turn (Some KillServer) = Some (reply.Done name.Kill)
step_reply turn (Some EndConnection) = None
step_reply turn (Some Skip) = None

-- a sample as 16 bits in two's complement, the lower byte first
abbrev pub sample_bytes : ℤ → List ℕ
sample_bytes (pos n) = to_le_bytes w16 n
sample_bytes (negsuc n) = to_le_bytes w16 (65535 - n)

-- the sound of a channel at the tick after these events: pair by pair, left then right
abbrev pub sound_bytes : Setup → List Event → ℕ → List ℕ
sound_bytes setup events channel =
    flat_map (λ pair. flat_map sample_bytes (pair_samples setup events channel pair)) (numbers_below (size setup channel).pairs)

-- the picture of a channel at that tick
abbrev pub picture_bytes : Setup → List Event → ℕ → List ℕ
picture_bytes setup events channel =
    frame_bytes (size setup channel).width (size setup channel).height (frame_pixel setup events channel)

-- the frame of a channel at that tick: the bytes of its picture, and then those of its sound
unfoldable pub raw_frame : Setup → List Event → ℕ → List ℕ
raw_frame setup events channel = picture_bytes setup events channel ++ sound_bytes setup events channel

-- what is written for a channel at a tick: the lines of its frame, or the line of its digest
abbrev pub channel_output : Playout → ℕ → ℕ → List ℕ → List ℕ → List ℕ
channel_output playout tick channel picture sound =
    if playout.digests
    then digest_line channel tick picture sound
    else frame_lines channel tick (size (setup_of playout) channel) picture sound

-- what is written for a channel at a tick, given its number and what it shows
abbrev pub written_frame : Playout → ℕ → ℕ × ChannelFrame → List ℕ
written_frame playout tick frame =
    channel_output playout tick frame.0 (flat_map pixel_bytes frame.1.pixels) (flat_map sample_bytes frame.1.samples)

-- what is written for the tick after these events, channel 1 first
unfoldable pub tick_output : Playout → List Event → List ℕ
tick_output playout events =
    let setup = setup_of playout in
    flat_map
    (λ channel.
    channel_output playout (ticks events + 1) channel (picture_bytes setup events channel) (sound_bytes setup events channel))
    (channel_numbers setup)

-- what is written for `count` ticks after these events
unfoldable pub ticks_output : Playout → List Event → ℕ → List ℕ
ticks_output playout events zero = []
ticks_output playout events (suc count) =
    tick_output playout events ++ ticks_output playout (events ++ event.Tick ∷ []) count

-- what is written for a line after the lines before it
abbrev pub output_at : Playout → List PlayedLine → PlayedLine → ScriptLine → List ℕ
output_at playout before line Comment = []
output_at playout before line (Ticks count) = ticks_output playout (script_events playout before) count
output_at playout before line (Said tag text) =
    answer_output playout tag (text_token text)
    (step_reply (turn_of playout (script_events playout before) line tag) (said_step playout before line tag))
output_at playout before line Stop = []
output_at playout before line Rejected = []

-- what is written for lines that follow others, up to the line at which the run ends
unfoldable pub output_after : Playout → List PlayedLine → List PlayedLine → List ℕ
output_after playout before [] = []
output_after playout before (line ∷ lines) =
    output_at playout before line line.line
    ++ (if ends_at playout before line line.line then [] else output_after playout (before ++ line ∷ []) lines)

-- what is written for a script
unfoldable pub script_output : Playout → List PlayedLine → List ℕ
script_output playout lines = output_after playout [] lines
