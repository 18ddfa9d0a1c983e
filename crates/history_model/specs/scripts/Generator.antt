-- The script that `gen SEED N` makes, and the summary of its run.
use Rattle.std.specs.Prelude.{ℕ, zero, suc, ◌+◌, ◌*◌, ◌/◌, ◌%◌, ◌^◌, ◌==◌, if◌then◌else◌, false, List, [], ◌∷◌, ◌++◌, length, map, filter, flat_map, codes, decimal}
use Rattle.hex.specs.Hex.{encode_lower, encode_upper}
use Rattle.sha2.specs.Sha256.{sha256}
use Rattle.play_types.specs.Config.{ChannelView, ConfigView}
use Rattle.play_types.specs.History.{ticks}
use Rattle.play_types.specs.declared.event.Event.{Event}
use Rattle.play_types.specs.declared.event.Event.TheVariants.{Do, Batch, Tick, Stop}
use Rattle.history_model.specs.scripts.Line.{meaning}
use Rattle.history_model.specs.scripts.History.{Playout, PlayedLine, script_events}
use Rattle.history_model.specs.scripts.Output.{plain_config, script_output}
use Rattle.history_model.specs.scripts.Memory.{with_memory}
use Rattle.history_model.specs.scripts.Replies.{is_refusal, script_replies}

-- the state after a number was drawn
unfoldable pub next_state : ℕ → ℕ
next_state state = (state * 6364136223846793005 + 1442695040888963407) % 2 ^ 64

-- the number below `limit` that is drawn by the step to this state
unfoldable pub number_of : ℕ → ℕ → ℕ
number_of limit state = (state / 2 ^ 33) % limit

-- a number that was drawn, and the state after it
pub record Draw : Type 0 where
  pub number : ℕ
  pub state : ℕ

-- a number below `limit`, drawn in a state
abbrev pub draw : ℕ → ℕ → Draw
draw limit state = record { number = number_of limit (next_state state); state = next_state state }

-- what is drawn first for a step: its kind, 0 to 7, a channel, 1 or 2, a layer, 0 to 3, and a worker, 1 to 3; and the state after
-- it
pub record Step : Type 0 where
  pub kind : ℕ
  pub channel : ℕ
  pub layer : ℕ
  pub worker : ℕ
  pub state : ℕ

abbrev pub step_drawn : ℕ → Step
step_drawn state =
    let kind = draw 8 state in
    let channel = draw 2 kind.state in
    let layer = draw 4 channel.state in
    let worker = draw 3 layer.state in
    record { kind = kind.number; channel = 1 + channel.number; layer = layer.number; worker = 1 + worker.number; state = worker.state }

-- the text of a step's line, and the state after what is drawn for it
pub record Made : Type 0 where
  pub text : List ℕ
  pub state : ℕ

-- `w.1 ` and a text: a line of session 1 of the step's worker
abbrev pub said_by : Step → List ℕ → List ℕ
said_by step text = decimal step.worker ++ codes ".1 " ++ text

-- `c-l`, and what follows
abbrev pub on_place : Step → List ℕ → List ℕ
on_place step text = decimal step.channel ++ codes "-" ++ decimal step.layer ++ text

-- `PLAY c-l #AARRGGBB MIX d`
abbrev pub made_play : Step → Made
made_play step =
    let alpha = draw 256 step.state in
    let red = draw 256 alpha.state in
    let green = draw 256 red.state in
    let blue = draw 256 green.state in
    let duration = draw 6 blue.state in
    record {
      text = said_by step (codes "PLAY " ++ on_place step (codes " #" ++ encode_upper (alpha.number ∷ red.number ∷ green.number ∷ blue.number ∷ [])
          ++ codes " MIX " ++ decimal duration.number));
      state = duration.state;
    }

-- `MIXER c-l OPACITY 0.k d`
abbrev pub made_opacity : Step → Made
made_opacity step =
    let tenths = draw 10 step.state in
    let duration = draw 10 tenths.state in
    record {
      text = said_by step (codes "MIXER " ++ on_place step (codes " OPACITY 0." ++ decimal tenths.number ++ codes " " ++ decimal duration.number));
      state = duration.state;
    }

-- `MIXER c-l FILL 0.k 0 0.m 1 DEFER`
abbrev pub made_fill : Step → Made
made_fill step =
    let left = draw 10 step.state in
    let width = draw 10 left.state in
    record {
      text = said_by step (codes "MIXER " ++ on_place step (codes " FILL 0." ++ decimal left.number ++ codes " 0 0." ++ decimal width.number ++ codes " 1 DEFER"));
      state = width.state;
    }

-- `MIXER c COMMIT`
abbrev pub made_commit : Step → Made
made_commit step = record {
  text = said_by step (codes "MIXER " ++ decimal step.channel ++ codes " COMMIT");
  state = step.state;
}

-- `SWAP c-l c-m TRANSFORMS`
abbrev pub made_swap : Step → Made
made_swap step =
    let other = draw 4 step.state in
    record {
      text = said_by step (codes "SWAP " ++ on_place step (codes " " ++ decimal step.channel ++ codes "-" ++ decimal other.number ++ codes " TRANSFORMS"));
      state = other.state;
    }

-- `LOADBG c-l route://e WIPE d LEFT AUTO`
abbrev pub made_load : Step → Made
made_load step =
    let source = draw 2 step.state in
    let duration = draw 6 source.state in
    record {
      text = said_by step (codes "LOADBG " ++ on_place step (codes " route://" ++ decimal (1 + source.number) ++ codes " WIPE " ++ decimal duration.number
          ++ codes " LEFT AUTO"));
      state = duration.state;
    }

-- `MIXER c-l OPACITY`
abbrev pub made_query : Step → Made
made_query step = record {
  text = said_by step (codes "MIXER " ++ on_place step (codes " OPACITY"));
  state = step.state;
}

-- the line of a step by its kind
abbrev pub made_for : Step → Made
made_for step =
    if step.kind == 0 then record { text = codes "T"; state = step.state }
    else if step.kind == 1 then made_play step
    else if step.kind == 2 then made_opacity step
    else if step.kind == 3 then made_fill step
    else if step.kind == 4 then made_commit step
    else if step.kind == 5 then made_swap step
    else if step.kind == 6 then made_load step
    else made_query step

-- the line of the step that begins in a state
unfoldable pub made_in : ℕ → Made
made_in state = made_for (step_drawn state)

-- the lines of steps, the first of which begins in a state
unfoldable pub step_lines : ℕ → ℕ → List (List ℕ)
step_lines zero state = []
step_lines (suc steps) state = (made_in state).text ∷ step_lines steps (made_in state).state

-- the lines of the script: those of the steps, and one more tick
unfoldable pub generated_lines : ℕ → ℕ → List (List ℕ)
generated_lines seed steps = step_lines steps seed ++ codes "T" ∷ []

-- the script as a file, each line with LF after it
unfoldable pub generated_script : ℕ → ℕ → List ℕ
generated_script seed steps = flat_map (λ line. line ++ 10 ∷ []) (generated_lines seed steps)

-- the lines as they are played if memory does not run out
unfoldable pub generated_run : ℕ → ℕ → List PlayedLine
generated_run seed steps = map (λ line. with_memory (meaning line)) (generated_lines seed steps)

abbrev pub generator_channel : ChannelView
generator_channel = record { width = 64; height = 36; pairs = 4; output = codes "none" }

-- two channels of 64x36 with four stereo pairs; the rest is as for `run W H`
abbrev pub generator_config : ConfigView
generator_config = record (plain_config 64 36) { channels = generator_channel ∷ generator_channel ∷ [] }

-- what the script is played on: there are no clips, and frames are written in hexadecimal
abbrev pub generator_playout : Playout
generator_playout = record { config = generator_config; names = []; clips = []; digests = false }

-- the number of events that are no ticks
abbrev pub events_besides_ticks : List Event → ℕ
events_besides_ticks [] = 0
events_besides_ticks (Do tag cmd ∷ events) = 1 + events_besides_ticks events
events_besides_ticks (Batch tag cmds ∷ events) = 1 + events_besides_ticks events
events_besides_ticks (Tick ∷ events) = events_besides_ticks events
events_besides_ticks (Stop tag ∷ events) = 1 + events_besides_ticks events

-- a number on a line of its own, after a word
abbrev pub number_line : List ℕ → ℕ → List ℕ
number_line word number = word ++ decimal number ++ 10 ∷ []

-- the four lines of the summary of a run: the numbers of events besides ticks, of ticks and of replies that refuse something,
-- and the SHA-256 of what is written for the lines, in lower-case hexadecimal
unfoldable pub summary : Playout → List PlayedLine → List ℕ
summary playout lines =
    number_line (codes "commands ") (events_besides_ticks (script_events playout lines))
    ++ number_line (codes "ticks ") (ticks (script_events playout lines))
    ++ number_line (codes "refused ") (length (filter is_refusal (script_replies playout lines)))
    ++ codes "digest " ++ encode_lower (sha256 (script_output playout lines)) ++ 10 ∷ []

-- what `gen SEED N` writes
abbrev pub generator_output : ℕ → ℕ → List ℕ
generator_output seed steps = summary generator_playout (generated_run seed steps)
