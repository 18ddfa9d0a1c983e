-- An answer of the stage refuses an event exactly if the event is refused.
use Rattle.std.proofs.Common.{◌≡◌, ℕ, Bool, true, false, List, [], length, replicate, refl, sym, ap, ◌∙◌}
use Rattle.play_types.specs.declared.answer.Answer.{Answer}
use Rattle.play_types.specs.declared.answer.Answer.TheVariants as reply
use Rattle.play_types.specs.declared.command.Cmd.{Cmd}
use Rattle.play_types.specs.declared.command.Cmd.TheVariants.{Load, LoadBg, Play, PlayTake, Pause, Resume, StopLayer, ClearLayer, ClearChannel, SwapLayers, SwapChannels, Set, CommitMixer, ResetLayer, ResetChannel, AddFile, RemoveFile, Value, Info}
use Rattle.play_types.specs.declared.event.Tag.{Tag}
use Rattle.play_types.specs.declared.event.Event.{Event}
use Rattle.play_types.specs.declared.event.Event.TheVariants.{Do, Batch, Tick, Stop}
use Rattle.history_model.specs.pictures.Media.{Setup, no_size}
use Rattle.std.proofs.lemmas.List.{length-replicate}
use Rattle.history_model.specs.stage.Acts.{is_refused}
use Rattle.history_model.specs.stage.Answer.{StageAnswer, Frames, Answered, Stopped, answer, command_answer, outcome_of}
use Rattle.history_model.specs.stage.StageHistory.{stage_after}
use Rattle.history_model.specs.stage.StageState.{StageState, is_refused_by}
use Rattle.history_model.proofs.stage.Histories.{is_refused-command}
use Rattle.play_recorder.specs.Finder.{is_refusal}

outcome_refusal : (refused : Bool) → is_refusal (outcome_of refused) ≡ refused
outcome_refusal true = refl
outcome_refusal false = refl

-- a query is never refused
module _ (setup : Setup) (history : List Event) (state : StageState) (refused : Bool) where
  command_refusal : (cmd : Cmd) → is_refused_by cmd state ≡ refused → is_refusal (command_answer setup history refused cmd) ≡ refused
  command_refusal (Load place take) is = outcome_refusal refused
  command_refusal (LoadBg place take) is = outcome_refusal refused
  command_refusal (Play place) is = outcome_refusal refused
  command_refusal (PlayTake place take) is = outcome_refusal refused
  command_refusal (Pause place) is = outcome_refusal refused
  command_refusal (Resume place) is = outcome_refusal refused
  command_refusal (StopLayer place) is = outcome_refusal refused
  command_refusal (ClearLayer place) is = outcome_refusal refused
  command_refusal (ClearChannel channel) is = outcome_refusal refused
  command_refusal (SwapLayers a b transforms) is = outcome_refusal refused
  command_refusal (SwapChannels a b transforms) is = outcome_refusal refused
  command_refusal (Set setting) is = outcome_refusal refused
  command_refusal (CommitMixer channel) is = outcome_refusal refused
  command_refusal (ResetLayer place) is = outcome_refusal refused
  command_refusal (ResetChannel channel) is = outcome_refusal refused
  command_refusal (AddFile channel name) is = outcome_refusal refused
  command_refusal (RemoveFile channel) is = outcome_refusal refused
  command_refusal (Value place prop) is = is
  command_refusal Info is = is

-- a setup with this number of channels, on which no refusal depends
abbrev pub setup_for : ℕ → Setup
setup_for channels = record { channels = replicate channels no_size; clips = [] }

pub size_of_setup : (channels : ℕ) → length (setup_for channels).channels ≡ channels
size_of_setup channels = length-replicate channels no_size

-- the answer that the stage gives to a command or a batch
abbrev given : StageAnswer → Answer
given (Frames frames) = reply.Done
given (Answered found) = found
given (Stopped at) = reply.Done

module _ (setup : Setup) (history : List Event) (tag : Tag) (found : Answer) where
  pub refusal-command : (cmd : Cmd) → answer setup history (Do tag cmd) ≡ Answered found → is_refusal found ≡ is_refused history (Do tag cmd)
  unfolding answer
  refusal-command cmd is =
      ap (λ one. is_refusal (given one)) (sym is)
      ∙ command_refusal setup history (stage_after history) (is_refused history (Do tag cmd)) cmd (sym (is_refused-command history tag cmd))

  pub refusal-batch : (cmds : List Cmd) → answer setup history (Batch tag cmds) ≡ Answered found → is_refusal found ≡ is_refused history (Batch tag cmds)
  unfolding answer
  refusal-batch cmds is =
      ap (λ one. is_refusal (given one)) (sym is) ∙ outcome_refusal (is_refused history (Batch tag cmds))

-- ticks and stops are not refused
pub refusal-tick : (history : List Event) → false ≡ is_refused history Tick
unfolding is_refused
refusal-tick history = refl

pub refusal-stop : (history : List Event) (tag : Tag) → false ≡ is_refused history (Stop tag)
unfolding is_refused
refusal-stop history tag = refl
