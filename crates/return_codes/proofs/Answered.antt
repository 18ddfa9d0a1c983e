-- The replies with the stage's answers to commands and batches.
use Rattle.std.proofs.Common.{◌≡◌, Bool, true, false, List, length, subst, arith, inl}
use Rattle.play_types.specs.Config.{ConfigView}
use Rattle.play_types.specs.Commands.{answer_reply, command_name}
use Rattle.play_types.specs.declared.answer.Answer.{Answer}
use Rattle.play_types.specs.declared.command.Cmd.{Cmd}
use Rattle.play_types.specs.declared.command.Cmd.TheVariants.{Load, LoadBg, Play, PlayTake, Pause, Resume, StopLayer, ClearLayer, ClearChannel, SwapLayers, SwapChannels, Set, CommitMixer, ResetLayer, ResetChannel, AddFile, RemoveFile, Value, Info}
use Rattle.play_types.specs.declared.event.Tag.{Tag}
use Rattle.play_types.specs.declared.event.Event.{Event}
use Rattle.play_types.specs.declared.event.Event.TheVariants as event
use Rattle.play_types.specs.declared.reply.Name.{Name}
use Rattle.play_types.specs.declared.reply.Name.TheVariants as name
use Rattle.history_model.specs.pictures.Media.{Setup}
use Rattle.history_model.specs.stage.Acts.{is_refused}
use Rattle.history_model.specs.stage.Answer.{Answered, answer, command_answer, outcome_of}
use Rattle.history_model.specs.text.Replies.{IsReplyTo}

same_answer : (one other : Answer) → Answered one ≡ Answered other → one ≡ other
same_answer one other e = cc

-- the answer to a command, if it is this one
pub answered_command : (setup : Setup) (history : List Event) (tag : Tag) (command : Cmd) (found : Answer) → answer setup history (event.Do tag command) ≡ Answered found
    → command_answer setup history (is_refused history (event.Do tag command)) command ≡ found
unfolding answer
answered_command setup history tag command found is = same_answer (command_answer setup history (is_refused history (event.Do tag command)) command) found is

-- the answer to a batch, if it is this one
pub answered_batch : (setup : Setup) (history : List Event) (tag : Tag) (commands : List Cmd) (found : Answer) → answer setup history (event.Batch tag commands) ≡ Answered found
    → outcome_of (is_refused history (event.Batch tag commands)) ≡ found
unfolding answer
answered_batch setup history tag commands found is = same_answer (outcome_of (is_refused history (event.Batch tag commands))) found is

-- the replies for done and refused can be sent with every configuration
outcome_fits : (config : ConfigView) (asked : Name) (refused : Bool) → IsReplyTo config (answer_reply asked (outcome_of refused))
outcome_fits config asked true = inl (omega arith, omega arith)
outcome_fits config asked false = tt

-- the reply with an answer to a command can be sent with a configuration with the channels of the stage
command_fits : (config : ConfigView) (setup : Setup) (history : List Event) (refused : Bool) (command : Cmd) → length setup.channels ≡ length config.channels
    → IsReplyTo config (answer_reply (command_name command) (command_answer setup history refused command))
command_fits config setup history refused (Load place take) many = outcome_fits config name.Load refused
command_fits config setup history refused (LoadBg place take) many = outcome_fits config name.LoadBg refused
command_fits config setup history refused (Play place) many = outcome_fits config name.Play refused
command_fits config setup history refused (PlayTake place take) many = outcome_fits config name.Play refused
command_fits config setup history refused (Pause place) many = outcome_fits config name.Pause refused
command_fits config setup history refused (Resume place) many = outcome_fits config name.Resume refused
command_fits config setup history refused (StopLayer place) many = outcome_fits config name.Stop refused
command_fits config setup history refused (ClearLayer place) many = outcome_fits config name.Clear refused
command_fits config setup history refused (ClearChannel channel) many = outcome_fits config name.Clear refused
command_fits config setup history refused (SwapLayers a b transforms) many = outcome_fits config name.Swap refused
command_fits config setup history refused (SwapChannels a b transforms) many = outcome_fits config name.Swap refused
command_fits config setup history refused (Set setting) many = outcome_fits config name.Mixer refused
command_fits config setup history refused (CommitMixer channel) many = outcome_fits config name.Mixer refused
command_fits config setup history refused (ResetLayer place) many = outcome_fits config name.Mixer refused
command_fits config setup history refused (ResetChannel channel) many = outcome_fits config name.Mixer refused
command_fits config setup history refused (AddFile channel recorded) many = outcome_fits config name.Add refused
command_fits config setup history refused (RemoveFile channel) many = outcome_fits config name.Remove refused
command_fits config setup history refused (Value place prop) many = tt
command_fits config setup history refused Info many = many

-- the reply with the answer to a command can be sent so
pub told_command : (config : ConfigView) (setup : Setup) (history : List Event) (tag : Tag) (command : Cmd) (found : Answer) → length setup.channels ≡ length config.channels
    → answer setup history (event.Do tag command) ≡ Answered found → IsReplyTo config (answer_reply (command_name command) found)
told_command config setup history tag command found many is =
    subst (λ (a : Answer). IsReplyTo config (answer_reply (command_name command) a)) (answered_command setup history tag command found is)
    (command_fits config setup history (is_refused history (event.Do tag command)) command many)

-- and the reply with that to a batch with every configuration
pub told_batch : (config : ConfigView) (setup : Setup) (history : List Event) (tag : Tag) (commands : List Cmd) (found : Answer)
    → answer setup history (event.Batch tag commands) ≡ Answered found → IsReplyTo config (answer_reply name.Commit found)
told_batch config setup history tag commands found is =
    subst (λ (a : Answer). IsReplyTo config (answer_reply name.Commit a)) (answered_batch setup history tag commands found is)
    (outcome_fits config name.Commit (is_refused history (event.Batch tag commands)))
