-- Replies to commands and batches, in the configuration.
use Rattle.std.proofs.Common.{◌≡◌, List, length, sym, subst, arith, inr}
use Rattle.std.specs.Prelude.{Result, Ok, Err, IfOk}
use Rattle.std.proofs.lemmas.List.{length-map}
use Rattle.std.proofs.lemmas.Result.{IfOk-weaker}
use Rattle.play_types.specs.Config.{ConfigView}
use Rattle.play_types.specs.Commands.{answer_reply, command_name}
use Rattle.play_types.specs.declared.answer.Answer.{Answer}
use Rattle.play_types.specs.declared.command.Cmd.{Cmd}
use Rattle.play_types.specs.declared.event.Tag.{Tag}
use Rattle.play_types.specs.declared.event.Event.TheVariants as event
use Rattle.play_types.specs.declared.reply.Name.{Name}
use Rattle.play_types.specs.declared.reply.Name.TheVariants as name
use Rattle.play_types.specs.declared.reply.Reply.{Reply}
use Rattle.history_model.specs.pictures.Media.{Setup}
use Rattle.history_model.specs.stage.Answer.{Answered, answer}
use Rattle.history_model.specs.text.Replies.{IsReplyTo}
use Rattle.history_model.specs.scripts.History.{channel_size}
use Rattle.stage_core.specs.declared.fault.ApplyFault.{ApplyFault}
use Rattle.stage_core.specs.declared.fault.ApplyFault.TheVariants as fault
use Rattle.return_codes.proofs.Answered.{told_batch, told_command}
use Rattle.script_player.specs.declared.player.Player.{Player}
use Rattle.script_player.specs.Player.{IsReady, RepliesTo, events_in, setup_in}
use Rattle.script_player.proofs.Following.{channels_of}

-- the reply to a request fits the configuration if the reply of its answer does
reply_fits : (config : ConfigView) (asked : Name) (taken : Result Answer ApplyFault) (found : Reply) → IfOk taken (λ given. IsReplyTo config (answer_reply asked given))
    → RepliesTo asked taken found → IsReplyTo config found
reply_fits config asked (Ok given) found fits replies = subst (IsReplyTo config) (sym replies) fits
reply_fits config asked (Err fault.OutOfMemory) found fits replies = subst (IsReplyTo config) (sym replies) (inr (omega arith, omega arith))
reply_fits config asked (Err (fault.JournalFull already)) found fits replies = subst (IsReplyTo config) (sym replies) (inr (omega arith, omega arith))
reply_fits config asked (Err (fault.Ended at)) found fits replies = absurd replies

pub command_fits : (player : Player) (tag : Tag) (command : Cmd) (taken : Result Answer ApplyFault) (found : Reply) → IsReady player
    → IfOk taken (λ given. (setup : Setup) → length setup.channels ≡ player.stage.channels → answer setup (events_in player) (event.Do tag command) ≡ Answered given)
    → RepliesTo (command_name command) taken found → IsReplyTo player.setup.config found
command_fits player tag command taken found ready answers replies =
    let config = player.setup.config in
    let setup = setup_in player in
    reply_fits config (command_name command) taken found
    (IfOk-weaker taken _ _
    (λ given answered. told_command config setup (events_in player) tag command given (length-map config.channels channel_size) (answered setup (channels_of player ready))) answers)
    replies

pub batch_fits : (player : Player) (tag : Tag) (commands : List Cmd) (taken : Result Answer ApplyFault) (found : Reply)
    → IfOk taken (λ given. (setup : Setup) → answer setup (events_in player) (event.Batch tag commands) ≡ Answered given)
    → RepliesTo name.Commit taken found → IsReplyTo player.setup.config found
batch_fits player tag commands taken found answers replies =
    let config = player.setup.config in
    let setup = setup_in player in
    reply_fits config name.Commit taken found
    (IfOk-weaker taken _ _ (λ given answered. told_batch config setup (events_in player) tag commands given (answered setup)) answers)
    replies
