use Rattle.history_model.specs.text.Replies.{ended, reply_bytes}
use Rattle.return_codes.proofs.reply.send_reply.Goals as goal

pub returns : goal.returns
unfolding ended reply_bytes
returns g c = c.send_reply_lines.ensures
