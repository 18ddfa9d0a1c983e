use Rattle.std.proofs.Common.{List, ℕ, subst}
use Rattle.std.specs.Prelude.{option_map}
use Rattle.play_outside.specs.Sink.{Sends}
use Rattle.play_outside.specs.declared.sink.Sent.TheVariants as sent
use Rattle.play_outside.proofs.Gathering.{Sends-gathered}
use Rattle.return_codes.specs.declared.line.LineStyle.{LineStyle}
use Rattle.return_codes.proofs.Lines.{lines_sent}
use Rattle.return_codes.proofs.reply.send_reply_lines.Goals as goal

pub returns-in_err-add_reply : goal.returns-in_err-add_reply
returns-in_err-add_reply g c =
    let style : LineStyle = record { before = c.args.before; token = c.reply_token.result; after = c.args.after } in
    let lines = lines_sent style c.args.config.now c.args.media.now (option_map (λ t. t.now) c.args.token) c.args.reply.now c.reply_token.ensures in
    rw c.from_residual.ensures
    (subst (λ (bytes : List ℕ). Sends sent.Failed bytes (g.K.Sink.state c.args.to.now) (g.K.Sink.state c.add_reply.new.to)) lines
    ((rw (c.new-text.ensures, c.in_err-add_reply.ensures) at c.add_reply.ensures).0))

pub returns : goal.returns
returns g c =
    let style : LineStyle = record { before = c.args.before; token = c.reply_token.result; after = c.args.after } in
    let lines = lines_sent style c.args.config.now c.args.media.now (option_map (λ t. t.now) c.args.token) c.args.reply.now c.reply_token.ensures in
    subst (λ (bytes : List ℕ). Sends c.finish.result bytes (g.K.Sink.state c.args.to.now) (g.K.Sink.state c.finish.new.to)) lines
    (Sends-gathered _ _ _ _ _ _ (rw (c.new-text.ensures, c.in_ok-add_reply.ensures) at c.add_reply.ensures) c.finish.ensures.sends)
