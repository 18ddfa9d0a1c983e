use Rattle.std.proofs.Common.{◌≡◌, false, ◌∷◌, [], List, ℕ, refl, sym, subst, arith}
use Rattle.std.specs.Prelude.{Option, Some, Err}
use Rattle.std.proofs.lemmas.Result.{err_from_is_err_and}
use Rattle.play_types.specs.declared.event.Event.TheVariants.{Stop}
use Rattle.play_types.specs.declared.reply.Name.TheVariants as name
use Rattle.play_types.specs.declared.reply.Reply.TheVariants as reply
use Rattle.history_model.specs.scripts.Output.{tagged_lines}
use Rattle.history_model.specs.sessions.Session as model
use Rattle.history_model.specs.text.Replies.{answer_lines}
use Rattle.play_session.specs.Step.{gives_up, viewed}
use Rattle.script_player.specs.declared.ending.Halt.TheVariants as halt
use Rattle.script_player.specs.Clients.{batch_of}
use Rattle.script_player.specs.Player.{FollowsStep, Given, WritesReply, answering}
use Rattle.script_player.proofs.Counting.{ticks_made}
use Rattle.script_player.proofs.Following.{follows_batch, follows_command, follows_kill, follows_local, kill_failed}
use Rattle.script_player.proofs.player.Player.follow_step.Goals as goal

pub returns-in_err-write_reply-in-Kill-clause-ticks : goal.returns-in_err-write_reply-in-Kill-clause-ticks
returns-in_err-write_reply-in-Kill-clause-ticks g c =
    let made = ticks_made (Stop c.args.tag ∷ []) c.args.self.now c.stop.new.self c.stop.ensures in omega (arith, made)

pub returns-in_ok-write_reply-in-Kill-clause-ticks : goal.returns-in_ok-write_reply-in-Kill-clause-ticks
returns-in_ok-write_reply-in-Kill-clause-ticks g c =
    let made = ticks_made (Stop c.args.tag ∷ []) c.args.self.now c.stop.new.self c.stop.ensures in omega (arith, made)

pub returns-in-Local-clause-follows : goal.returns-in-Local-clause-follows
returns-in-Local-clause-follows g c = λ told kept.
    let old = c.args.self.now in
    let batch = batch_of c.args.tag old.clients.list.items in
    let given : Given = record { player = old; tag = c.args.tag; step = Some (model.Local c.in-Local.reply); token = told } in
    subst (λ s. FollowsStep (record { player = old; tag = c.args.tag; step = viewed s batch; token = told }) c.write_reply.result old (g.K.Sink.state c.args.out.now) (g.K.Sink.state c.write_reply.new.out)) (sym c.in-Local.is)
    (follows_local given c.args.given.token c.in-Local.reply c.write_reply.result (g.K.Sink.state c.args.out.now) (g.K.Sink.state c.write_reply.new.out)
    (subst (λ s. gives_up s ≡ false → c.args.given.token ≡ told) c.in-Local.is kept) refl refl refl c.write_reply.ensures)

pub returns-in-Ask-clause-follows : goal.returns-in-Ask-clause-follows
returns-in-Ask-clause-follows g c = λ told kept.
    let old = c.args.self.now in
    let new = c.do_command-reply.new.self in
    let batch = batch_of c.args.tag old.clients.list.items in
    let before = g.K.Sink.state c.args.out.now in
    let after = g.K.Sink.state c.write_reply-in-Ask.new.out in
    let given : Given = record { player = old; tag = c.args.tag; step = Some (model.Ask c.in-Ask.cmd); token = told } in
    let same : c.args.given.token ≡ told = subst (λ s. gives_up s ≡ false → c.args.given.token ≡ told) c.in-Ask.is kept refl in
    let writes = subst (λ (t : Option (List ℕ)). WritesReply (answering new c.do_command-reply.result) c.write_reply-in-Ask.result (tagged_lines c.args.tag (answer_lines new.setup.config new.setup.names t c.do_command-reply.result)) before after) same c.write_reply-in-Ask.ensures in
    subst (λ s. FollowsStep (record { player = old; tag = c.args.tag; step = viewed s batch; token = told }) c.write_reply-in-Ask.result new before after) (sym c.in-Ask.is)
    (follows_command given c.in-Ask.cmd c.do_command-reply.result c.write_reply-in-Ask.result new before after refl c.do_command-reply.ensures.does writes)

pub returns-in-AskBatch-clause-follows : goal.returns-in-AskBatch-clause-follows
returns-in-AskBatch-clause-follows g c = λ told kept.
    let old = c.args.self.now in
    let new = c.do_batch-reply.new.self in
    let batch = batch_of c.args.tag old.clients.list.items in
    let before = g.K.Sink.state c.args.out.now in
    let after = g.K.Sink.state c.write_reply-in-AskBatch.new.out in
    let given : Given = record { player = old; tag = c.args.tag; step = Some (model.AskBatch batch); token = told } in
    let same : c.args.given.token ≡ told = subst (λ s. gives_up s ≡ false → c.args.given.token ≡ told) c.in-AskBatch.is kept refl in
    let writes = subst (λ (t : Option (List ℕ)). WritesReply (answering new c.do_batch-reply.result) c.write_reply-in-AskBatch.result (tagged_lines c.args.tag (answer_lines new.setup.config new.setup.names t c.do_batch-reply.result)) before after) same c.write_reply-in-AskBatch.ensures in
    subst (λ s. FollowsStep (record { player = old; tag = c.args.tag; step = viewed s batch; token = told }) c.write_reply-in-AskBatch.result new before after) (sym c.in-AskBatch.is)
    (follows_batch given batch c.do_batch-reply.result c.write_reply-in-AskBatch.result new before after refl c.do_batch-reply.ensures.does writes)

pub returns-in_ok-write_reply-in-Kill-clause-follows : goal.returns-in_ok-write_reply-in-Kill-clause-follows
returns-in_ok-write_reply-in-Kill-clause-follows g c = λ told kept.
    let old = c.args.self.now in
    let new = c.stop.new.self in
    let batch = batch_of c.args.tag old.clients.list.items in
    let before = g.K.Sink.state c.args.out.now in
    let after = g.K.Sink.state c.write_reply-in-Kill.new.out in
    let given : Given = record { player = old; tag = c.args.tag; step = Some model.KillServer; token = told } in
    let same : c.args.given.token ≡ told = subst (λ s. gives_up s ≡ false → c.args.given.token ≡ told) c.in-Kill.is kept refl in
    let writes = subst (λ (t : Option (List ℕ)). WritesReply (answering new (reply.Done name.Kill)) c.write_reply-in-Kill.result (tagged_lines c.args.tag (answer_lines new.setup.config new.setup.names t (reply.Done name.Kill))) before after) same c.write_reply-in-Kill.ensures in
    let written = rw c.in_ok-write_reply-in-Kill.was at writes in
    subst (λ s. FollowsStep (record { player = old; tag = c.args.tag; step = viewed s batch; token = told }) (Err halt.Stop) new before after) (sym c.in-Kill.is)
    (follows_kill given new before after refl c.stop.ensures written.1)

pub returns-in_err-write_reply-in-Kill-clause-follows : goal.returns-in_err-write_reply-in-Kill-clause-follows
returns-in_err-write_reply-in-Kill-clause-follows g c = λ told kept.
    let old = c.args.self.now in
    let new = c.stop.new.self in
    let batch = batch_of c.args.tag old.clients.list.items in
    let before = g.K.Sink.state c.args.out.now in
    let after = g.K.Sink.state c.write_reply-in-Kill.new.out in
    let given : Given = record { player = old; tag = c.args.tag; step = Some model.KillServer; token = told } in
    let same : c.args.given.token ≡ told = subst (λ s. gives_up s ≡ false → c.args.given.token ≡ told) c.in-Kill.is kept refl in
    let writes = subst (λ (t : Option (List ℕ)). WritesReply (answering new (reply.Done name.Kill)) c.write_reply-in-Kill.result (tagged_lines c.args.tag (answer_lines new.setup.config new.setup.names t (reply.Done name.Kill))) before after) same c.write_reply-in-Kill.ensures in
    let p = err_from_is_err_and c.from_residual.result c.from_residual.ensures.1 in
    rw (p.1, p.2)
    (subst (λ s. FollowsStep (record { player = old; tag = c.args.tag; step = viewed s batch; token = told }) (Err c.in_err-write_reply-in-Kill.field-0.0) new before after) (sym c.in-Kill.is)
    (kill_failed given c.in_err-write_reply-in-Kill.field-0.0 new before after refl c.stop.ensures (rw c.in_err-write_reply-in-Kill.was at writes)))
