use Rattle.std.proofs.Common.{refl, ap, subst, ◌∙◌, length, arith}
use Rattle.std.specs.Prelude.{Ok, Err}
use Rattle.std.specs.Str.Lines.{strip_carriage_return}
use Rattle.std.proofs.lemmas.Result.{err_from_is_err_and}
use Rattle.history_model.specs.scripts.Line.{meaning}
use Rattle.history_model.specs.scripts.Input.{unended}
use Rattle.script_player.specs.Player.{PlaysLine}
use Rattle.script_player.proofs.Growth.{fed_done, fed_stops}
use Rattle.history_model.proofs.OneLines.{stripped_one_line}
use Rattle.script_player.proofs.script.ScriptPlayer.end_line.Goals as goal
use Rattle.script_player.proofs.Counting.{stripped_shorter}

pub returns-in_err-reply-clause-takes : goal.returns-in_err-reply-clause-takes
returns-in_err-reply-clause-takes g c = λ run bytes told taken.
    let p = err_from_is_err_and c.from_residual.result c.from_residual.ensures.1 in
    let line_is = c.without_carriage_return-bytes.ensures ∙ ap strip_carriage_return (c.as_slice.ensures.value ∙ taken.waiting) in
    rw (p.1, p.2)
    (fed_stops run c.args.self.now.script (record { waiting = c.args.self.now.script.waiting; lines = c.args.self.now.script.lines; player = c.take_line.new.self }) bytes _ _ taken c.in_err-reply.field-0.0
    (subst
    (λ l. PlaysLine (record { playout = run.playout; shown = run.shown; before = taken.done.played; line = meaning l }) (Err c.in_err-reply.field-0.0) c.take_line.new.self (g.K.Sink.state c.args.out.now) (g.K.Sink.state c.take_line.new.out))
    line_is
    (c.in_err-reply.ensures.plays run.shown run.playout taken.done.played told (stripped_one_line _ (unended bytes) line_is taken.one_line) taken.done.runs_on taken.player))
    refl)

pub returns-clause-takes : goal.returns-clause-takes
returns-clause-takes g c = λ run bytes told taken.
    let line_is = c.without_carriage_return-bytes.ensures ∙ ap strip_carriage_return (c.as_slice.ensures.value ∙ taken.waiting) in
    fed_done run c.args.self.now.script _ bytes _ _ taken
    (subst
    (λ l. PlaysLine (record { playout = run.playout; shown = run.shown; before = taken.done.played; line = meaning l }) (Ok c.in_ok-reply.reply) c.take_line.new.self (g.K.Sink.state c.args.out.now) (g.K.Sink.state c.take_line.new.out))
    line_is
    (c.in_ok-reply.ensures.plays run.shown run.playout taken.done.played told (stripped_one_line _ (unended bytes) line_is taken.one_line) taken.done.runs_on taken.player))
    c.clear.ensures.items refl

pub returns-clause-ticks : goal.returns-clause-ticks
returns-clause-ticks g c =
    let grows = c.in_ok-reply.ensures.grows in
    let line = ap length (c.without_carriage_return-bytes.ensures ∙ ap strip_carriage_return c.as_slice.ensures.value) in
    let short = stripped_shorter c.args.self.now.script.waiting.items in
    let none = ap length c.clear.ensures.items in
    omega (arith, grows, line, short, none)
