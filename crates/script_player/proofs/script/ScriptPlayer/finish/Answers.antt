use Rattle.std.proofs.Common.{◌≡◌, ◌<◌, true, length, sym, ap, subst, ◌∙◌, arith}
use Rattle.std.specs.Prelude.{Ok, Err, vec_len}
use Rattle.std.specs.List.{list_any}
use Rattle.std.proofs.lemmas.Bool.Decides.{nat_tests}
use Rattle.amcp_text.specs.Lines.{is_line_end}
use Rattle.history_model.specs.scripts.Line.{meaning}
use Rattle.script_player.specs.Player.{PlaysLine}
use Rattle.script_player.specs.Taken.{EndsWith}
use Rattle.script_player.proofs.Growth.{reading_of}
use Rattle.script_player.proofs.Endings.{ended_empty, ended_done, ended_stops}
use Rattle.script_player.proofs.script.ScriptPlayer.finish.Goals as goal

pub returns-then-is_empty : goal.returns-then-is_empty
returns-then-is_empty g c = λ run bytes told taken short.
    let waiting = c.args.self.now.script.waiting in
    ended_empty run c.args.self.now.script bytes _ taken short
    (let empty : vec_len waiting ≡ 0 = grind (arith, nat_tests) in omega (arith, waiting.ok.0))

pub returns-in-Ok : goal.returns-in-Ok
returns-in-Ok g c = λ run bytes told taken short.
    let waiting = c.args.self.now.script.waiting in
    let some : 0 < vec_len waiting = grind (arith, nat_tests) in
    let there : 0 < length waiting.items = omega (arith, waiting.ok.0) in
    let line_is = c.as_slice-bytes.ensures.value ∙ taken.waiting in
    ended_done run c.args.self.now.script bytes _ _ taken short (subst (λ l. 0 < length l) taken.waiting there) c.take_line.new.self
    (subst
    (λ l. PlaysLine (record { playout = run.playout; shown = run.shown; before = taken.done.played; line = meaning l }) (Ok c.in-Ok.reply) c.take_line.new.self (g.K.Sink.state c.args.out.now) (g.K.Sink.state c.take_line.new.out))
    line_is (c.in-Ok.ensures.plays run.shown run.playout taken.done.played told (ap (list_any is_line_end) line_is ∙ taken.one_line) taken.done.runs_on taken.player))

pub returns-in-Err : goal.returns-in-Err
returns-in-Err g c = λ run bytes told taken short.
    let waiting = c.args.self.now.script.waiting in
    let some : 0 < vec_len waiting = grind (arith, nat_tests) in
    let there : 0 < length waiting.items = omega (arith, waiting.ok.0) in
    let line_is = c.as_slice-bytes.ensures.value ∙ taken.waiting in
    subst (λ e. EndsWith run e c.take_line.new.self (reading_of bytes true) (g.K.Sink.state c.take_line.new.out)) (sym c.ending.ensures)
    (ended_stops run c.args.self.now.script bytes _ _ taken short (subst (λ l. 0 < length l) taken.waiting there) c.take_line.new.self c.in-Err.halt
    (subst
    (λ l. PlaysLine (record { playout = run.playout; shown = run.shown; before = taken.done.played; line = meaning l }) (Err c.in-Err.halt) c.take_line.new.self (g.K.Sink.state c.args.out.now) (g.K.Sink.state c.take_line.new.out))
    line_is (c.in-Err.ensures.plays run.shown run.playout taken.done.played told (ap (list_any is_line_end) line_is ∙ taken.one_line) taken.done.runs_on taken.player)))
