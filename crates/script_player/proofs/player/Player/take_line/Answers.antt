use Rattle.std.proofs.Common.{length, sym, ap, ◌∙◌, subst}
use Rattle.std.specs.Prelude.{Err, Ok}
use Rattle.std.proofs.lemmas.Result.{err_from_is_err_and}
use Rattle.server_setup.specs.declared.setup.ServerSetup.{ServerSetup}
use Rattle.script_player.specs.Player.{PlaysLine, WritesText, events_in, playout_in}
use Rattle.script_player.specs.Shown.{shown_ticks}
use Rattle.script_player.proofs.Counting.{few_made}
use Rattle.script_player.proofs.Lines.{comment_played, stop_played, ticks_failed, ticks_played}
use Rattle.script_player.proofs.Stepping.{always}
use Rattle.script_player.proofs.Ticked.{still_shown}
use Rattle.history_model.proofs.OneLines.{text_one_line}
use Rattle.script_player.proofs.player.Player.take_line.Goals as goal

pub returns-in-Comment-clause-plays : goal.returns-in-Comment-clause-plays
returns-in-Comment-clause-plays g c = λ shown playout played told none on represents. comment_played shown playout played _ _ _ on c.in-Comment.ensures represents

pub returns-in_ok-tick-in-Ticks-clause-plays : goal.returns-in_ok-tick-in-Ticks-clause-plays
returns-in_ok-tick-in-Ticks-clause-plays g c = λ shown playout played told none on represents.
    ticks_played shown playout played _ _ _ c.args.self.now c.tick.new.self _ _ on c.in-Ticks.ensures represents
    (subst (λ s. WritesText (Ok tt) (shown_ticks s (playout_in c.args.self.now) (events_in c.args.self.now) c.in-Ticks.count) (g.K.Sink.state c.args.out.now) (g.K.Sink.state c.tick.new.out)) (sym told)
    c.in_ok-tick-in-Ticks.ensures.written)
    c.in_ok-tick-in-Ticks.ensures.makes

pub returns-in_err-tick-in-Ticks-clause-plays : goal.returns-in_err-tick-in-Ticks-clause-plays
returns-in_err-tick-in-Ticks-clause-plays g c = λ shown playout played told none on represents.
    let p = err_from_is_err_and c.from_residual.result c.from_residual.ensures.1 in
    rw (p.1, p.2)
    (ticks_failed shown playout played _ _ _ c.args.self.now c.tick.new.self _ _ c.in-Ticks.ensures represents
    (subst (λ s. WritesText (Err c.in_err-tick-in-Ticks.field-0.0) (shown_ticks s (playout_in c.args.self.now) (events_in c.args.self.now) c.in-Ticks.count) (g.K.Sink.state c.args.out.now) (g.K.Sink.state c.tick.new.out)) (sym told)
    c.in_err-tick-in-Ticks.ensures.written))

pub returns-in_ok-tick-in-Ticks-clause-grows : goal.returns-in_ok-tick-in-Ticks-clause-grows
returns-in_ok-tick-in-Ticks-clause-grows g c = few_made c.args.line.now c.in-Ticks.count (Ok tt) c.args.self.now c.tick.new.self c.in-Ticks.ensures c.in_ok-tick-in-Ticks.ensures.makes

pub returns-in-Said-clause-plays : goal.returns-in-Said-clause-plays
returns-in-Said-clause-plays g c = λ shown playout played told none on represents.
    subst (λ l. PlaysLine (record { playout = playout; shown = shown; before = played; line = l }) c.take_client_line.result c.take_client_line.new.self (g.K.Sink.state c.args.out.now) (g.K.Sink.state c.take_client_line.new.out)) c.in-Said.ensures
    (c.take_client_line.ensures.plays shown playout played (text_one_line c.args.line.now _ _ c.in-Said.ensures none) on represents)

pub returns-in-Stop-clause-plays : goal.returns-in-Stop-clause-plays
returns-in-Stop-clause-plays g c = λ shown playout played told none on represents.
    stop_played shown playout played _ c.args.self.now c.stop.new.self _ on c.in-Stop.ensures represents c.stop.ensures

pub returns-in-Said-clause-shown : goal.returns-in-Said-clause-shown
returns-in-Said-clause-shown g c =
    always c.take_client_line.result
    (still_shown (g.D.Display.shows c.args.display.now) (g.met.D.Display.keeps c.args.display.now) (g.D.Display.waiting c.args.display.now) c.args.self.now c.take_client_line.new.self
    c.take_client_line.ensures.makes c.requires.shown)

pub returns-in-Said-clause-stopped : goal.returns-in-Said-clause-stopped
returns-in-Said-clause-stopped g c = λ stops.
    let makes = c.take_client_line.ensures.makes in
    record {
      channels = makes.channels ∙ c.requires.ready.channels ∙ ap (λ (setup : ServerSetup). length setup.config.channels) (sym makes.setup);
      shown = still_shown (g.D.Display.shows c.args.display.now) (g.met.D.Display.keeps c.args.display.now) (g.D.Display.waiting c.args.display.now) c.args.self.now
          c.take_client_line.new.self makes c.requires.shown;
    }
