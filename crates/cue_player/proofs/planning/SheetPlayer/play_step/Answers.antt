use Rattle.std.proofs.Common.{subst}
use Rattle.std.specs.Prelude.{Err, Ok}
use Rattle.std.proofs.lemmas.Result.{err_from_is_err_and}
use Rattle.history_model.specs.scripts.Line.{Said}
use Rattle.script_player.specs.Shown.{Frames, shown_ticks}
use Rattle.script_player.specs.Player.{PlaysLine, WritesText, events_in, playout_in}
use Rattle.script_player.proofs.Lines.{differ-said}
use Rattle.script_player.proofs.Ticked.{still_shown}
use Rattle.cue_player.proofs.PlayedLines.{line_halts, line_played, text_of_step}
use Rattle.cue_player.proofs.PlayedTicks.{ticks_counted, ticks_singly}
use Rattle.cue_player.proofs.planning.SheetPlayer.play_step.Goals as goal

pub returns-in-Ticks-clause-ticks : goal.returns-in-Ticks-clause-ticks
returns-in-Ticks-clause-ticks g c = rw c.in-Ticks.is (ticks_counted c.in-Ticks.count c.tick.result c.args.self.now.player c.tick.new.self c.tick.ensures.makes)

pub returns-in-Ticks-clause-plays : goal.returns-in-Ticks-clause-plays
returns-in-Ticks-clause-plays g c = λ run lines had.
    rw c.in-Ticks.is (ticks_singly run lines c.in-Ticks.count c.tick.result c.args.self.now.player c.tick.new.self _ _ had c.tick.ensures.makes
    (subst (λ s. WritesText c.tick.result (shown_ticks s (playout_in c.args.self.now.player) (events_in c.args.self.now.player) c.in-Ticks.count) (g.K.Sink.state c.args.out.now) (g.K.Sink.state c.tick.new.out)) c.requires.frames
    c.tick.ensures.written))

pub returns-in_ok-reply-in-Line-clause-plays : goal.returns-in_ok-reply-in-Line-clause-plays
returns-in_ok-reply-in-Line-clause-plays g c = λ run lines had.
    let one_line = text_of_step c.args.step c.in-Line.tag c.in-Line.text _ c.in-Line.is c.as_slice-line.ensures c.requires.line in
    rw c.in-Line.is
    (line_played run lines (Said c.in-Line.tag c.in-Line.text) c.args.self.now.player _ _ had c.in_ok-reply-in-Line.reply c.take_client_line.new.self
    (subst
    (λ t. PlaysLine (record { playout = run.playout; shown = Frames; before = had.played; line = Said c.in-Line.tag t }) (Ok c.in_ok-reply-in-Line.reply) c.take_client_line.new.self (g.K.Sink.state c.args.out.now) (g.K.Sink.state c.take_client_line.new.out))
    c.as_slice-line.ensures
    (c.in_ok-reply-in-Line.ensures.plays Frames run.playout had.played one_line had.runs_on had.represents)))

pub returns-in_err-reply-in-Line-clause-plays : goal.returns-in_err-reply-in-Line-clause-plays
returns-in_err-reply-in-Line-clause-plays g c = λ run lines had.
    let one_line = text_of_step c.args.step c.in-Line.tag c.in-Line.text _ c.in-Line.is c.as_slice-line.ensures c.requires.line in
    let p = err_from_is_err_and c.from_residual.result c.from_residual.ensures.1 in
    let reason = c.in_err-reply-in-Line.field-0.0 in
    rw (p.1, p.2, c.in-Line.is)
    (line_halts run lines (Said c.in-Line.tag c.in-Line.text) c.args.self.now.player _ _ had reason c.take_client_line.new.self (differ-said c.in-Line.tag c.in-Line.text)
    (subst
    (λ t. PlaysLine (record { playout = run.playout; shown = Frames; before = had.played; line = Said c.in-Line.tag t }) (Err reason) c.take_client_line.new.self (g.K.Sink.state c.args.out.now) (g.K.Sink.state c.take_client_line.new.out))
    c.as_slice-line.ensures
    (c.in_err-reply-in-Line.ensures.plays Frames run.playout had.played one_line had.runs_on had.represents)))

pub returns-in_ok-reply-in-Line-clause-shown : goal.returns-in_ok-reply-in-Line-clause-shown
returns-in_ok-reply-in-Line-clause-shown g c =
    still_shown (g.D.Display.shows c.args.self.now.display) (g.met.D.Display.keeps c.args.self.now.display) (g.D.Display.waiting c.args.self.now.display) c.args.self.now.player c.take_client_line.new.self
    c.take_client_line.ensures.makes c.requires.shown
