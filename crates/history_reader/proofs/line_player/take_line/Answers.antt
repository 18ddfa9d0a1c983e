use Rattle.std.proofs.Common.{◌||◌, refl, sym, ap, ◌∙◌}
use Rattle.std.specs.Prelude.{nat_lt}
use Rattle.history_model.specs.scripts.Line.{meaning}
use Rattle.script_player.specs.Shown.{Replies}
use Rattle.history_reader.specs.HistoryText.{is_kept}
use Rattle.history_reader.proofs.Taking.{line_kills, line_played, line_rejected, never_fails, own_stop, refused, tested}
use Rattle.history_reader.proofs.line_player.take_line.Goals as goal

pub returns-then-is_own_stop-clause-takes : goal.returns-then-is_own_stop-clause-takes
returns-then-is_own_stop-clause-takes c = λ playout lines had. (
  own_stop playout c.args.player.now lines had c.args.line.now c.requires.playing.ready.running (ap meaning (c.is_own_stop.ensures c.if-is_own_stop.true)),
  had,
)

pub returns-then-is_of_history-clause-takes : goal.returns-then-is_of_history-clause-takes
returns-then-is_of_history-clause-takes c = λ playout lines had.
    let line = c.args.line.now in
    let plays = c.in-Ok.ensures.plays Replies playout had.played refl c.requires.one_line had.runs_on had.represents in
    line_played playout c.args.player.now lines had line c.requires.one_line c.in-Ok.reply c.take_line.new.self _ _ plays
    (tested playout c.args.player.now lines had line c.requires.one_line c.in-Ok.reply c.take_line.new.self _ _ plays _
    ((λ i. nat_lt (sym c.size-before.ensures.value i) (sym c.size.ensures.value i) || is_kept c.in-Ok.reply) ∙ sym c.is_of_history.ensures ∙ c.if-is_of_history.true)
    c.size.ensures.history c.requires.playing.ready c.in-Ok.ensures.ready)

pub returns-else-is_of_history-clause-takes : goal.returns-else-is_of_history-clause-takes
returns-else-is_of_history-clause-takes c = λ playout lines had.
    let line = c.args.line.now in
    let plays = c.in-Ok.ensures.plays Replies playout had.played refl c.requires.one_line had.runs_on had.represents in
    refused playout c.args.player.now lines had line
    (tested playout c.args.player.now lines had line c.requires.one_line c.in-Ok.reply c.take_line.new.self _ _ plays _
    ((λ i. nat_lt (sym c.size-before.ensures.value i) (sym c.size.ensures.value i) || is_kept c.in-Ok.reply) ∙ sym c.is_of_history.ensures ∙ c.if-is_of_history.false)
    c.size.ensures.history c.requires.playing.ready c.in-Ok.ensures.ready)

pub returns-in-Err-Stop-clause-takes : goal.returns-in-Err-Stop-clause-takes
returns-in-Err-Stop-clause-takes c = λ playout lines had.
    line_kills playout c.args.player.now lines had c.args.line.now c.requires.one_line c.in-Err-Stop.field-0 c.take_line.new.self _ _ c.in-Err-Stop.field-0-is
    c.requires.playing.ready.running
    (c.in-Err-Stop.ensures.plays Replies playout had.played refl c.requires.one_line had.runs_on had.represents)

pub returns-in-Err-Rejected-clause-takes : goal.returns-in-Err-Rejected-clause-takes
returns-in-Err-Rejected-clause-takes c = λ playout lines had.
    refused playout c.args.player.now lines had c.args.line.now
    (line_rejected playout c.args.player.now lines had c.args.line.now c.requires.one_line c.in-Err-Rejected.field-0 c.take_line.new.self _ _ c.in-Err-Rejected.field-0-is
    (c.in-Err-Rejected.ensures.plays Replies playout had.played refl c.requires.one_line had.runs_on had.represents))

pub unreachable-requires : goal.unreachable-requires
unreachable-requires c =
    let playing = c.requires.playing in
    never_fails playing.playout c.args.player.now playing.lines playing.played c.args.line.now c.requires.one_line c.in-Err-Write.field-0 c.take_line.new.self _ _
    c.in-Err-Write.field-0-is refl refl
    (c.in-Err-Write.ensures.plays Replies playing.playout playing.played.played refl c.requires.one_line playing.played.runs_on playing.played.represents)
