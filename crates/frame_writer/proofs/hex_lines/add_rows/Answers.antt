use Rattle.std.proofs.Common.{append-nil}
use Rattle.play_outside.proofs.Gathering.{Gathered-none, Gathered-next, Adds-next}
use Rattle.frame_writer.proofs.Rows.{row_lines-zero, row_lines-more, row_lines-parts}
use Rattle.frame_writer.proofs.hex_lines.add_rows.Goals as goal

pub loop-row-init : goal.loop-row-init
loop-row-init g c = rw (row_lines-zero, append-nil) (Gathered-none c.args.text.now (g.K.Sink.state c.args.to.now))

pub returns-in_err-add_line : goal.returns-in_err-add_line
returns-in_err-add_line g c =
    rw c.from_residual.ensures
    (Adds-next _ _ _ _ _ _ _ _ _ _ (row_lines-parts c.args.row_length c.loop-row.row c.args.rows c.args.frame.now c.loop-row-test.true)
    c.loop-row.invariant (rw (c.from.ensures, c.in_err-add_line.ensures) at c.add_line.ensures))

pub loop-row-preserved : goal.loop-row-preserved
loop-row-preserved g c =
    Gathered-next _ _ _ _ _ _ _ _ _ (row_lines-more c.args.row_length c.loop-row.row c.args.frame.now)
    c.loop-row.invariant (rw (c.from.ensures, c.in_ok-add_line.ensures) at c.add_line.ensures)
