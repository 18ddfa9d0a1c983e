use Rattle.std.proofs.Common.{◌++◌}
use Rattle.play_outside.specs.Gathered.{Gathered}
use Rattle.history_model.specs.text.Frames.{row_lines}
use Rattle.frame_writer.proofs.hex_lines.add_rows.Given as goal

-- the rows before this one were added
abbrev pub invariant-loop-row : goal.invariant-loop-row
invariant-loop-row g l =
    Gathered (l.initial.text ++ row_lines l.row_length l.row l.frame) l.text (g.K.Sink.state l.initial.to) (g.K.Sink.state l.to)
