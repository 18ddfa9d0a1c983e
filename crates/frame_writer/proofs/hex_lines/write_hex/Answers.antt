use Rattle.std.proofs.Common.{[], ◌*◌, ◌++◌}
use Rattle.play_outside.proofs.Gathering.{Sends-gathered}
use Rattle.play_outside.proofs.Following.{added-then, added-left, gathered-left}
use Rattle.play_outside.specs.declared.sink.Sent.TheVariants.{All}
use Rattle.history_model.specs.text.Frames.{head_line, row_lines, sound_line}
use Rattle.frame_writer.proofs.Lines.{frame_lines-parts}
use Rattle.frame_writer.proofs.hex_lines.write_hex.Goals as goal

pub returns-in_err-add_head : goal.returns-in_err-add_head
returns-in_err-add_head g c =
    rw frame_lines-parts
    (gathered-left _ _ _ _ _ _
    (added-left _ _ [] (head_line c.args.channel c.args.tick) (row_lines (4 * c.args.size.width) c.args.size.height c.args.frame.now ++ sound_line c.args.size.pairs c.args.sound.now) _ _ _ (rw c.new-text.ensures at c.add_head.ensures) c.in_err-add_head.ensures c.from_residual.ensures) c.from_residual.ensures c.from_residual.ensures)

pub returns-in_err-add_rows : goal.returns-in_err-add_rows
returns-in_err-add_rows g c =
    rw frame_lines-parts
    (gathered-left _ _ _ _ _ _
    (added-then _ [] (head_line c.args.channel c.args.tick) (row_lines (4 * c.args.size.width) c.args.size.height c.args.frame.now ++ sound_line c.args.size.pairs c.args.sound.now) _ _ _ _ _ (rw (c.new-text.ensures, c.in_ok-add_head.ensures) at c.add_head.ensures)
    (added-left _ _ _ (row_lines (4 * c.args.size.width) c.args.size.height c.args.frame.now) (sound_line c.args.size.pairs c.args.sound.now) _ _ _ (rw c.from-row_length.ensures at c.add_rows.ensures) c.in_err-add_rows.ensures c.from_residual-in_err-add_rows.ensures)) c.from_residual-in_err-add_rows.ensures c.from_residual-in_err-add_rows.ensures)

pub returns-in_err-add_sound : goal.returns-in_err-add_sound
returns-in_err-add_sound g c =
    rw frame_lines-parts
    (gathered-left _ _ _ _ _ _
    (added-then _ [] (head_line c.args.channel c.args.tick) (row_lines (4 * c.args.size.width) c.args.size.height c.args.frame.now ++ sound_line c.args.size.pairs c.args.sound.now) _ _ _ _ _ (rw (c.new-text.ensures, c.in_ok-add_head.ensures) at c.add_head.ensures)
    (added-then _ _ (row_lines (4 * c.args.size.width) c.args.size.height c.args.frame.now) (sound_line c.args.size.pairs c.args.sound.now) _ _ _ _ _ (rw (c.from-row_length.ensures, c.in_ok-add_rows.ensures) at c.add_rows.ensures) c.add_sound.ensures)) c.in_err-add_sound.ensures c.from_residual-in_err-add_sound.ensures)

pub returns : goal.returns
returns g c =
    rw frame_lines-parts
    (Sends-gathered _ _ _ _ _ _
    (added-then All [] (head_line c.args.channel c.args.tick) (row_lines (4 * c.args.size.width) c.args.size.height c.args.frame.now ++ sound_line c.args.size.pairs c.args.sound.now) _ _ _ _ _ (rw (c.new-text.ensures, c.in_ok-add_head.ensures) at c.add_head.ensures)
    (added-then All _ (row_lines (4 * c.args.size.width) c.args.size.height c.args.frame.now) (sound_line c.args.size.pairs c.args.sound.now) _ _ _ _ _ (rw (c.from-row_length.ensures, c.in_ok-add_rows.ensures) at c.add_rows.ensures) (rw c.in_ok-add_sound.ensures at c.add_sound.ensures)))
    c.finish.ensures.sends)
