use Rattle.std.proofs.Common.{append-nil}
use Rattle.play_outside.proofs.Gathering.{Gathered-none}
use Rattle.frame_writer.proofs.Lines.{sound_line-none, sound_line-some}
use Rattle.frame_writer.proofs.hex_lines.add_sound.Goals as goal

pub returns-then-pairs-eq0 : goal.returns-then-pairs-eq0
returns-then-pairs-eq0 g c =
    rw (sound_line-none c.args.pairs c.args.sound.now c.if-pairs-eq0.true, append-nil) (Gathered-none c.args.text.now (g.K.Sink.state c.args.to.now))

pub returns-else-pairs-eq0 : goal.returns-else-pairs-eq0
returns-else-pairs-eq0 g c = rw (sound_line-some c.args.pairs c.args.sound.now c.if-pairs-eq0.false) c.add_line.ensures
