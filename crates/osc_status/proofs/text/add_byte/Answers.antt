use Rattle.std.proofs.Common.{append-nil}
use Rattle.play_outside.proofs.Gathering.{Gathered-none}
use Rattle.osc_status.proofs.Formed.{formed-nil}
use Rattle.osc_status.proofs.text.add_byte.Goals as goal

pub returns-then-byte-eq0 : goal.returns-then-byte-eq0
returns-then-byte-eq0 g c =
    rw (c.if-byte-eq0.true, formed-nil c.args.form, append-nil) (Gathered-none c.args.pieces.now (g.K.Sink.state c.args.to.now))
