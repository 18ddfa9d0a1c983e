use Rattle.std.proofs.Common.{subst}
use Rattle.play_outside.specs.Sink.{Fails}
use Rattle.play_outside.proofs.Parts.{Fails-at}
use Rattle.frame_digests.specs.Waiting.{line_text}
use Rattle.frame_digests.proofs.Lines.{text_there}
use Rattle.frame_digests.proofs.waiting.send_lines.Goals as goal

pub returns-in_err-send_line-clause-sends : goal.returns-in_err-send_line-clause-sends
returns-in_err-send_line-clause-sends g c =
    let frames = c.args.frames.now in
    let lines = c.args.lines.now in
    let at = c.loop-line.line-index in
    rw c.from_residual.ensures
    (Fails-at (line_text frames) lines at _ _ _ _ c.loop-line-test.true c.loop-line.invariant.written
    (subst (λ text. Fails text (g.K.Sink.state c.loop-line.to) (g.K.Sink.state c.send_line.new.to))
    (text_there frames lines at _ c.index-frames-line.result c.requires c.loop-line-test.true)
    (rw (c.loop-line.invariant.same, c.in_err-send_line.ensures) at c.send_line.ensures.sends)))
