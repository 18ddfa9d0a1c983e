use Rattle.std.proofs.Common.{rules, ◌≡◌, ◌<◌, length, append-nil, arith}
use Rattle.play_outside.proofs.Gathering.{Gathered-none}
use Rattle.frame_display.specs.Frames.{one_text}
use Rattle.script_player.proofs.Ticking.{text_more_added, text_not_added}
use Rattle.frame_display.proofs.tick_frames.TickFrames.add.Goals as goal

pub loop-at-init : goal.loop-at-init
loop-at-init g c = rw append-nil (Gathered-none c.args.lines.now (g.K.Sink.state c.args.out.now))

pub loop-at-preserved : goal.loop-at-preserved
loop-at-preserved g c =
    text_more_added c.args.lines.now (one_text c.args.self.now) c.loop-at.at _ _ _ _ _ c.loop-at.invariant (rw c.in_ok-add_frame.ensures at c.add_frame.ensures)

pub returns-in_err-add_frame : goal.returns-in_err-add_frame
returns-in_err-add_frame g c =
    let frames = c.args.self.now in
    let count : c.len-at-end.result ≡ length frames.setup.now.config.channels = search rules in
    let inside : c.loop-at.at < length frames.setup.now.config.channels = omega (arith, count, c.loop-at-test.true) in
    rw c.from_residual.ensures
    (text_not_added c.args.lines.now (one_text frames) c.loop-at.at (length frames.setup.now.config.channels) _ _ _ _ _ inside c.loop-at.invariant
    (rw c.in_err-add_frame.ensures at c.add_frame.ensures))
