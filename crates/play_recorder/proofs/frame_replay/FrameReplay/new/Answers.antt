use Rattle.play_recorder.proofs.FrameReplays.{new_ready}
use Rattle.play_recorder.proofs.frame_replay.FrameReplay.new.Goals as goal

pub returns-clause-ready : goal.returns-clause-ready
returns-clause-ready c =
    new_ready
    (record { config = c.args.config; media = c.args.media; played = c.in_ok-played.played; renderer = c.in_ok-renderer.renderer; skipped = c.args.skipped })
    c.in_ok-played.ensures.stage c.in_ok-played.ensures.scenes c.in_ok-renderer.ensures
