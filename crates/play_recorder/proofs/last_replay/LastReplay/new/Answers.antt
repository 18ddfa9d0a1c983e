use Rattle.play_recorder.proofs.DepthReplays.{new_known}
use Rattle.play_recorder.proofs.last_replay.LastReplay.new.Goals as goal

pub returns-clause-depths : goal.returns-clause-depths
returns-clause-depths c =
    new_known (record { played = c.in_ok-new.field-0.played; depths = c.new-2.result }) c.args.config.now
    c.in_ok-new.ensures.new c.in_ok-new.ensures.ready.scenes c.new-2.ensures.depths
