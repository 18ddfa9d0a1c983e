use Rattle.std.proofs.Common.{◌≡◌}
use Rattle.play_outside.specs.SinkState.{after_taking}
use Rattle.script_player.proofs.Ticking.{texts_to}
use Rattle.status_display.specs.Status.{channel_status}
use Rattle.status_display.proofs.status_display.write_statuses.Given as goal

-- the status of the channels before this one was written
abbrev pub invariant-loop-at : goal.invariant-loop-at
invariant-loop-at g l = g.K.Sink.state l.out ≡ after_taking (g.K.Sink.state l.initial.out) (texts_to (channel_status l.fn.tick) l.at)
