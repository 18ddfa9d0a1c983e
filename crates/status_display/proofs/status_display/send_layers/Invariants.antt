use Rattle.std.proofs.Common.{◌≡◌, length, ◌-◌}
use Rattle.play_outside.specs.SinkState.{after_taking}
use Rattle.stage_core.specs.Seen.{seen_layers}
use Rattle.status_display.specs.Status.{events_of_tick}
use Rattle.status_display.proofs.ToldStatus.{first_lines}
use Rattle.status_display.proofs.status_display.send_layers.Given as goal

-- the lines of the layers before this one were written
abbrev pub invariant-layers : goal.invariant-layers
invariant-layers g l =
    g.K.Sink.state l.out ≡ after_taking (g.K.Sink.state l.initial.out) (first_lines l.tick.setup.now.names l.tick.number (events_of_tick l.tick) l.channel l.at)

-- each turn writes the lines of one layer
abbrev pub decreases-layers : goal.decreases-layers
decreases-layers g l = length (seen_layers (events_of_tick l.tick) l.channel) - l.at
