use Rattle.std.proofs.Common.{◌++◌, take}
use Rattle.std.specs.List.{flat_map}
use Rattle.play_outside.specs.Gathered.{Gathered}
use Rattle.history_model.specs.text.History.{tick_line}
use Rattle.cmd_print.proofs.Ticks.{full_lines}
use Rattle.cmd_print.proofs.event.add_ticks.Given as goal

-- the full lines before this one were added
abbrev pub invariant-loop-turn : goal.invariant-loop-turn
invariant-loop-turn g l =
    Gathered (l.initial.text ++ flat_map tick_line (take l._turn (full_lines l.times))) l.text
    (g.K.Sink.state l.initial.to) (g.K.Sink.state l.to)
