use Rattle.std.proofs.Common.{◌++◌, ◌∷◌, take}
use Rattle.std.specs.List.{flat_map}
use Rattle.amcp_text.specs.Micros.{printed_micro}
use Rattle.play_outside.specs.Gathered.{Gathered}
use Rattle.cmd_print.proofs.setting.add_micros.Given as goal

-- the numbers before this one were added
abbrev pub invariant-loop-value : goal.invariant-loop-value
invariant-loop-value g l =
    Gathered (l.initial.text ++ flat_map (λ value. 32 ∷ printed_micro value) (take l.value-index l.values)) l.text
    (g.K.Sink.state l.initial.to) (g.K.Sink.state l.to)
