use Rattle.std.proofs.Common.{[], ◌∷◌, ◌++◌, take}
use Rattle.std.specs.List.{flat_map}
use Rattle.play_outside.specs.Gathered.{Gathered}
use Rattle.osc_status.specs.Message.{letter}
use Rattle.osc_status.specs.Written.{arg_value}
use Rattle.osc_status.proofs.writing.add_each_letter.Given as goal

-- the letters of the arguments before this one were added
abbrev pub invariant-loop-arg : goal.invariant-loop-arg
invariant-loop-arg g l =
    Gathered (l.initial.pieces ++ flat_map (λ arg. letter (arg_value arg) ∷ []) (take l.arg-index l.args)) l.pieces (g.K.Sink.state l.initial.to) (g.K.Sink.state l.to)
