use Rattle.std.proofs.Common.{◌++◌, take}
use Rattle.std.specs.List.{flat_map}
use Rattle.play_outside.specs.Gathered.{Gathered}
use Rattle.play_outside.proofs.gather.Gather.add_parts.Given as goal

-- the parts before this one were added
abbrev pub invariant-loop-part : goal.invariant-loop-part
invariant-loop-part g l =
    Gathered (l.initial.self ++ flat_map (λ part. part.now) (take l.part-index l.parts)) l.self (g.K.Sink.state l.initial.to) (g.K.Sink.state l.to)
