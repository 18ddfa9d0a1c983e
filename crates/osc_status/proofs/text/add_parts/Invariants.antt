use Rattle.std.proofs.Common.{◌++◌, take}
use Rattle.std.specs.List.{flat_map}
use Rattle.play_outside.specs.Gathered.{Gathered}
use Rattle.osc_status.specs.Texts.{without_zeros}
use Rattle.osc_status.specs.inner.Form.{formed}
use Rattle.osc_status.proofs.text.add_parts.Given as goal

-- the parts before this one were added
abbrev pub invariant-loop-part : goal.invariant-loop-part
invariant-loop-part g l =
    Gathered (l.initial.pieces ++ flat_map (λ part. formed l.form (without_zeros part.now)) (take l.part-index l.parts)) l.pieces (g.K.Sink.state l.initial.to) (g.K.Sink.state l.to)
