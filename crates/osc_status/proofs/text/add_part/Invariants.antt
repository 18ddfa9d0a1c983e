use Rattle.std.proofs.Common.{[], ◌∷◌, ◌++◌, take}
use Rattle.std.specs.List.{flat_map}
use Rattle.play_outside.specs.Gathered.{Gathered}
use Rattle.osc_status.specs.Texts.{without_zeros}
use Rattle.osc_status.specs.inner.Form.{formed}
use Rattle.osc_status.proofs.text.add_part.Given as goal

-- the bytes before this one were added
abbrev pub invariant-loop-byte : goal.invariant-loop-byte
invariant-loop-byte g l =
    Gathered (l.initial.pieces ++ flat_map (λ byte. formed l.form (without_zeros (byte ∷ []))) (take l.byte-index l.part)) l.pieces (g.K.Sink.state l.initial.to) (g.K.Sink.state l.to)
