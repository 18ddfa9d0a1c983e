use Rattle.std.proofs.Common.{◌≡◌, ◌%◌, length, take}
use Rattle.std.specs.List.{flat_map}
use Rattle.osc_status.specs.Texts.{without_zeros}
use Rattle.osc_status.proofs.padding.padding_after.Given as goal

-- the length of the parts before this one, modulo 4
abbrev pub invariant-loop-part : goal.invariant-loop-part
invariant-loop-part l = l.over ≡ length (flat_map (λ part. without_zeros part.now) (take l.part-index l.parts)) % 4
