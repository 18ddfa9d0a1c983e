use Rattle.std.proofs.Common.{◌+◌, ◌-◌, ◌≤◌, length, refl, ap, arith}
use Rattle.row_render.specs.inner.Scaled.{ScaledView}
use Rattle.row_render.proofs.KeptRows.{front_is}
use Rattle.row_render.proofs.scaled.ScaledRow.keep.Goals as goal

pub returns-clause-source : goal.returns-clause-source
returns-clause-source c =
    let source = c.args.source.now in
    let sources = c.self.inside.source in
    let room = ap (λ (v : ScaledView). v.room) c.self.view_is in
    let fits : 0 + length source ≤ length sources.items = omega (arith, room, c.requires, sources.ok.0) in
    front_is sources (length source) (length source - 0) c.copy_from_slice.new.self source c.deref_mut.result.now c.deref_mut.ensures.value c.copy_from_slice.ensures.after
    (omega arith) refl fits
