use Rattle.std.proofs.Common.{◌≡◌, ℕ, ◌-◌, ◌*◌, ◌≤◌, ◌++◌, length, take, drop, refl, sym, ap, ◌∙◌, arith, length-take-le}
use Rattle.std.specs.Vec.{with_items}
use Rattle.row_render.specs.inner.Scaled.{ScaledView}
use Rattle.row_render.proofs.KeptRows.{front_is, kept_row}
use Rattle.row_render.proofs.scaled.ScaledRow.scale.Goals as goal

pub invariant_of-self : goal.invariant_of-self
invariant_of-self c =
    let width = c.args.width in
    let rows = c.self.inside.row in
    let kept = take c.self.inside.count c.self.inside.source.items in
    let same = sym (ap (take c.self.inside.count) c.deref.ensures.value) in
    let room = ap (λ (v : ScaledView). v.room) c.self.view_is in
    let from : c.from-bytes.result ≡ width = c.from-bytes.ensures in
    let count = 4 * c.from-bytes.result in
    let is = c.scale_columns.ensures.row in
    let piece = c.scale_columns.new.row in
    let room_there : count ≤ length rows.items = omega (arith, room, c.requires.width, from, c.self.invariant.0, rows.ok.0) in
    let part = length-take-le count c.deref_mut.result.now (omega (arith, room_there, c.deref_mut.ensures.len, rows.ok.0)) in
    let long : count ≡ length piece = omega (arith, c.scale_columns.auto.row, part) in
    let all = (with_items rows (take 0 c.deref_mut.result.now ++ (piece ++ drop (count - 0) (drop 0 c.deref_mut.result.now)))).items in
    let made = front_is rows count (count - 0) piece piece c.deref_mut.result.now c.deref_mut.ensures.value refl (omega (arith, long)) long (omega (arith, room_there, long)) in (
      c.self.invariant.0,
      c.self.invariant.1,
      kept_row _ kept piece _ width _ same (ap (λ (n : ℕ). take (4 * n) all) (sym from) ∙ made) (omega (arith, part, from)) is,
    )
