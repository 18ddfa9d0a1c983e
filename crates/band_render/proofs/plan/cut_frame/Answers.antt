use Rattle.std.proofs.Common.{◌≡◌, ℕ, ◌+◌, ◌*◌, ◌++◌, ◌≤◌, List, ap, sym, subst, ◌∙◌, arith}
use Rattle.band_render.specs.declared.weights.TheConstants.{MOST_WEIGHT}
use Rattle.band_render.specs.Rows.{Row, rows_from, rows_of_bands}
use Rattle.band_render.specs.Bands.{AreNumbered}
use Rattle.band_render.proofs.Rows.{rows_below}
use Rattle.band_render.proofs.plan.cut_frame.Goals as goal
use Rattle.band_render.proofs.plan.cut_frame.Goals.{then-made-cut+then-ends, then-y-eq0, else-y-eq0, then-made-cut+else-ends, else-made-cut}

pub loop-y-preserved : goal.loop-y-preserved
loop-y-preserved c =
    let above = c.loop-y.invariant in
    let y = c.loop-y.y in
    let before = rows_of_bands c.args.bands.now.items in
    let shown : ℕ → List Row = rows_from c.args.channel c.args.size 0 in
    let rows : rows_of_bands c.if-made-cut.bands.items ≡ before ++ shown c.if-made-cut.first = elim c.if-made-cut.branch [
      | then-made-cut+then-ends w ↦
          ap (λ b. rows_of_bands b.items) w.bands-is
          ∙ rows_below before c.args.channel c.args.size c.loop-y.first y (rows_of_bands c.loop-y.bands.items) (rows_of_bands w.push.new.bands.items)
          (omega (arith, above.first)) above.rows w.push.ensures.rows
          ∙ ap (λ (n : ℕ). before ++ shown n) (sym w.first-is)
      | then-made-cut+else-ends w ↦
          ap (λ b. rows_of_bands b.items) w.bands-is ∙ above.rows ∙ ap (λ (n : ℕ). before ++ shown n) (sym w.first-is)
      | else-made-cut w ↦ ap (λ b. rows_of_bands b.items) w.bands-is ∙ above.rows ∙ ap (λ (n : ℕ). before ++ shown n) (sym w.first-is)
    ] in
    let many : c.if-made-cut.bands.len ≡ c.args.bands.now.len + c.if-made-cut.made = elim c.if-made-cut.branch [
      | then-made-cut+then-ends w ↦ ap (λ b. b.len) w.bands-is ∙ omega (arith, w.push.ensures.many, above.many, w.made-is)
      | then-made-cut+else-ends w ↦ ap (λ b. b.len) w.bands-is ∙ omega (arith, above.many, w.made-is)
      | else-made-cut w ↦ ap (λ b. b.len) w.bands-is ∙ omega (arith, above.many, w.made-is)
    ] in
    let room : c.if-made-cut.bands.cap ≡ c.args.bands.now.cap = elim c.if-made-cut.branch [
      | then-made-cut+then-ends w ↦ ap (λ b. b.cap) w.bands-is ∙ w.push.ensures.room ∙ above.room
      | then-made-cut+else-ends w ↦ ap (λ b. b.cap) w.bands-is ∙ above.room
      | else-made-cut w ↦ ap (λ b. b.cap) w.bands-is ∙ above.room
    ] in
    let first : c.if-made-cut.first + 1 ≤ y + 1 = elim c.if-made-cut.branch [
      | then-made-cut+then-ends w ↦ omega (arith, w.first-is)
      | then-made-cut+else-ends w ↦ omega (arith, w.first-is, above.first)
      | else-made-cut w ↦ omega (arith, w.first-is, above.first)
    ] in
    let made : c.if-made-cut.made + 1 ≤ c.args.cut.count = elim c.if-made-cut.branch [
      | then-made-cut+then-ends w ↦ omega (arith, w.made-is, w.if-made-cut.true)
      | then-made-cut+else-ends w ↦ omega (arith, w.made-is, above.made)
      | else-made-cut w ↦ omega (arith, w.made-is, above.made)
    ] in
    let left : c.args.cut.count + (y + 1) ≤ c.if-made-cut.made + 1 + c.args.size.height = elim c.if-made-cut.branch [
      | then-made-cut+then-ends w ↦ omega (arith, w.made-is, above.left)
      | then-made-cut+else-ends w ↦ omega (arith, w.made-is, w.ends.ensures w.if-ends.false, c.loop-y-test.true)
      | else-made-cut w ↦ omega (arith, w.made-is, w.if-made-cut.false, above.made, c.loop-y-test.true)
    ] in
    let row : c.if-made-cut.row ≤ MOST_WEIGHT = elim c.if-made-cut.branch [
      | then-made-cut+then-ends w ↦ elim w.if-y-eq0.branch [
        | then-y-eq0 v ↦ omega (arith, w.row-is, v.row-is, v.row_weight-row.ensures.most)
        | else-y-eq0 v ↦ omega (arith, w.row-is, v.row-is, above.row)
      ]
      | then-made-cut+else-ends w ↦ elim w.if-y-eq0.branch [
        | then-y-eq0 v ↦ omega (arith, w.row-is, v.row-is, v.row_weight-row.ensures.most)
        | else-y-eq0 v ↦ omega (arith, w.row-is, v.row-is, above.row)
      ]
      | else-made-cut w ↦ omega (arith, w.row-is, above.row)
    ] in
    let weighed : c.if-made-cut.above ≤ MOST_WEIGHT * (y + 1) = elim c.if-made-cut.branch [
      | then-made-cut+then-ends w ↦ elim w.if-y-eq0.branch [
        | then-y-eq0 v ↦ omega (arith, w.above-is, v.row-is, v.row_weight-row.ensures.most, above.above)
        | else-y-eq0 v ↦ omega (arith, w.above-is, v.row-is, above.row, above.above)
      ]
      | then-made-cut+else-ends w ↦ elim w.if-y-eq0.branch [
        | then-y-eq0 v ↦ omega (arith, w.above-is, v.row-is, v.row_weight-row.ensures.most, above.above)
        | else-y-eq0 v ↦ omega (arith, w.above-is, v.row-is, above.row, above.above)
      ]
      | else-made-cut w ↦ omega (arith, w.above-is, above.above)
    ] in
    let numbers : AreNumbered c.args.bands.now.items → AreNumbered c.if-made-cut.bands.items = elim c.if-made-cut.branch [
      | then-made-cut+then-ends w ↦ λ old. subst (λ b. AreNumbered b.items) (sym w.bands-is) (w.push.ensures.numbers (above.numbers old))
      | then-made-cut+else-ends w ↦ λ old. subst (λ b. AreNumbered b.items) (sym w.bands-is) (above.numbers old)
      | else-made-cut w ↦ λ old. subst (λ b. AreNumbered b.items) (sym w.bands-is) (above.numbers old)
    ] in
    record { first = first; made = made; left = left; above = weighed; row = row; many = many; room = room; numbers = numbers; rows = rows }

pub returns-clause-rows : goal.returns-clause-rows
returns-clause-rows c =
    rows_below (rows_of_bands c.args.bands.now.items) c.args.channel c.args.size c.loop-y.first c.args.size.height (rows_of_bands c.loop-y.bands.items)
    (rows_of_bands c.push-2.new.bands.items)
    (omega (arith, c.loop-y.invariant.first, c.loop-y.auto.y-end, c.requires.size.some_rows)) c.loop-y.invariant.rows c.push-2.ensures.rows
