use Rattle.std.proofs.Common.{◌≡◌, ℕ, ◌*◌, ◌/◌, ◌≤◌, List, ◌++◌, codes, max, ap, subst, ◌∙◌, arith}
use Rattle.frame_bitmap.specs.declared.dimensions.Size.{Size}
use Rattle.frame_bitmap.specs.Size.{shown, shown_width}
use Rattle.frame_bitmap.specs.inner.Parts.{header_of, pieces, shown_row}
use Rattle.frame_bitmap.proofs.Files.{written_bitmap}
use Rattle.frame_bitmap.proofs.Sizes.{some_columns, no_more_columns, no_more_pixels, row_inside}
use Rattle.frame_bitmap.proofs.bmp_file.bitmap.Goals as goal

pub push_header-requires-clause-fits : goal.push_header-requires-clause-fits
push_header-requires-clause-fits c =
    let size = c.args.size in
    let columns = shown_width size.width c.args.width in
    let down = no_more_columns size.width c.args.width in
    let few : columns * max (size.height * columns / size.width) 1 ≤ size.width * size.height =
    no_more_pixels size.width size.height columns down c.requires.some_rows in
    rw c.shown_size-shown.ensures (omega (arith, few, c.requires.bytes, c.requires.fits))

pub push_rows-requires-clause-inside : goal.push_rows-requires-clause-inside
push_rows-requires-clause-inside c =
    let size = c.args.size in
    let columns = shown_width size.width c.args.width in
    let down = no_more_columns size.width c.args.width in
    let some = some_columns size.width c.args.width c.requires.some_columns in
    rw c.shown_size-shown.ensures
    (λ y below. row_inside size.width size.height columns y some down c.requires.some_rows below)

pub returns : goal.returns
returns c =
    let size = c.args.size in
    let out : Size = shown size c.args.width in
    let columns = shown_width size.width c.args.width in
    let down = no_more_columns size.width c.args.width in
    let some = some_columns size.width c.args.width c.requires.some_columns in
    let few : columns * max (size.height * columns / size.width) 1 ≤ size.width * size.height =
    no_more_pixels size.width size.height columns down c.requires.some_rows in
    let header : c.push_header.new.out.items ≡ codes "BM" ++ header_of out.width out.height =
    subst (λ (s : Size). c.push_header.new.out.items ≡ codes "BM" ++ header_of s.width s.height) c.shown_size-shown.ensures
    (c.in_ok-push_header.ensures ∙ ap (λ (bytes : List ℕ). (bytes ++ codes "BM") ++ header_of c.shown_size-shown.result.width c.shown_size-shown.result.height) c.in_ok-file.ensures.items) in
    let rows : c.push_rows.new.out.items ≡ c.push_header.new.out.items ++ pieces (shown_row size.width out.width c.args.frame.now) out.height =
    subst (λ (s : Size). c.push_rows.new.out.items ≡ c.push_header.new.out.items ++ pieces (shown_row size.width s.width c.args.frame.now) s.height)
    c.shown_size-shown.ensures c.in_ok-push_rows.ensures in
    let parts : c.push_rows.new.out.items ≡ (codes "BM" ++ header_of out.width out.height) ++ pieces (shown_row size.width out.width c.args.frame.now) out.height =
    rows ∙ ap (λ (bytes : List ℕ). bytes ++ pieces (shown_row size.width out.width c.args.frame.now) out.height) header in
    written_bitmap c.push_rows.new.out.items c.args.frame.now size out (record {
      parts = parts;
      some_columns = some;
      down = down;
      some_rows = omega arith;
      bytes = c.requires.bytes;
      inside = λ y below. row_inside size.width size.height columns y some down c.requires.some_rows below;
      fits = omega (arith, few, c.requires.bytes, c.requires.fits);
    })
