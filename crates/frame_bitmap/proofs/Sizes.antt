-- The size of the picture of a frame.
use Rattle.std.proofs.Common.{◌≡◌, ℕ, ◌+◌, ◌*◌, ◌/◌, ◌<◌, ◌≤◌, max, Option, Some, None, arith, inl, inr}
use Rattle.std.proofs.lemmas.Bool.{cases_lt}
use Rattle.std.proofs.lemmas.Nat.{div_below, mul-le}
use Rattle.std.proofs.Math.Nat.{div-le_of_le-mul, le-div_iff_mul-le, mul-le-mul_left}
use Rattle.frame_bitmap.specs.Size.{shown_width}

-- there is at least one column
pub some_columns : (width : ℕ) (asked : Option ℕ) → 1 ≤ width → 1 ≤ shown_width width asked
some_columns width None some = some
some_columns width (Some n) some = omega (arith, some)

-- there are no more columns than in the frame
pub no_more_columns : (width : ℕ) (asked : Option ℕ) → shown_width width asked ≤ width
no_more_columns width None = omega arith
no_more_columns width (Some n) = omega arith

-- there are no more rows than in the frame
pub no_more_rows : (width height columns : ℕ) → columns ≤ width → 1 ≤ height → max (height * columns / width) 1 ≤ height
no_more_rows width height columns down some =
    let product : height * columns ≤ width * height = omega (arith, mul-le-mul_left height down) in
    let rows : height * columns / width ≤ height = div-le_of_le-mul width product in
    omega (arith, rows, some)

-- the picture has no more pixels than the frame
pub no_more_pixels : (width height columns : ℕ) → columns ≤ width → 1 ≤ height → columns * max (height * columns / width) 1 ≤ width * height
no_more_pixels width height columns down some =
    mul-le columns (max (height * columns / width) 1) width height down (no_more_rows width height columns down some)

-- each row of the picture is made of a row of the frame
pub row_inside : (width height columns y : ℕ) → 1 ≤ columns → columns ≤ width → 1 ≤ height → y < max (height * columns / width) 1
    → y * width / columns < height
row_inside width height columns y some down rows below =
    elim (cases_lt y (height * columns / width)) [
      | inl inside ↦
          let more : y + 1 ≤ height * columns / width = omega (arith, inside) in
          let positive : 0 < width = omega (arith, some, down) in
          let product : (y + 1) * width ≤ height * columns = (le-div_iff_mul-le positive).0 more in
          let less : y * width < height * columns = omega (arith, product, positive) in
          div_below (y * width) columns height some less
      | inr outside ↦
          let first : y ≡ 0 = omega (arith, outside, below) in
          let product : 1 * 1 ≤ height * columns = mul-le 1 1 height columns rows some in
          let less : 0 * width < height * columns = omega (arith, product) in
          rw first (div_below (0 * width) columns height some less)
    ]

-- each column of the picture is made of a column of the frame
pub column_inside : (width columns x : ℕ) → 1 ≤ columns → columns ≤ width → x < columns → x * width / columns < width
column_inside width columns x some down below =
    let positive : 1 ≤ width = omega (arith, some, down) in
    let product : (x + 1) * width ≤ columns * width = mul-le (x + 1) width columns width (omega (arith, below)) (omega arith) in
    let less : x * width < width * columns = omega (arith, product, positive) in
    div_below (x * width) columns width some less
