-- The size of a frame, and of the picture that is shown of it.
use Rattle.std.specs.Prelude.{ℕ, ◌+◌, ◌*◌, ◌/◌, ◌^◌, ◌<◌, ◌≤◌, ◌≡◌, min, max, List, length, Option, Some, None}
use Rattle.frame_bitmap.specs.declared.dimensions.Size.{Size}

-- the bytes are a frame of this size: four bytes a pixel, at least one pixel, and so few that a file's length is a number of 32 bits
pub record IsFrame (size : Size) (frame : List ℕ) : Type 0 where
  pub some_columns : 1 ≤ size.width
  pub some_rows : 1 ≤ size.height
  pub bytes : length frame ≡ 4 * (size.width * size.height)
  pub fits : 54 + length frame < 2 ^ 32

-- the columns of the picture of a frame of this width, if this width is asked for
abbrev pub shown_width : ℕ → Option ℕ → ℕ
shown_width width None = width
shown_width width (Some asked) = min (max asked 1) width

-- the size of the picture: rows in the ratio of the columns, rounded down, and at least one
abbrev pub shown : Size → Option ℕ → Size
shown frame asked = record {
  width = shown_width frame.width asked;
  height = max (frame.height * shown_width frame.width asked / frame.width) 1;
}
