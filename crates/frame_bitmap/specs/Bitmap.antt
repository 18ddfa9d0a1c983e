-- The BMP file of a frame.
use Rattle.std.specs.Prelude.{ℕ, ◌+◌, ◌*◌, ◌/◌, ◌<◌, ◌≡◌, List, length, take, drop}
use Rattle.frame_bitmap.specs.declared.dimensions.Size.{Size}
use Rattle.frame_bitmap.specs.Header.{IsFileHeader, IsInfoHeader}

-- the four bytes of the pixel at column x of row y, where rows of `width` pixels follow each other from the top
abbrev pub pixel_at : ℕ → List ℕ → ℕ → ℕ → List ℕ
pixel_at width rows x y = take 4 (drop (4 * (y * width + x)) rows)

-- the bytes are the BMP file of a picture of this size, whose pixel at column x of row y has the bytes `pixel x y`
pub record IsBitmap (file : List ℕ) (size : Size) (pixel : ℕ → ℕ → List ℕ) : Type 0 where
  pub bytes : length file ≡ 54 + 4 * (size.width * size.height)
  pub file_header : IsFileHeader file
  pub info_header : IsInfoHeader file size
  pub pixels : (x y : ℕ) → x < size.width → y < size.height → pixel_at size.width (drop 54 file) x y ≡ pixel x y

-- the pixel of a frame of this width that is shown at column x of row y of a picture of `columns` columns: the nearest one to the
-- left and above, in the ratio of the widths
abbrev pub shown_pixel : ℕ → List ℕ → ℕ → ℕ → ℕ → List ℕ
shown_pixel width frame columns x y = pixel_at width frame (x * width / columns) (y * width / columns)
