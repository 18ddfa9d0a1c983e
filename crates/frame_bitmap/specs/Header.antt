-- The header of a BMP file, as Microsoft's format has it: BITMAPFILEHEADER and BITMAPINFOHEADER.
use Rattle.std.specs.Prelude.{ℕ, ◌-◌, ◌*◌, ◌^◌, ◌≡◌, List, length, take, drop, codes}
use Rattle.std.specs.Int.{w16, w32, from_le_bytes}
use Rattle.frame_bitmap.specs.declared.dimensions.Size.{Size}

-- the number of the two bytes at a place of a file, the lower one first
abbrev pub number_of_2 : List ℕ → ℕ → ℕ
number_of_2 file at = from_le_bytes w16 (take 2 (drop at file))

-- the number of the four bytes at a place of a file, the lowest one first
abbrev pub number_of_4 : List ℕ → ℕ → ℕ
number_of_4 file at = from_le_bytes w32 (take 4 (drop at file))

-- the file begins with the 14 bytes of a BITMAPFILEHEADER, and its pixels begin after the 40 bytes that follow these
pub record IsFileHeader (file : List ℕ) : Type 0 where
  pub signature : take 2 file ≡ codes "BM"
  pub file_bytes : number_of_4 file 2 ≡ length file
  pub reserved : number_of_4 file 6 ≡ 0
  pub pixels_begin : number_of_4 file 10 ≡ 54

-- the 40 bytes after that are the BITMAPINFOHEADER of a picture of 32 bits a pixel, without compression (BI_RGB), at 72 pixels an
-- inch; its height is negative, in two's complement, which says that the first row is the top one
pub record IsInfoHeader (file : List ℕ) (size : Size) : Type 0 where
  pub info_bytes : number_of_4 file 14 ≡ 40
  pub width : number_of_4 file 18 ≡ size.width
  pub height : number_of_4 file 22 ≡ 2 ^ 32 - size.height
  pub planes : number_of_2 file 26 ≡ 1
  pub bits : number_of_2 file 28 ≡ 32
  pub compression : number_of_4 file 30 ≡ 0
  pub pixel_bytes : number_of_4 file 34 ≡ 4 * (size.width * size.height)
  pub across : number_of_4 file 38 ≡ 2835
  pub down : number_of_4 file 42 ≡ 2835
  pub colours : number_of_4 file 46 ≡ 0
  pub important_colours : number_of_4 file 50 ≡ 0
