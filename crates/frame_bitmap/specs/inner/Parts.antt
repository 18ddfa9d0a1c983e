-- The parts of a BMP file in the order in which they are written.
use Rattle.std.specs.Prelude.{ℕ, zero, suc, ◌+◌, ◌-◌, ◌*◌, ◌/◌, ◌^◌, List, [], ◌∷◌, ◌++◌, take, drop, slice_index}
use Rattle.std.specs.Int.{w32, to_le_bytes}

-- the first n pieces, one after the other
unfoldable pub pieces : (ℕ → List ℕ) → ℕ → List ℕ
pieces piece zero = []
pieces piece (suc n) = pieces piece n ++ piece n

-- number k of some as four bytes, the lowest one first
abbrev pub number_at : List ℕ → ℕ → List ℕ
number_at numbers k = to_le_bytes w32 (slice_index numbers k)

-- the numbers of the header of a picture with these columns and rows, after the signature
abbrev pub header_numbers : ℕ → ℕ → List ℕ
header_numbers width height =
    (54 + 4 * (width * height)) ∷ 0 ∷ 54
    ∷ 40 ∷ width ∷ (2 ^ 32 - height) ∷ (1 + 32 * 2 ^ 16) ∷ 0 ∷ (4 * (width * height)) ∷ 2835 ∷ 2835 ∷ 0 ∷ 0 ∷ []

-- the header without the signature
abbrev pub header_of : ℕ → ℕ → List ℕ
header_of width height = pieces (number_at (header_numbers width height)) 13

-- the pixel of a row of `width` pixels that is shown at column x of `columns`
abbrev pub column_of : ℕ → ℕ → List ℕ → ℕ → List ℕ
column_of width columns row x = take 4 (drop (4 * (x * width / columns)) row)

-- the row of a frame that is shown at row y of a picture of `columns` columns
abbrev pub row_of : ℕ → ℕ → List ℕ → ℕ → List ℕ
row_of width columns frame y = take (4 * width) (drop (4 * width * (y * width / columns)) frame)

-- row y of the picture of `columns` columns of a frame
abbrev pub shown_row : ℕ → ℕ → List ℕ → ℕ → List ℕ
shown_row width columns frame y = pieces (column_of width columns (row_of width columns frame y)) columns
