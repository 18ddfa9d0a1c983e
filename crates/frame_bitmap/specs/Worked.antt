-- Words for the worked examples.
use Rattle.std.specs.Prelude.{ℕ, List, [], ◌∷◌, ◌++◌, codes}
use Rattle.frame_bitmap.specs.declared.dimensions.Size.{Size}

-- a size with these columns and rows
abbrev pub wide : ℕ → ℕ → Size
wide columns rows = record { width = columns; height = rows }

-- a frame of three columns and two rows
abbrev pub three_by_two : List ℕ
three_by_two =
    11 ∷ 1 ∷ 2 ∷ 255 ∷ 12 ∷ 3 ∷ 4 ∷ 255 ∷ 13 ∷ 5 ∷ 6 ∷ 255
    ∷ 21 ∷ 7 ∷ 8 ∷ 128 ∷ 22 ∷ 9 ∷ 10 ∷ 128 ∷ 23 ∷ 11 ∷ 12 ∷ 128 ∷ []

-- a frame of five columns and one row
abbrev pub five_wide : List ℕ
five_wide = 1 ∷ 1 ∷ 1 ∷ 1 ∷ 2 ∷ 2 ∷ 2 ∷ 2 ∷ 3 ∷ 3 ∷ 3 ∷ 3 ∷ 4 ∷ 4 ∷ 4 ∷ 4 ∷ 5 ∷ 5 ∷ 5 ∷ 5 ∷ []

-- the file of one white pixel
abbrev pub one_by_one : List ℕ
one_by_one =
    codes "BM" ++ 58 ∷ 0 ∷ 0 ∷ 0 ∷ 0 ∷ 0 ∷ 0 ∷ 0 ∷ 54 ∷ 0 ∷ 0 ∷ 0
    ∷ 40 ∷ 0 ∷ 0 ∷ 0 ∷ 1 ∷ 0 ∷ 0 ∷ 0 ∷ 255 ∷ 255 ∷ 255 ∷ 255 ∷ 1 ∷ 0 ∷ 32 ∷ 0
    ∷ 0 ∷ 0 ∷ 0 ∷ 0 ∷ 4 ∷ 0 ∷ 0 ∷ 0 ∷ 19 ∷ 11 ∷ 0 ∷ 0 ∷ 19 ∷ 11 ∷ 0 ∷ 0 ∷ 0 ∷ 0 ∷ 0 ∷ 0 ∷ 0 ∷ 0 ∷ 0 ∷ 0
    ∷ 255 ∷ 255 ∷ 255 ∷ 255 ∷ []
