-- Parts of the lines of the status.
use Rattle.std.specs.Prelude.{ℕ, List, [], ◌∷◌, ◌++◌, codes, decimal}

-- the beginning of a line: O and the number of ticks
abbrev pub line_start : ℕ → List ℕ
line_start count = codes "O " ++ (decimal count ++ 32 ∷ [])
