-- How loud the sound of a tick is.
use Rattle.std.specs.Prelude.{ℕ, ◌+◌, ◌*◌, ◌/◌, max, List, [], ◌∷◌, length, map, unsigned_abs}
use Rattle.history_model.specs.pictures.Media.{sample_of_bytes}
use Rattle.history_model.specs.stage.Answer.{numbers_below}
use Rattle.view_status.specs.declared.levels.Levels.{Levels}

-- the greatest of some numbers, and 0 of none
abbrev pub greatest : List ℕ → ℕ
greatest [] = 0
greatest (n ∷ others) = max n (greatest others)

-- the absolute value of a sample: sound has pairs of samples of two bytes each, side 0 is left and 1 is right
abbrev pub loudness : List ℕ → ℕ → ℕ → ℕ
loudness sound side pair = unsigned_abs (sample_of_bytes sound (4 * pair + 2 * side))

-- the greatest absolute value of the samples of a side: bytes after the last whole pair are no sample
abbrev pub level_of : List ℕ → ℕ → ℕ
level_of sound side = greatest (map (loudness sound side) (numbers_below (length sound / 4)))

-- the levels of both sides
abbrev pub levels_of : List ℕ → Levels
levels_of sound = record { left = level_of sound 0; right = level_of sound 1 }
