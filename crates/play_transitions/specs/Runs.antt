-- What contracts see of the runs of columns of a transition.
use Rattle.std.specs.Prelude.{◌≡◌, ℕ, ◌+◌, ◌-◌, ◌<◌, ◌≤◌, List, [], ◌∷◌, ◌++◌}
use Rattle.std.specs.Option.{option_to_list}
use Rattle.play_types.specs.Columns.{Column, Old, New, Both}
use Rattle.play_transitions.specs.declared.row.Run.{Run}
use Rattle.play_transitions.specs.declared.row.RunPair.{RunPair}
use Rattle.play_transitions.specs.Column.{column_view}

-- the runs, from the left
abbrev pub run_list : RunPair → List Run
run_list pair = option_to_list pair.first ++ option_to_list pair.second

-- the runs follow one another from column `from` on up to `width`, without a gap, and none is empty
abbrev pub AreAdjacent : ℕ → ℕ → List Run → Type 0
AreAdjacent from width [] = from ≡ width
AreAdjacent from width (run ∷ runs) = (run.from ≡ from) × (run.from < run.to) × AreAdjacent run.to width runs

-- the column whose number is greater by `by`
abbrev pub raised : Column → ℕ → Column
raised (Old x) by = Old (x + by)
raised (New x) by = New (x + by)
raised (Both x) by = Both (x + by)

-- the number of a column
abbrev pub number_of : Column → ℕ
number_of (Old x) = x
number_of (New x) = x
number_of (Both x) = x

-- what a run shows at column x
abbrev pub run_column : Run → ℕ → Column
run_column run x = raised (column_view run.column) (x - run.from)

-- the columns that a run shows are columns of a raster of `width` columns
abbrev pub EndsInRaster : ℕ → Run → Type 0
EndsInRaster width run = number_of (column_view run.column) + (run.to - run.from) ≤ width
