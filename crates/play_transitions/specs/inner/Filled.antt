-- Runs without those that are empty.
use Rattle.std.specs.Prelude.{ℕ, List, [], ◌∷◌, nat_lt, if◌then◌else◌}
use Rattle.play_transitions.specs.declared.row.Run.{Run}
use Rattle.play_transitions.specs.declared.columns.Column.{Column}

-- the run from `from` on, before `to`, that begins with a column
abbrev pub run_of : ℕ → ℕ → Column → Run
run_of from to column = record { from = from; to = to; column = column }

-- the run, if it has a column
abbrev pub filled : Run → List Run
filled run = if nat_lt run.from run.to then run ∷ [] else []
