-- What contracts see of a column of a transition.
use Rattle.play_types.specs.Columns as columns
use Rattle.play_transitions.specs.declared.columns.Column.{Column}
use Rattle.play_transitions.specs.declared.columns.Column.TheVariants.{Old, New, Both}

-- the column of the definitions for a column of the code
abbrev pub column_view : Column → columns.Column
column_view (Old x) = columns.Old x
column_view (New x) = columns.New x
column_view (Both x) = columns.Both x
