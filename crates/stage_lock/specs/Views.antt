-- What contracts see of a shared stage, of its passes and of its notes.
use Rattle.std.specs.Prelude.{ℕ, Bool, List, ◌++◌}
use Rattle.atomic_table.specs.Seated.{TableId}
use Rattle.play_types.specs.declared.event.Event.{Event}
use Rattle.play_journal.specs.Journal.{JournalView}
use Rattle.stage_core.specs.Stage.{StageView}

-- what does not change: the most commands of the journal, the number of channels, the number of passes, and the events that the
-- journal held when the stage was shared
pub record Sizes : Type 0 where
  pub limit : ℕ
  pub channels : ℕ
  pub passes : ℕ
  pub given : List Event

-- a shared stage: which one it is, and what does not change of it
pub record SharedView : Type 0 where
  pub table_id : TableId
  pub sizes : Sizes

-- a pass: the shared stage that it belongs to, its number, the history that it has seen, how often it won the turn, whether it
-- made the stop of tag 0.0, and the positions in that history of its own events. The history of a pass is what came since the
-- stage was shared
pub record PassView : Type 0 where
  pub stage : SharedView
  pub number : ℕ
  pub seen : List Event
  pub turns : ℕ
  pub ends : Bool
  pub made : List ℕ

-- a note: the shared stage that it belongs to, and a history
pub record NoteView : Type 0 where
  pub table_id : TableId
  pub seen : List Event

-- all events of a shared stage if these came since it was shared: the ones that it was given, and then these
abbrev pub whole : Sizes → List Event → List Event
whole sizes history = sizes.given ++ history

-- the journal of a shared stage if these events came since it was shared
abbrev pub journal_of : Sizes → List Event → JournalView
journal_of sizes history = record { limit = sizes.limit; events = whole sizes history }

-- the stage of a shared stage if these events came since it was shared
abbrev pub stage_of : Sizes → List Event → StageView
stage_of sizes history = record { journal = journal_of sizes history; channels = sizes.channels }

-- what does not change of a stage that is shared by `passes` passes
abbrev pub sizes_of : StageView → ℕ → Sizes
sizes_of stage passes = record { limit = stage.journal.limit; channels = stage.channels; passes = passes; given = stage.journal.events }
