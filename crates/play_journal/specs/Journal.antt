-- What contracts see of a journal.
use Rattle.std.specs.Prelude.{◌≡◌, ℕ, ◌+◌, ◌<◌, ◌≤◌, Bool, false, List, [], ◌∷◌, ◌++◌}
use Rattle.play_types.specs.History.{IsHistory, held, ticks}
use Rattle.play_types.specs.declared.event.Event.{Event}
use Rattle.play_types.specs.declared.event.TheConstants.{MAX_TICKS}
use Rattle.play_journal.specs.declared.fault.PushFault.{PushFault}
use Rattle.play_journal.specs.declared.fault.PushFault.TheVariants.{OutOfMemory, JournalFull}
use Rattle.play_journal.specs.Runs.{is_tick}

-- the most commands that a journal may hold, and its events in order
pub record JournalView : Type 0 where
  pub limit : ℕ
  pub events : List Event

-- a journal with one more event at its end
abbrev pub followed_by : Event → JournalView → JournalView
followed_by event journal = record journal { events = journal.events ++ event ∷ [] }

-- the events are a history that has no more commands and ticks than a journal may hold
pub record IsJournal (journal : JournalView) : Type 0 where
  pub history : IsHistory journal.events
  pub commands : held journal.events ≤ journal.limit
  pub ticks : ticks journal.events ≤ MAX_TICKS

-- an event of `commands` commands is refused with this fault: the journal is full exactly if its commands and these
-- are more than its limit, and memory may run out if they are not
abbrev pub IsRefused : JournalView → ℕ → PushFault → Type 0
IsRefused journal commands OutOfMemory = held journal.events + commands ≤ journal.limit
IsRefused journal commands (JournalFull already) = (journal.limit < held journal.events + commands) × (already ≡ held journal.events)

-- whether the last event is a tick
abbrev pub ends_in_tick : List Event → Bool
ends_in_tick [] = false
ends_in_tick (event ∷ []) = is_tick event
ends_in_tick (event ∷ next ∷ events) = ends_in_tick (next ∷ events)
