-- What contracts see of a stage.
use Rattle.std.specs.Prelude.{◌≡◌, ℕ, ◌+◌, ◌<◌, ◌≤◌, Some, None}
use Rattle.play_types.specs.History.{held, stop_at, ticks}
use Rattle.play_types.specs.declared.event.Event.{Event}
use Rattle.play_types.specs.declared.event.TheConstants.{MAX_TICKS}
use Rattle.play_journal.specs.Journal.{JournalView, followed_by}
use Rattle.play_journal.specs.declared.fault.PushFault.{PushFault}
use Rattle.play_journal.specs.declared.fault.PushFault.TheVariants as push
use Rattle.stage_core.specs.declared.fault.ApplyFault.{ApplyFault}
use Rattle.stage_core.specs.declared.fault.ApplyFault.TheVariants.{OutOfMemory, JournalFull, Ended}
use Rattle.stage_core.specs.declared.fault.TickFault.{TickFault}
use Rattle.stage_core.specs.declared.fault.TickFault.TheVariants as tick

-- the journal of a stage, and the number of its channels
pub record StageView : Type 0 where
  pub journal : JournalView
  pub channels : ℕ

-- a stage with one event more at the end of its journal
abbrev pub after_event : Event → StageView → StageView
after_event event stage = record stage { journal = followed_by event stage.journal }

-- a journal has room for `more` commands: it holds no stop, and its commands and these are no more than its limit
pub record HasRoom (journal : JournalView) (more : ℕ) : Type 0 where
  pub running : stop_at journal.events ≡ None
  pub commands : held journal.events + more ≤ journal.limit

-- why an event of `commands` commands is not accepted: memory runs out although the journal has room, the journal is full and
-- holds no stop, or it holds a stop
abbrev pub IsNotTaken : JournalView → ℕ → ApplyFault → Type 0
IsNotTaken journal commands OutOfMemory = HasRoom journal commands
IsNotTaken journal commands (JournalFull already) =
    (stop_at journal.events ≡ None) × (journal.limit < held journal.events + commands) × (already ≡ held journal.events)
IsNotTaken journal commands (Ended at) = stop_at journal.events ≡ Some at

-- a journal has room for a tick: it holds no stop, and its ticks are fewer than it may hold
pub record HasTime (journal : JournalView) : Type 0 where
  pub running : stop_at journal.events ≡ None
  pub ticks : ticks journal.events < MAX_TICKS

-- why a tick is not accepted: the journal holds a stop, or it holds no stop and as many ticks as it may hold
abbrev pub IsNoTick : JournalView → TickFault → Type 0
IsNoTick journal (tick.Ended at) = stop_at journal.events ≡ Some at
IsNoTick journal tick.TicksOver = (stop_at journal.events ≡ None) × (MAX_TICKS ≤ ticks journal.events)

-- the fault of a push, as a fault of a command
abbrev pub fault_of : PushFault → ApplyFault
fault_of push.OutOfMemory = OutOfMemory
fault_of (push.JournalFull already) = JournalFull already
