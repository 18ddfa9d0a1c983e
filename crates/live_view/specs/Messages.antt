-- The status messages that are due after a history.
use Rattle.std.specs.Prelude.{ℕ, ◌&&◌, nat_lt, Bool, if◌then◌else◌, List, [], map}
use Rattle.play_types.specs.History.{ticks}
use Rattle.play_types.specs.declared.event.Event.{Event}
use Rattle.play_journal.specs.Journal.{ends_in_tick}
use Rattle.history_model.specs.scripts.History.{Playout, setup_of}
use Rattle.osc_status.specs.Message.{message_bytes}
use Rattle.osc_status.specs.Status.{status_messages}

-- whether the last event is a tick after the first `sent` ones
abbrev pub is_due : ℕ → List Event → Bool
is_due sent events = ends_in_tick events && nat_lt sent (ticks events)

-- the status messages after a history, if its last event is a tick after the first `sent` ones
abbrev pub messages_due : Playout → ℕ → List Event → List (List ℕ)
messages_due playout sent events =
    if is_due sent events then map message_bytes (status_messages (setup_of playout) playout.names events) else []

-- the number of ticks up to the last one whose messages were given, once those that were due are given
abbrev pub sent_after : ℕ → List Event → ℕ
sent_after sent events = if is_due sent events then ticks events else sent
