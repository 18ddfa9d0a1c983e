-- Histories: lists of events, in order. The position of an event is the number of events before it.
use Rattle.std.specs.Prelude.{◌≡◌, ℕ, ◌+◌, ◌<◌, Bool, true, false, List, [], ◌∷◌, length, Option, position}
use Rattle.play_types.specs.declared.event.Event.{Event}
use Rattle.play_types.specs.declared.event.Event.TheVariants.{Do, Batch, Tick, Stop}

-- the number of ticks of a history
abbrev pub ticks : List Event → ℕ
ticks [] = 0
ticks (Do tag cmd ∷ events) = ticks events
ticks (Batch tag cmds ∷ events) = ticks events
ticks (Tick ∷ events) = 1 + ticks events
ticks (Stop tag ∷ events) = ticks events

-- the number of commands that an event holds
abbrev pub held_by : Event → ℕ
held_by (Do tag cmd) = 1
held_by (Batch tag cmds) = length cmds
held_by Tick = 0
held_by (Stop tag) = 0

-- the number of commands that a history holds
abbrev pub held : List Event → ℕ
held [] = 0
held (event ∷ events) = held_by event + held events

-- whether an event is a stop
abbrev pub is_stop : Event → Bool
is_stop (Do tag cmd) = false
is_stop (Batch tag cmds) = false
is_stop Tick = false
is_stop (Stop tag) = true

-- the position of the first stop
abbrev pub stop_at : List Event → Option ℕ
stop_at events = position is_stop events

-- no batch is empty, and nothing follows a stop
abbrev pub IsHistory : List Event → Type 0
IsHistory [] = Unit {0}
IsHistory (Do tag cmd ∷ events) = IsHistory events
IsHistory (Batch tag cmds ∷ events) = (0 < length cmds) × IsHistory events
IsHistory (Tick ∷ events) = IsHistory events
IsHistory (Stop tag ∷ events) = events ≡ []
