-- Which pass an event belongs to, and the positions of a pass's own events in a history.
use Rattle.std.specs.Prelude.{ℕ, suc, ◌==◌, ◌&&◌, ◌||◌, Bool, false, List, [], ◌∷◌, cond}
use Rattle.play_types.specs.declared.event.Event.{Event}
use Rattle.play_types.specs.declared.event.Event.TheVariants.{Do, Batch, Tick, Stop}

-- whether an event is the stop of tag 0.0, which is no pass's own
abbrev pub is_final : Event → Bool
is_final (Do tag cmd) = false
is_final (Batch tag cmds) = false
is_final Tick = false
is_final (Stop tag) = (tag.worker == 0) && (tag.session == 0)

-- the pass that a tick or a tag names: a tick is of pass 0
abbrev pub owner : Event → ℕ
owner (Do tag cmd) = tag.worker
owner (Batch tag cmds) = tag.worker
owner Tick = 0
owner (Stop tag) = tag.worker

-- whether an event is the own event of the pass with this number
abbrev pub is_own : ℕ → Event → Bool
is_own number event = cond (is_final event) false (owner event == number)

-- the positions of the events that a test picks, if the first event has the position `at`
abbrev pub positions : (Event → Bool) → ℕ → List Event → List ℕ
positions picks at [] = []
positions picks at (event ∷ events) = cond (picks event) (at ∷ positions picks (suc at) events) (positions picks (suc at) events)

-- the positions in a history of the own events of the pass with this number
abbrev pub made_by : ℕ → List Event → List ℕ
made_by number history = positions (is_own number) 0 history

-- whether a history holds the stop of tag 0.0
abbrev pub has_final : List Event → Bool
has_final [] = false
has_final (event ∷ events) = is_final event || has_final events

-- the own events in a history of the pass with this number, in order
abbrev pub own_by : ℕ → List Event → List Event
own_by number [] = []
own_by number (event ∷ events) = cond (is_own number event) (event ∷ own_by number events) (own_by number events)
