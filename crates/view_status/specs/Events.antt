-- The events of a history that are no ticks, as a document of JSON.
use Rattle.std.specs.Prelude.{ℕ, ◌+◌, nat_le, not, ◌&&◌, Bool, List, [], ◌∷◌, take, filter, flat_map}
use Rattle.std.specs.Str.Lossy.{utf8_lossy}
use Rattle.json.specs.Token.{Token}
use Rattle.play_types.specs.History.{ticks}
use Rattle.play_types.specs.Media.{MediaNameView}
use Rattle.play_types.specs.declared.event.Event.{Event}
use Rattle.play_journal.specs.Runs.{is_tick}
use Rattle.history_model.specs.text.History.{history_text}
use Rattle.view_status.specs.Timecode.{timecode_text}
use Rattle.view_status.specs.Tokens.{array, member, object, text, whole}
use Rattle.view_status.specs.declared.events.TheConstants.{MAX_EVENTS}

-- an event, the number of events before it, and how many of those are ticks
pub record PlacedEvent : Type 0 where
  pub position : ℕ
  pub tick : ℕ
  pub event : Event

-- events that follow `position` others, of which `tick` are ticks
abbrev pub placed_from : ℕ → ℕ → List Event → List PlacedEvent
placed_from position tick [] = []
placed_from position tick (event ∷ events) =
    record { position = position; tick = tick; event = event } ∷ placed_from (position + 1) (tick + ticks (event ∷ [])) events

-- whether an event is listed: it is no tick, and not before the position `after`
abbrev pub is_listed : ℕ → PlacedEvent → Bool
is_listed after placed = not (is_tick placed.event) && nat_le after placed.position

-- the first events that are listed, at most MAX_EVENTS
abbrev pub listed_events : ℕ → List Event → List PlacedEvent
listed_events after history = take MAX_EVENTS (filter (is_listed after) (placed_from 0 0 history))

-- the lines of an event in the text of a history: U+FFFD stands for bytes that are no UTF-8
abbrev pub event_text : List MediaNameView → Event → List ℕ
event_text names event = utf8_lossy (history_text names (event ∷ []))

-- an event: its position, the number of ticks before it, the time of these, and its lines
unfoldable pub event_tokens : List MediaNameView → ℕ → PlacedEvent → List Token
event_tokens names rate placed = object (
    member "position" (whole placed.position)
    ∷ member "tick" (whole placed.tick)
    ∷ member "timecode" (text (timecode_text rate placed.tick))
    ∷ member "text" (text (event_text names placed.event))
    ∷ [])

-- the events of a history from a position on
unfoldable pub events_tokens : List MediaNameView → ℕ → ℕ → List Event → List Token
events_tokens names rate after history = array (flat_map (event_tokens names rate) (listed_events after history))
