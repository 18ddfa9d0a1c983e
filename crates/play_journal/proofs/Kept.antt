-- The events of a journal: what they have, and what one event more adds.
use Rattle.std.proofs.Common.{◌≡◌, ℕ, zero, suc, ◌+◌, ◌≤◌, ◌<◌, List, [], ◌∷◌, ◌++◌, length, replicate, Option, Some, None, option_map, refl, sym, ap, ◌∙◌, arith, lit<, append_assoc, append-nil, length-append}
use Rattle.std.specs.List.{flat_map, AllByRecursion}
use Rattle.std.proofs.lemmas.List.{replicate_more}
use Rattle.std.proofs.lemmas.List.Concat.{flat_map-append}
use Rattle.play_types.specs.History.{held, held_by, ticks, stop_at, IsHistory}
use Rattle.play_types.specs.declared.event.Tag.{Tag}
use Rattle.play_types.specs.declared.event.Event.{Event}
use Rattle.play_types.specs.declared.event.Event.TheVariants.{Do, Batch, Tick, Stop}
use Rattle.play_types.specs.declared.event.TheConstants.{MAX_TICKS}
use Rattle.play_types.proofs.Histories.{IsHistory-append, held-append, stop_at-append, stop_at-other, ticks-append}
use Rattle.play_journal.specs.Journal.{IsJournal}
use Rattle.play_journal.specs.declared.entries.Entry.{Entry}
use Rattle.play_journal.specs.Kept.{AreCounted, Counts, HoldsCommands, IsStopIfAny, entry_events, events_before, kept_events, stop_events}

-- ticks are no stop, hold no command, and may be in a history
ticks-run : (n : ℕ) → ticks (replicate n Tick) ≡ n
ticks-run zero = refl
ticks-run (suc n) = omega (arith, ticks-run n)

none-run : (n : ℕ) → stop_at (replicate n Tick) ≡ None
none-run zero = refl
none-run (suc n) = stop_at-other Tick (replicate n Tick) refl ∙ ap (option_map (λ k. 1 + k)) (none-run n)

history-run : (n : ℕ) → IsHistory (replicate n Tick)
history-run zero = tt
history-run (suc n) = history-run n

-- an event that holds commands is no stop, and may be in a history
none-one : (event : Event) → HoldsCommands event → stop_at (event ∷ []) ≡ None
none-one (Do tag cmd) holds = refl
none-one (Batch tag cmds) holds = refl
none-one Tick holds = absurd holds
none-one (Stop tag) holds = absurd holds

history-one : (event : Event) → HoldsCommands event → IsHistory (event ∷ [])
history-one (Do tag cmd) holds = tt
history-one (Batch tag cmds) holds = (holds, tt)
history-one Tick holds = absurd holds
history-one (Stop tag) holds = absurd holds

-- two parts without a stop have none
none-append : (xs ys : List Event) → stop_at xs ≡ None → stop_at ys ≡ None → stop_at (xs ++ ys) ≡ None
none-append xs ys none more = stop_at-append xs ys none ∙ ap (option_map (λ n. length xs + n)) more

-- entries hold no stop
none-entries : (entries : List Entry) → AllByRecursion (λ entry. HoldsCommands entry.event) entries →
    stop_at (flat_map entry_events entries) ≡ None
none-entries [] hold = refl
none-entries (entry ∷ entries) hold =
    none-append (entry_events entry) (flat_map entry_events entries)
    (none-append (replicate entry.ticks Tick) (entry.event ∷ []) (none-run entry.ticks) (none-one entry.event hold.0))
    (none-entries entries hold.1)

pub none-before : (entries : List Entry) (after : ℕ) → AllByRecursion (λ entry. HoldsCommands entry.event) entries →
    stop_at (events_before entries after) ≡ None
none-before entries after hold =
    none-append (flat_map entry_events entries) (replicate after Tick) (none-entries entries hold) (none-run after)

-- the events of entries are a history
history-entries : (entries : List Entry) → AllByRecursion (λ entry. HoldsCommands entry.event) entries →
    IsHistory (flat_map entry_events entries)
history-entries [] hold = tt
history-entries (entry ∷ entries) hold =
    IsHistory-append (entry_events entry) (flat_map entry_events entries)
    (IsHistory-append (replicate entry.ticks Tick) (entry.event ∷ []) (history-run entry.ticks) (none-run entry.ticks)
    (history-one entry.event hold.0))
    (none-append (replicate entry.ticks Tick) (entry.event ∷ []) (none-run entry.ticks) (none-one entry.event hold.0))
    (history-entries entries hold.1)

history-stop : (stop : Option Event) → IsStopIfAny stop → IsHistory (stop_events stop)
history-stop None last = tt
history-stop (Some (Do tag cmd)) last = absurd last
history-stop (Some (Batch tag cmds)) last = absurd last
history-stop (Some Tick) last = absurd last
history-stop (Some (Stop tag)) last = refl

-- the events of a journal are a history
pub history-kept : (entries : List Entry) (after : ℕ) (stop : Option Event) →
    AllByRecursion (λ entry. HoldsCommands entry.event) entries → IsStopIfAny stop → IsHistory (kept_events entries after stop)
history-kept entries after stop hold last =
    IsHistory-append (events_before entries after) (stop_events stop)
    (IsHistory-append (flat_map entry_events entries) (replicate after Tick) (history-entries entries hold) (none-entries entries hold)
    (history-run after))
    (none-before entries after hold) (history-stop stop last)

-- the position of the stop is the number of events before it
position-stop : (n : ℕ) (stop : Option Event) → IsStopIfAny stop →
    option_map (λ k. n + k) (stop_at (stop_events stop)) ≡ option_map (λ _. n) stop
position-stop n None last = refl
position-stop n (Some (Do tag cmd)) last = absurd last
position-stop n (Some (Batch tag cmds)) last = absurd last
position-stop n (Some Tick) last = absurd last
position-stop n (Some (Stop tag)) last = ap Some (omega arith)

pub stop_at-kept : (entries : List Entry) (after : ℕ) (stop : Option Event) →
    AllByRecursion (λ entry. HoldsCommands entry.event) entries → IsStopIfAny stop →
    stop_at (kept_events entries after stop) ≡ option_map (λ _. length (events_before entries after)) stop
stop_at-kept entries after stop hold last =
    stop_at-append (events_before entries after) (stop_events stop) (none-before entries after hold)
    ∙ position-stop (length (events_before entries after)) stop last

none_of_position : (n : ℕ) (stop : Option Event) → option_map (λ _. n) stop ≡ None → stop ≡ None
none_of_position n None none = refl
none_of_position n (Some event) none = absurd (cc)

-- if no stop is held, none is kept
pub no_stop : (counts : Counts) (entries : List Entry) (after : ℕ) (stop : Option Event) →
    AreCounted counts entries after stop → stop_at (kept_events entries after stop) ≡ None → stop ≡ None
no_stop counts entries after stop counted none =
    none_of_position (length (events_before entries after)) stop
    (sym (stop_at-kept entries after stop counted.commands counted.last) ∙ none)

-- one more tick
before-tick : (entries : List Entry) (after : ℕ) → events_before entries (after + 1) ≡ events_before entries after ++ Tick ∷ []
before-tick entries after =
    ap (λ run. flat_map entry_events entries ++ run) (sym (replicate_more after Tick))
    ∙ sym (append_assoc (flat_map entry_events entries) (replicate after Tick) (Tick ∷ []))

-- one more entry, which takes over the ticks after the last one
before-entry : (entries : List Entry) (after : ℕ) (event : Event) →
    events_before (entries ++ record { ticks = after; event = event } ∷ []) 0 ≡ events_before entries after ++ event ∷ []
before-entry entries after event =
    let entry : Entry = record { ticks = after; event = event } in
    append-nil (flat_map entry_events (entries ++ entry ∷ []))
    ∙ flat_map-append entry_events entries (entry ∷ [])
    ∙ ap (λ rest. flat_map entry_events entries ++ rest) (append-nil (entry_events entry))
    ∙ sym (append_assoc (flat_map entry_events entries) (replicate after Tick) (event ∷ []))

-- events without a stop after them
kept-before : (entries : List Entry) (after : ℕ) (stop : Option Event) → stop ≡ None →
    kept_events entries after stop ≡ events_before entries after
kept-before entries after stop none =
    ap (λ last. kept_events entries after last) none ∙ append-nil (events_before entries after)

pub kept-tick : (entries : List Entry) (after : ℕ) (stop : Option Event) → stop ≡ None →
    kept_events entries (after + 1) stop ≡ kept_events entries after stop ++ Tick ∷ []
kept-tick entries after stop none =
    kept-before entries (after + 1) stop none ∙ before-tick entries after
    ∙ ap (λ events. events ++ Tick ∷ []) (sym (kept-before entries after stop none))

pub kept-entry : (entries : List Entry) (after : ℕ) (stop : Option Event) (event : Event) → stop ≡ None →
    kept_events (entries ++ record { ticks = after; event = event } ∷ []) 0 stop ≡ kept_events entries after stop ++ event ∷ []
kept-entry entries after stop event none =
    kept-before (entries ++ record { ticks = after; event = event } ∷ []) 0 stop none ∙ before-entry entries after event
    ∙ ap (λ events. events ++ event ∷ []) (sym (kept-before entries after stop none))

pub kept-stop : (entries : List Entry) (after : ℕ) (stop : Option Event) (event : Event) → stop ≡ None →
    kept_events entries after (Some event) ≡ kept_events entries after stop ++ event ∷ []
kept-stop entries after stop event none = ap (λ events. events ++ event ∷ []) (sym (kept-before entries after stop none))

-- the ticks after the last entry are some of all
pub after-few : (entries : List Entry) (after : ℕ) (stop : Option Event) → after ≤ ticks (kept_events entries after stop)
after-few entries after stop =
    omega (arith, ticks-append (events_before entries after) (stop_events stop), ticks-append (flat_map entry_events entries) (replicate after Tick), ticks-run after)

-- the numbers of a journal with one more event
held-more : (events : List Event) (event : Event) → held (events ++ event ∷ []) ≡ held events + held_by event
held-more events event = omega (arith, held-append events (event ∷ []))

all-more : (entries : List Entry) (entry : Entry) → AllByRecursion (λ e. HoldsCommands e.event) entries → HoldsCommands entry.event →
    AllByRecursion (λ e. HoldsCommands e.event) (entries ++ entry ∷ [])
all-more [] entry hold one = (one, tt)
all-more (first ∷ entries) entry hold one = (hold.0, all-more entries entry hold.1 one)

-- the numbers after a tick
pub counted-tick : (counts : Counts) (entries : List Entry) (after : ℕ) (stop : Option Event) → AreCounted counts entries after stop →
    stop ≡ None → counts.ticks < MAX_TICKS →
    AreCounted (record { limit = counts.limit; held = counts.held; ticks = counts.ticks + 1; before = counts.before + 1 }) entries (after + 1) stop
counted-tick counts entries after stop counted none time = record {
  commands = counted.commands;
  last = counted.last;
  held = let e = ap held (kept-tick entries after stop none) in
      omega (arith, e, held-more (kept_events entries after stop) Tick, counted.held);
  ticks = let e = ap ticks (kept-tick entries after stop none) in
      omega (arith, e, ticks-append (kept_events entries after stop) (Tick ∷ []), counted.ticks);
  before = let e = ap length (before-tick entries after) in
      omega (arith, e, length-append (events_before entries after) (Tick ∷ []), counted.before);
  room = counted.room;
  time = omega (arith, time);
  few = omega (arith, counted.few);
}

-- a command or a batch is no tick
no_tick_held : (event : Event) → HoldsCommands event → ticks (event ∷ []) ≡ 0
no_tick_held (Do tag cmd) holds = refl
no_tick_held (Batch tag cmds) holds = refl
no_tick_held Tick holds = absurd holds
no_tick_held (Stop tag) holds = absurd holds

-- a command or a batch holds at least one command
some_held : (event : Event) → HoldsCommands event → 0 < held_by event
some_held (Do tag cmd) holds = lit< tt
some_held (Batch tag cmds) holds = holds
some_held Tick holds = absurd holds
some_held (Stop tag) holds = absurd holds

-- the numbers after a command or a batch
pub counted-commands : (counts : Counts) (entries : List Entry) (after : ℕ) (stop : Option Event) (event : Event) →
    AreCounted counts entries after stop → stop ≡ None → HoldsCommands event → counts.held + held_by event ≤ counts.limit →
    AreCounted (record { limit = counts.limit; held = counts.held + held_by event; ticks = counts.ticks; before = counts.before + 1 }) (entries ++ record { ticks = after; event = event } ∷ []) 0 stop
counted-commands counts entries after stop event counted none holds room = record {
  commands = all-more entries (record { ticks = after; event = event }) counted.commands holds;
  last = counted.last;
  held = let e = ap held (kept-entry entries after stop event none) in
      omega (arith, e, held-more (kept_events entries after stop) event, counted.held);
  ticks = let e = ap ticks (kept-entry entries after stop event none) in
      omega (arith, e, ticks-append (kept_events entries after stop) (event ∷ []), no_tick_held event holds, counted.ticks);
  before = let e = ap length (before-entry entries after event) in
      omega (arith, e, length-append (events_before entries after) (event ∷ []), counted.before);
  room = room;
  time = counted.time;
  few = omega (arith, counted.few, some_held event holds);
}

-- the numbers after a stop
pub counted-stop : (counts : Counts) (entries : List Entry) (after : ℕ) (stop : Option Event) (tag : Tag) →
    AreCounted counts entries after stop → stop ≡ None → AreCounted counts entries after (Some (Stop tag))
counted-stop counts entries after stop tag counted none = record {
  commands = counted.commands;
  last = tt;
  held = let e = ap held (kept-stop entries after stop (Stop tag) none) in
      omega (arith, e, held-more (kept_events entries after stop) (Stop tag), counted.held);
  ticks = let e = ap ticks (kept-stop entries after stop (Stop tag) none) in
      omega (arith, e, ticks-append (kept_events entries after stop) (Stop tag ∷ []), counted.ticks);
  before = counted.before;
  room = counted.room;
  time = counted.time;
  few = counted.few;
}

-- what contracts see of a journal is a history within its limits
pub is_journal : (counts : Counts) (entries : List Entry) (after : ℕ) (stop : Option Event) → AreCounted counts entries after stop →
    IsJournal (record { limit = counts.limit; events = kept_events entries after stop })
is_journal counts entries after stop counted = record {
  history = history-kept entries after stop counted.commands counted.last;
  commands = omega (arith, counted.held, counted.room);
  ticks = omega (arith, counted.ticks, counted.time);
}
