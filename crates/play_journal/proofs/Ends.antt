-- Whether the events of a journal end in a tick.
use Rattle.std.proofs.Common.{◌≡◌, ℕ, zero, suc, nat_lt, Bool, true, false, List, [], ◌∷◌, ◌++◌, replicate, Option, Some, None, refl, sym, ap, ◌∙◌, arith, lt-ltb, append-nil}
use Rattle.std.specs.List.{flat_map, AllByRecursion}
use Rattle.play_types.specs.declared.event.Event.{Event}
use Rattle.play_types.specs.declared.event.Event.TheVariants.{Do, Batch, Tick, Stop}
use Rattle.play_journal.specs.Journal.{ends_in_tick}
use Rattle.play_journal.specs.Runs.{is_tick}
use Rattle.play_journal.specs.declared.entries.Entry.{Entry}
use Rattle.play_journal.specs.Kept.{HoldsCommands, IsStopIfAny, entry_events, events_before, kept_events}

-- what follows decides
ends-append : (xs : List Event) (y : Event) (ys : List Event) → ends_in_tick (xs ++ y ∷ ys) ≡ ends_in_tick (y ∷ ys)
ends-append [] y ys = refl
ends-append (x ∷ []) y ys = refl
ends-append (x ∷ z ∷ xs) y ys = ends-append (z ∷ xs) y ys

ends-ticks : (n : ℕ) → ends_in_tick (replicate (suc n) Tick) ≡ true
ends-ticks zero = refl
ends-ticks (suc n) = ends-ticks n

-- an event that holds commands is no tick, and so is a stop
other : (event : Event) → HoldsCommands event → is_tick event ≡ false
other (Do tag cmd) holds = refl
other (Batch tag cmds) holds = refl
other Tick holds = absurd holds
other (Stop tag) holds = absurd holds

stop_other : (event : Event) → IsStopIfAny (Some event) → is_tick event ≡ false
stop_other (Do tag cmd) last = absurd last
stop_other (Batch tag cmds) last = absurd last
stop_other Tick last = absurd last
stop_other (Stop tag) last = refl

-- entries end in no tick
ends-entries : (entries : List Entry) → AllByRecursion (λ entry. HoldsCommands entry.event) entries → ends_in_tick (flat_map entry_events entries) ≡ false
ends-entries [] hold = refl
ends-entries (entry ∷ []) hold =
    ap ends_in_tick (append-nil (entry_events entry)) ∙ ends-append (replicate entry.ticks Tick) entry.event [] ∙ other entry.event hold.0
ends-entries (entry ∷ next ∷ entries) hold =
    behind (flat_map entry_events (next ∷ entries)) refl ∙ ends-entries (next ∷ entries) hold.1
  where
    behind : (more : List Event) → more ≡ flat_map entry_events (next ∷ entries) → ends_in_tick (entry_events entry ++ more) ≡ ends_in_tick more
    behind [] e = ap ends_in_tick (append-nil (entry_events entry)) ∙ ends-append (replicate entry.ticks Tick) entry.event [] ∙ other entry.event hold.0
    behind (y ∷ ys) e = ends-append (entry_events entry) y ys

-- with a stop they do not end in a tick
pub ends-stopped : (entries : List Entry) (after : ℕ) (stop : Option Event) (event : Event) → stop ≡ Some event → IsStopIfAny stop → ends_in_tick (kept_events entries after stop) ≡ false
ends-stopped entries after None event e last = absurd (cc)
ends-stopped entries after (Some event) one e last = ends-append (events_before entries after) event [] ∙ stop_other event last

-- without one they do if there are ticks after the last entry
pub ends-running : (entries : List Entry) (after : ℕ) (stop : Option Event) → stop ≡ None → AllByRecursion (λ entry. HoldsCommands entry.event) entries
    → ends_in_tick (kept_events entries after stop) ≡ nat_lt 0 after
ends-running entries after (Some event) e hold = absurd (cc)
ends-running entries zero None e hold =
    ap ends_in_tick (append-nil (events_before entries zero) ∙ append-nil (flat_map entry_events entries)) ∙ ends-entries entries hold
ends-running entries (suc n) None e hold =
    ap ends_in_tick (append-nil (events_before entries (suc n))) ∙ ends-append (flat_map entry_events entries) Tick (replicate n Tick) ∙ ends-ticks n
    ∙ sym (lt-ltb 0 (suc n) (omega arith))
