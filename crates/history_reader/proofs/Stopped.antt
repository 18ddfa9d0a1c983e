-- The events before the stop of a history.
use Rattle.std.proofs.Common.{◌≡◌, ℕ, ◌+◌, ◌<◌, false, true, List, [], ◌∷◌, ◌++◌, Option, Some, None, option_map, length, refl, sym, ap, ◌∙◌, arith}
use Rattle.play_types.specs.History.{IsHistory, held, is_stop, stop_at, ticks}
use Rattle.play_types.specs.declared.event.Event.{Event}
use Rattle.play_types.specs.declared.event.Event.TheVariants.{Do, Batch, Tick, Stop}
use Rattle.play_types.proofs.Histories.{held-append, stop_at-append, stop_at-other, stop_at-stop, ticks-append}
use Rattle.history_reader.specs.HistoryText.{events_before_stop, is_some_event}

none_unmoved : (n : ℕ) (o : Option ℕ) → option_map (λ k. n + k) o ≡ None → o ≡ None
none_unmoved n None none = refl
none_unmoved n (Some k) none = cc

-- if there is no stop, there is none after the first event
none_later : (event : Event) (events : List Event) → is_stop event ≡ false → stop_at (event ∷ events) ≡ None → stop_at events ≡ None
none_later event events other none = none_unmoved 1 (stop_at events) (sym (stop_at-other event events other) ∙ none)

-- events without a stop are before the stop of those that follow
pub before_stop-append : (xs ys : List Event) → stop_at xs ≡ None → events_before_stop (xs ++ ys) ≡ xs ++ events_before_stop ys
before_stop-append [] ys none = refl
before_stop-append (Do tag cmd ∷ xs) ys none =
    ap (λ es. Do tag cmd ∷ es) (before_stop-append xs ys (none_later (Do tag cmd) xs refl none))
before_stop-append (Batch tag cmds ∷ xs) ys none =
    ap (λ es. Batch tag cmds ∷ es) (before_stop-append xs ys (none_later (Batch tag cmds) xs refl none))
before_stop-append (Tick ∷ xs) ys none = ap (λ es. Tick ∷ es) (before_stop-append xs ys (none_later Tick xs refl none))
before_stop-append (Stop tag ∷ xs) ys none = cc (stop_at-stop tag xs)

-- events without a stop are all before it
pub before_stop-all : (events : List Event) → stop_at events ≡ None → events_before_stop events ≡ events
before_stop-all [] none = refl
before_stop-all (Do tag cmd ∷ events) none = ap (λ es. Do tag cmd ∷ es) (before_stop-all events (none_later (Do tag cmd) events refl none))
before_stop-all (Batch tag cmds ∷ events) none =
    ap (λ es. Batch tag cmds ∷ es) (before_stop-all events (none_later (Batch tag cmds) events refl none))
before_stop-all (Tick ∷ events) none = ap (λ es. Tick ∷ es) (before_stop-all events (none_later Tick events refl none))
before_stop-all (Stop tag ∷ events) none = cc (stop_at-stop tag events)

-- the events before the stop are the first ones
pub before_stop_first : (events more : List Event) → (rest : List Event) × (events_before_stop events ++ rest ≡ events ++ more)
before_stop_first [] more = (more, refl)
before_stop_first (Do tag cmd ∷ events) more =
    let rest = before_stop_first events more in (rest.0, ap (λ es. Do tag cmd ∷ es) rest.1)
before_stop_first (Batch tag cmds ∷ events) more =
    let rest = before_stop_first events more in (rest.0, ap (λ es. Batch tag cmds ∷ es) rest.1)
before_stop_first (Tick ∷ events) more =
    let rest = before_stop_first events more in (rest.0, ap (λ es. Tick ∷ es) rest.1)
before_stop_first (Stop tag ∷ events) more = (Stop tag ∷ events ++ more, refl)

-- the events after others without a stop
none_after : (xs ys : List Event) → stop_at xs ≡ None → stop_at (xs ++ ys) ≡ None → stop_at ys ≡ None
none_after xs ys first none = none_unmoved (length xs) (stop_at ys) (sym (stop_at-append xs ys first) ∙ none)

history_after : (xs ys : List Event) → stop_at xs ≡ None → IsHistory (xs ++ ys) → IsHistory ys
history_after [] ys none whole = whole
history_after (Do tag cmd ∷ xs) ys none whole = history_after xs ys (none_later (Do tag cmd) xs refl none) whole
history_after (Batch tag cmds ∷ xs) ys none whole = history_after xs ys (none_later (Batch tag cmds) xs refl none) whole.1
history_after (Tick ∷ xs) ys none whole = history_after xs ys (none_later Tick xs refl none) whole
history_after (Stop tag ∷ xs) ys none whole = cc (stop_at-stop tag xs)

-- the commands and the ticks of a history
abbrev pub size : List Event → ℕ
size events = held events + ticks events

size_of_some : (events : List Event) → IsHistory events → stop_at events ≡ None → is_some_event events ≡ true → 0 < size events
size_of_some [] whole none some = cc
size_of_some (Do tag cmd ∷ events) whole none some = omega arith
size_of_some (Batch tag cmds ∷ events) whole none some = let first = whole.0 in omega (arith, first)
size_of_some (Tick ∷ events) whole none some = omega arith
size_of_some (Stop tag ∷ events) whole none some = cc (stop_at-stop tag events)

-- a history without a stop grew exactly if its size did
pub grew : (xs ys : List Event) → IsHistory (xs ++ ys) → stop_at xs ≡ None → stop_at (xs ++ ys) ≡ None → is_some_event ys ≡ true → size xs < size (xs ++ ys)
grew xs ys whole first none some =
    let more = size_of_some ys (history_after xs ys first whole) (none_after xs ys first none) some in
    let held_all = held-append xs ys in
    let ticks_all = ticks-append xs ys in
    omega (arith, more, held_all, ticks_all)

no_event : (events : List Event) → is_some_event events ≡ false → events ≡ []
no_event [] none = refl
no_event (event ∷ events) none = cc

pub did_not_grow : (xs ys : List Event) → is_some_event ys ≡ false → size (xs ++ ys) ≡ size xs
did_not_grow xs ys none =
    let gone = no_event ys none in
    let held_all = held-append xs ys in
    let ticks_all = ticks-append xs ys in
    let held_none = ap held gone in
    let ticks_none = ap ticks gone in
    omega (arith, held_all, ticks_all, held_none, ticks_none)
