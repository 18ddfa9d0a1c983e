-- What is left of a journal behind a place.
use Rattle.std.proofs.Common.{◌≡◌, ℕ, zero, suc, ◌+◌, ◌-◌, ◌≤◌, Bool, true, false, List, [], ◌∷◌, ◌++◌, length, drop, replicate, Option, Some, None, option_map, refl, sym, ap, ◌∙◌, arith, append_assoc}
use Rattle.std.specs.Prelude.{◌||◌}
use Rattle.std.specs.Option.{is_some}
use Rattle.std.specs.List.{flat_map, AllByRecursion}
use Rattle.play_types.specs.History.{IsHistory, is_stop, stop_at}
use Rattle.play_types.specs.declared.command.Cmd.{Cmd}
use Rattle.play_types.specs.declared.event.Tag.{Tag}
use Rattle.play_types.specs.declared.event.Event.{Event}
use Rattle.play_types.specs.declared.event.Event.TheVariants.{Do, Batch, Tick, Stop}
use Rattle.play_types.proofs.Histories.{stop_at-other, stop_at-stop}
use Rattle.play_journal.specs.declared.entries.Entry.{Entry}
use Rattle.play_journal.specs.Kept.{HoldsCommands, IsStop, IsStopIfAny, entry_events, kept_events, stop_events}
use Rattle.play_journal.specs.Places.{Passed, none_passed, passed, passed_more}
use Rattle.play_journal.specs.inner.Left.{left_after}

abbrev Hold : List Entry → Type 0
Hold entries = AllByRecursion (λ entry. HoldsCommands entry.event) entries

-- one entry, and what follows it
kept-first : (entry : Entry) (entries : List Entry) (after : ℕ) (stop : Option Event)
    → kept_events (entry ∷ entries) after stop ≡ replicate entry.ticks Tick ++ (entry.event ∷ kept_events entries after stop)
kept-first entry entries after stop =
    let ts = replicate entry.ticks Tick in
    let f = flat_map entry_events entries in
    let r = replicate after Tick in
    let s = stop_events stop in
    ap (λ es. (es ++ r) ++ s) (append_assoc ts (entry.event ∷ []) f)
    ∙ ap (λ es. es ++ s) (append_assoc ts (entry.event ∷ f) r)
    ∙ append_assoc ts (entry.event ∷ (f ++ r)) s

-- if the entries behind the first k are one entry and others, those behind the first k + 1 are the others
next_dropped : (all entries : List Entry) (entry : Entry) (k : ℕ) → drop k all ≡ entry ∷ entries → drop (k + 1) all ≡ entries
next_dropped all entries entry zero is = let one : zero + 1 ≡ 1 = omega arith in rw (one, is) refl
next_dropped [] entries entry (suc k) is = absurd (cc (is))
next_dropped (x ∷ all) entries entry (suc k) is =
    let more : suc k + 1 ≡ suc (k + 1) = omega arith in
    rw more (next_dropped all entries entry k is)

module _ (all : List Entry) (after : ℕ) (stop : Option Event) where
  abbrev Leaves : Passed → List Event → List Event → Type 0
  Leaves p past later = later ≡ left_after (passed_more p past) all after stop

  at_stop : (k t : ℕ) (x : Event) (past later : List Event) → IsStopIfAny stop → after ≡ t → drop k all ≡ [] → stop_events stop ≡ x ∷ (past ++ later)
      → Leaves (record { entries = k; ticks = t; stopped = false }) (x ∷ past) later
  at_stop k t x past later is_stop end none eq = go stop refl is_stop
    where
      go : (last : Option Event) → stop ≡ last → IsStopIfAny last → Leaves (record { entries = k; ticks = t; stopped = false }) (x ∷ past) later
      go None same is = absurd (cc (eq, same))
      go (Some event) same is = by event is past later (cc (eq, same)) (cc (eq, same))
        where
          by : (e : Event) → IsStop e → (ps ls : List Event) → e ≡ x → [] ≡ ps ++ ls → Leaves (record { entries = k; ticks = t; stopped = false }) (x ∷ ps) ls
          by (Do tag cmd) is ps ls first rest = absurd is
          by (Batch tag cmds) is ps ls first rest = absurd is
          by Tick is ps ls first rest = absurd is
          by (Stop tag) is [] [] first rest =
              let zero_left : after - t ≡ 0 = omega (arith, end) in
              rw (← first, none, zero_left) refl
          by (Stop tag) is [] (l ∷ ls) first rest = absurd (cc (rest))
          by (Stop tag) is (p ∷ ps) ls first rest = absurd (cc (rest))

  -- behind the last entry
  in_last : (k t n : ℕ) (past later : List Event) → IsStopIfAny stop → after ≡ t + n → drop k all ≡ []
      → replicate n Tick ++ stop_events stop ≡ past ++ later
      → Leaves (record { entries = k; ticks = t; stopped = false }) past later
  in_last k t n [] later is_stop end none eq =
      let left : after - t ≡ n = omega (arith, end) in
      rw (none, left) (sym eq)
  in_last k t zero (x ∷ past) later is_stop end none eq = at_stop k t x past later is_stop (omega (arith, end)) none eq
  in_last k t (suc n) (x ∷ past) later is_stop end none eq =
      let first : Tick ≡ x = cc (eq) in
      rw (← first) (in_last k (t + 1) n past later is_stop (omega (arith, end)) none (cc (eq)))

  -- behind n ticks, of which t were passed, before an entry
  in_entry : (k t n : ℕ) (entry : Entry) (entries : List Entry) (past later : List Event) → HoldsCommands entry.event
      → entry.ticks ≡ t + n → drop k all ≡ entry ∷ entries
      → ((past' : List Event) → kept_events entries after stop ≡ past' ++ later → Leaves (record { entries = k + 1; ticks = 0; stopped = false }) past' later)
      → replicate n Tick ++ (entry.event ∷ kept_events entries after stop) ≡ past ++ later
      → Leaves (record { entries = k; ticks = t; stopped = false }) past later
  in_entry k t n entry entries [] later holds end next more eq =
      let left : entry.ticks - t ≡ n = omega (arith, end) in
      rw (next, left) (sym eq)
  in_entry k t (suc n) entry entries (x ∷ past) later holds end next more eq =
      let first : Tick ≡ x = cc (eq) in
      rw (← first) (in_entry k (t + 1) n entry entries past later holds (omega (arith, end)) next more (cc (eq)))
  in_entry k t zero entry entries (x ∷ past) later holds end next more eq = by entry.event holds (cc (eq))
    where
      by : (e : Event) → HoldsCommands e → e ≡ x → Leaves (record { entries = k; ticks = t; stopped = false }) (x ∷ past) later
      by (Do tag cmd) is first = rw (← first) (more past (cc (eq)))
      by (Batch tag cmds) is first = rw (← first) (more past (cc (eq)))
      by Tick is first = absurd is
      by (Stop tag) is first = absurd is

  at_front : (k : ℕ) (entries : List Entry) (past later : List Event) → Hold entries → IsStopIfAny stop → drop k all ≡ entries
      → kept_events entries after stop ≡ past ++ later
      → Leaves (record { entries = k; ticks = 0; stopped = false }) past later
  at_front k [] past later hold is_stop next eq = in_last k 0 after past later is_stop (omega arith) next eq
  at_front k (entry ∷ entries) past later hold is_stop next eq =
      in_entry k 0 entry.ticks entry entries past later hold.0 (omega arith) next
      (λ past' eq'. at_front (k + 1) entries past' later hold.1 is_stop (next_dropped all entries entry k next) eq')
      (sym (kept-first entry entries after stop) ∙ eq)

-- what follows some events of a journal is what is left behind their place
pub left_is : (entries : List Entry) (after : ℕ) (stop : Option Event) (past later : List Event) → Hold entries → IsStopIfAny stop
    → kept_events entries after stop ≡ past ++ later → later ≡ left_after (passed past) entries after stop
left_is entries after stop past later hold is_stop eq = at_front entries after stop 0 entries past later hold is_stop refl eq

-- the counts of events in two parts
pub passed-append : (p : Passed) (xs ys : List Event) → passed_more p (xs ++ ys) ≡ passed_more (passed_more p xs) ys
passed-append p [] ys = refl
passed-append p (Do tag cmd ∷ xs) ys = passed-append (record { entries = p.entries + 1; ticks = 0; stopped = p.stopped }) xs ys
passed-append p (Batch tag cmds ∷ xs) ys = passed-append (record { entries = p.entries + 1; ticks = 0; stopped = p.stopped }) xs ys
passed-append p (Tick ∷ xs) ys = passed-append (record { entries = p.entries; ticks = p.ticks + 1; stopped = p.stopped }) xs ys
passed-append p (Stop tag ∷ xs) ys = passed-append (record { entries = p.entries; ticks = p.ticks; stopped = true }) xs ys

-- the counts after ticks in a row
pub passed-ticks : (k t n : ℕ) (stopped : Bool) → passed_more (record { entries = k; ticks = t; stopped = stopped }) (replicate n Tick)
    ≡ record { entries = k; ticks = t + n; stopped = stopped }
passed-ticks k t zero stopped = let e : t + zero ≡ t = omega arith in rw e refl
passed-ticks k t (suc n) stopped = let e : t + suc n ≡ (t + 1) + n = omega arith in rw e (passed-ticks k (t + 1) n stopped)

-- the counts of a place are at most the number of events before it
entries_within : (p : Passed) (xs : List Event) → (passed_more p xs).entries ≤ p.entries + length xs
entries_within p [] = omega arith
entries_within p (Do tag cmd ∷ xs) = omega (arith, entries_within (record { entries = p.entries + 1; ticks = 0; stopped = p.stopped }) xs)
entries_within p (Batch tag cmds ∷ xs) = omega (arith, entries_within (record { entries = p.entries + 1; ticks = 0; stopped = p.stopped }) xs)
entries_within p (Tick ∷ xs) = omega (arith, entries_within (record { entries = p.entries; ticks = p.ticks + 1; stopped = p.stopped }) xs)
entries_within p (Stop tag ∷ xs) = omega (arith, entries_within (record { entries = p.entries; ticks = p.ticks; stopped = true }) xs)

ticks_within : (p : Passed) (xs : List Event) → (passed_more p xs).ticks ≤ p.ticks + length xs
ticks_within p [] = omega arith
ticks_within p (Do tag cmd ∷ xs) = omega (arith, ticks_within (record { entries = p.entries + 1; ticks = 0; stopped = p.stopped }) xs)
ticks_within p (Batch tag cmds ∷ xs) = omega (arith, ticks_within (record { entries = p.entries + 1; ticks = 0; stopped = p.stopped }) xs)
ticks_within p (Tick ∷ xs) = omega (arith, ticks_within (record { entries = p.entries; ticks = p.ticks + 1; stopped = p.stopped }) xs)
ticks_within p (Stop tag ∷ xs) = omega (arith, ticks_within (record { entries = p.entries; ticks = p.ticks; stopped = true }) xs)

pub passed_within : (xs : List Event) → ((passed xs).entries ≤ length xs) × ((passed xs).ticks ≤ length xs)
passed_within xs = (omega (arith, entries_within none_passed xs), omega (arith, ticks_within none_passed xs))

-- a place is behind a stop exactly if there is one before it
some_moved : (o : Option ℕ) → is_some (option_map (λ n. 1 + n) o) ≡ is_some o
some_moved None = refl
some_moved (Some n) = refl

with_first : (event : Event) (xs : List Event) → is_stop event ≡ false → is_some (stop_at (event ∷ xs)) ≡ is_some (stop_at xs)
with_first event xs other = ap (λ (o : Option ℕ). is_some o) (stop_at-other event xs other) ∙ some_moved (stop_at xs)

or_none : (b : Bool) → b ≡ (b || false)
or_none false = refl
or_none true = refl

or_some : (b : Bool) → true ≡ (b || true)
or_some false = refl
or_some true = refl

behind : (p : Passed) (xs : List Event) → (passed_more p xs).stopped ≡ (p.stopped || is_some (stop_at xs))
behind p [] = or_none p.stopped
behind p (Do tag cmd ∷ xs) =
    behind (record { entries = p.entries + 1; ticks = 0; stopped = p.stopped }) xs ∙ ap (λ b. p.stopped || b) (sym (with_first (Do tag cmd) xs refl))
behind p (Batch tag cmds ∷ xs) =
    behind (record { entries = p.entries + 1; ticks = 0; stopped = p.stopped }) xs ∙ ap (λ b. p.stopped || b) (sym (with_first (Batch tag cmds) xs refl))
behind p (Tick ∷ xs) =
    behind (record { entries = p.entries; ticks = p.ticks + 1; stopped = p.stopped }) xs ∙ ap (λ b. p.stopped || b) (sym (with_first Tick xs refl))
behind p (Stop tag ∷ xs) =
    behind (record { entries = p.entries; ticks = p.ticks; stopped = true }) xs
    ∙ or_some p.stopped
    ∙ sym (ap (λ (o : Option ℕ). p.stopped || is_some o) (stop_at-stop tag xs))

pub behind_stop : (xs : List Event) → (passed xs).stopped ≡ is_some (stop_at xs)
behind_stop xs = behind none_passed xs

-- nothing follows a place that is behind the stop
front_of_none : (xs ys : List Event) → xs ++ ys ≡ [] → ys ≡ []
front_of_none [] ys none = none
front_of_none (x ∷ xs) ys none = absurd (cc (none))

last_after : (p : Passed) (xs ys : List Event) → p.stopped ≡ false → IsHistory (xs ++ ys) → (passed_more p xs).stopped ≡ true → ys ≡ []
last_after p [] ys running history stops = absurd (cc (running, stops))
last_after p (Do tag cmd ∷ xs) ys running history stops =
    last_after (record { entries = p.entries + 1; ticks = 0; stopped = p.stopped }) xs ys running history stops
last_after p (Batch tag cmds ∷ xs) ys running history stops =
    last_after (record { entries = p.entries + 1; ticks = 0; stopped = p.stopped }) xs ys running history.1 stops
last_after p (Tick ∷ xs) ys running history stops =
    last_after (record { entries = p.entries; ticks = p.ticks + 1; stopped = p.stopped }) xs ys running history stops
last_after p (Stop tag ∷ xs) ys running history stops = front_of_none xs ys history

pub last_behind : (xs ys : List Event) → IsHistory (xs ++ ys) → (passed xs).stopped ≡ true → ys ≡ []
last_behind xs ys history stops = last_after none_passed xs ys refl history stops

-- the counts after one more event
pub passed_do : (p : Passed) (tag : Tag) (cmd : Cmd) (times : ℕ) → times ≡ 1
    → passed_more p (replicate times (Do tag cmd)) ≡ record { entries = p.entries + 1; ticks = 0; stopped = p.stopped }
passed_do p tag cmd times one = ap (λ (n : ℕ). passed_more p (replicate n (Do tag cmd))) one

pub passed_batch : (p : Passed) (tag : Tag) (cmds : List Cmd) (times : ℕ) → times ≡ 1
    → passed_more p (replicate times (Batch tag cmds)) ≡ record { entries = p.entries + 1; ticks = 0; stopped = p.stopped }
passed_batch p tag cmds times one = ap (λ (n : ℕ). passed_more p (replicate n (Batch tag cmds))) one

pub passed_stop : (p : Passed) (tag : Tag) (times : ℕ) → times ≡ 1
    → passed_more p (replicate times (Stop tag)) ≡ record { entries = p.entries; ticks = p.ticks; stopped = true }
passed_stop p tag times one = ap (λ (n : ℕ). passed_more p (replicate n (Stop tag))) one
