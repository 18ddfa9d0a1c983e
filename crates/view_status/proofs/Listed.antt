-- The events of a journal that are listed, run by run.
use Rattle.std.proofs.Common.{◌≡◌, ℕ, zero, suc, ◌+◌, ◌≤◌, true, false, ◌⊎◌, inl, inr, List, [], ◌∷◌, ◌++◌, length, replicate, take, filter, flat_map, refl, sym, ap, ◌∙◌, subst, arith, append_assoc, append-nil}
use Rattle.std.specs.List.{AllByRecursion}
use Rattle.std.proofs.lemmas.Bool.{cond-false, cond-true}
use Rattle.json.specs.Token.{Token}
use Rattle.play_types.specs.History.{ticks}
use Rattle.play_types.specs.declared.command.Cmd.{Cmd}
use Rattle.play_types.specs.declared.event.Event.{Event}
use Rattle.play_types.specs.declared.event.Event.TheVariants.{Do, Batch, Tick, Stop}
use Rattle.play_types.specs.declared.event.Tag.{Tag}
use Rattle.play_journal.specs.Runs.{AreRuns, HasItsTimes, Run, events_of, is_tick}
use Rattle.view_status.specs.Events.{PlacedEvent, is_listed, listed_events, placed_from}
use Rattle.view_status.specs.declared.events.TheConstants.{MAX_EVENTS}
use Rattle.view_status.specs.declared.place.Place.{Place}
use Rattle.view_status.proofs.Counted.{length_of_runs, none_counted}

-- an event at a place
abbrev pub at_place : ℕ → ℕ → Event → PlacedEvent
at_place position tick event = record { position = position; tick = tick; event = event }

-- the events that are listed, of those from a place on
abbrev pub listed_from : ℕ → ℕ → ℕ → List Event → List PlacedEvent
listed_from after position tick events = filter (is_listed after) (placed_from position tick events)

-- an event that is not listed is passed over
one_passed : (after p q t u : ℕ) (event : Event) (rest : List Event) → is_listed after (at_place p t event) ≡ false
    → q ≡ p + 1 → u ≡ t + ticks (event ∷ []) → listed_from after p t (event ∷ rest) ≡ listed_from after q u rest
one_passed after p q t u event rest other position tick =
    cond-false (is_listed after (at_place p t event)) (at_place p t event ∷ listed_from after (p + 1) (t + ticks (event ∷ [])) rest)
    (listed_from after (p + 1) (t + ticks (event ∷ [])) rest) other
    ∙ cc

-- an event that is listed comes first
one_listed : (after p q t u : ℕ) (event : Event) (rest : List Event) → is_listed after (at_place p t event) ≡ true
    → q ≡ p + 1 → u ≡ t + ticks (event ∷ []) → listed_from after p t (event ∷ rest) ≡ at_place p t event ∷ listed_from after q u rest
one_listed after p q t u event rest is position tick =
    cond-true (is_listed after (at_place p t event)) (at_place p t event ∷ listed_from after (p + 1) (t + ticks (event ∷ [])) rest)
    (listed_from after (p + 1) (t + ticks (event ∷ [])) rest) is
    ∙ cc

pub ticks_of_ticks : (n : ℕ) → ticks (replicate n Tick) ≡ n
ticks_of_ticks zero = refl
ticks_of_ticks (suc n) = let rest = ticks_of_ticks n in omega (arith, rest)

-- ticks are passed over
ticks_passed : (after n p q t u : ℕ) (rest : List Event) → q ≡ p + n → u ≡ t + n
    → listed_from after p t (replicate n Tick ++ rest) ≡ listed_from after q u rest
ticks_passed after zero p q t u rest position tick =
    let same_position : p ≡ q = omega arith in
    let same_tick : t ≡ u = omega arith in
    cc
ticks_passed after (suc n) p q t u rest position tick =
    one_passed after p (p + 1) t (t + 1) Tick (replicate n Tick ++ rest) refl refl refl
    ∙ ticks_passed after n (p + 1) q (t + 1) u rest (omega arith) (omega arith)

-- the run of an event that is no tick is that event
pub once : (event : Event) (n : ℕ) → n ≡ 1 → replicate n event ≡ event ∷ []
once event n one = ap (λ (k : ℕ). replicate k event) one

module _ (after n p q t u : ℕ) (rest : List Event) (position : q ≡ p + n) where
  other_passed : (event : Event) → n ≡ 1 → is_listed after (at_place p t event) ≡ false → u ≡ t + ticks (replicate n event)
      → listed_from after p t (replicate n event ++ rest) ≡ listed_from after q u rest
  other_passed event one other tick =
      ap (λ (events : List Event). listed_from after p t (events ++ rest)) (once event n one)
      ∙ one_passed after p q t u event rest other (omega arith) (tick ∙ ap (λ (events : List Event). t + ticks events) (once event n one))

  other_listed : (event : Event) → n ≡ 1 → is_listed after (at_place p t event) ≡ true → u ≡ t + ticks (replicate n event)
      → listed_from after p t (replicate n event ++ rest) ≡ at_place p t event ∷ listed_from after q u rest
  other_listed event one is tick =
      ap (λ (events : List Event). listed_from after p t (events ++ rest)) (once event n one)
      ∙ one_listed after p q t u event rest is (omega arith) (tick ∙ ap (λ (events : List Event). t + ticks events) (once event n one))

  -- a run whose event is not listed is passed over
  run_passed : (event : Event) → HasItsTimes event n → is_listed after (at_place p t event) ≡ false → u ≡ t + ticks (replicate n event)
      → listed_from after p t (replicate n event ++ rest) ≡ listed_from after q u rest
  run_passed (Do tag cmd) times other tick = other_passed (Do tag cmd) times other tick
  run_passed (Batch tag cmds) times other tick = other_passed (Batch tag cmds) times other tick
  run_passed Tick times other tick = ticks_passed after n p q t u rest position (tick ∙ ap (λ (k : ℕ). t + k) (ticks_of_ticks n))
  run_passed (Stop tag) times other tick = other_passed (Stop tag) times other tick

  -- a run whose event is listed is that event
  run_listed : (event : Event) → HasItsTimes event n → is_listed after (at_place p t event) ≡ true → u ≡ t + ticks (replicate n event)
      → listed_from after p t (replicate n event ++ rest) ≡ at_place p t event ∷ listed_from after q u rest
  run_listed (Do tag cmd) times is tick = other_listed (Do tag cmd) times is tick
  run_listed (Batch tag cmds) times is tick = other_listed (Batch tag cmds) times is tick
  run_listed Tick times is tick = absurd (cc)
  run_listed (Stop tag) times is tick = other_listed (Stop tag) times is tick

-- an event of the other kinds is no tick
pub no_tick : (event : Event) → ((tag : Tag) × (cmd : Cmd) × (event ≡ Do tag cmd)) ⊎ (((tag : Tag) × (cmds : List Cmd) × (event ≡ Batch tag cmds)) ⊎ ((tag : Tag) × (event ≡ Stop tag)))
    → is_tick event ≡ false
no_tick event kinds = elim kinds [
  | inl command ↦ ap is_tick command.2
  | inr others ↦ elim others [
    | inl batch ↦ ap is_tick batch.2
    | inr stop ↦ ap is_tick stop.1
  ]
]

-- no ticks are added by the run of an event that is no tick
pub no_ticks_of_run : (event : Event) (n before : ℕ) → HasItsTimes event n → is_tick event ≡ false → before ≡ before + ticks (replicate n event)
no_ticks_of_run (Do tag cmd) n before one other = let none = ap ticks (once (Do tag cmd) n one) in omega (arith, none)
no_ticks_of_run (Batch tag cmds) n before one other = let none = ap ticks (once (Batch tag cmds) n one) in omega (arith, none)
no_ticks_of_run Tick n before one other = absurd (cc)
no_ticks_of_run (Stop tag) n before one other = let none = ap ticks (once (Stop tag) n one) in omega (arith, none)

abbrev pub HaveTimes : List Run → Type 0
HaveTimes runs = AllByRecursion (λ (run : Run). HasItsTimes run.event run.times) runs

-- the tokens of the events that are listed are those that were written, and then those of the runs that are left, of which there is
-- room for some. The runs begin at the place
pub record IsListedTo (f : PlacedEvent → List Token) (after : ℕ) (history : List Event) (first now : List Token) (room : ℕ) (place : Place) (runs : List Run) : Type 0 where
  pub whole : first ++ flat_map f (listed_events after history)
      ≡ now ++ flat_map f (take room (listed_from after place.position place.tick (flat_map events_of runs)))
  pub counted : place.position + length (flat_map events_of runs) ≡ length history
  pub ticks : place.tick ≤ place.position
  pub times : HaveTimes runs

module _ (f : PlacedEvent → List Token) (after : ℕ) (history : List Event) (first : List Token) where
  pub none_listed : (place : Place) (runs : List Run) → AreRuns runs history → place ≡ record { position = 0; tick = 0 }
      → IsListedTo f after history first first MAX_EVENTS place runs
  none_listed place runs are begins =
      subst (λ (at : Place). IsListedTo f after history first first MAX_EVENTS at runs) (sym begins)
      (record {
        whole = ap (λ (events : List Event). first ++ flat_map f (take MAX_EVENTS (listed_from after 0 0 events))) (sym are.whole);
        counted = none_counted history runs are;
        ticks = omega arith;
        times = are.times;
      })

  module _ (now : List Token) (room : ℕ) (place later : Place) (run : Run) (runs : List Run)
      (so_far : IsListedTo f after history first now room place (run ∷ runs))
      (position : later.position ≡ place.position + run.times)
      (tick : later.tick ≡ place.tick + ticks (replicate run.times run.event))
      (before : later.tick ≤ later.position) where
    counted_later : later.position + length (flat_map events_of runs) ≡ length history
    counted_later = let counted = so_far.counted in omega (arith, counted, position, length_of_runs run runs)

    -- the next run is not listed
    pub next_passed : is_listed after (at_place place.position place.tick run.event) ≡ false
        → IsListedTo f after history first now room later runs
    next_passed other = record {
      whole =
          so_far.whole
          ∙ ap (λ (events : List PlacedEvent). now ++ flat_map f (take room events))
          (run_passed after run.times place.position later.position place.tick later.tick (flat_map events_of runs) position
          run.event so_far.times.0 other tick);
      counted = counted_later;
      ticks = before;
      times = so_far.times.1;
    }

    -- the next run is listed, and its event was written
    pub next_listed : (next : List Token) (left : ℕ) → is_listed after (at_place place.position place.tick run.event) ≡ true
        → room ≡ suc left → next ≡ now ++ f (at_place place.position place.tick run.event)
        → IsListedTo f after history first next left later runs
    next_listed next left is some written = record {
      whole =
          so_far.whole
          ∙ ap (λ (events : List PlacedEvent). now ++ flat_map f (take room events))
          (run_listed after run.times place.position later.position place.tick later.tick (flat_map events_of runs) position
          run.event so_far.times.0 is tick)
          ∙ ap (λ (k : ℕ). now ++ flat_map f (take k (at_place place.position place.tick run.event
          ∷ listed_from after later.position later.tick (flat_map events_of runs)))) some
          ∙ sym (append_assoc now (f (at_place place.position place.tick run.event))
          (flat_map f (take left (listed_from after later.position later.tick (flat_map events_of runs)))))
          ∙ ap (λ (tokens : List Token). tokens ++ flat_map f (take left (listed_from after later.position later.tick (flat_map events_of runs))))
          (sym written);
      counted = counted_later;
      ticks = before;
      times = so_far.times.1;
    }

  -- the place of the next run, and its times, are at most the number of events
  pub next_fits : (now : List Token) (room : ℕ) (place : Place) (run : Run) (runs : List Run)
      → IsListedTo f after history first now room place (run ∷ runs) → place.position + run.times ≤ length history
  next_fits now room place run runs so_far =
      let counted = so_far.counted in omega (arith, counted, length_of_runs run runs)

  -- there is no room for more
  pub full_listed : (now : List Token) (room : ℕ) (place : Place) (runs : List Run) → IsListedTo f after history first now room place runs
      → room ≡ 0 → now ≡ first ++ flat_map f (listed_events after history)
  full_listed now room place runs so_far none =
      sym (so_far.whole
      ∙ ap (λ (k : ℕ). now ++ flat_map f (take k (listed_from after place.position place.tick (flat_map events_of runs)))) none
      ∙ append-nil now)

  -- no run is left
  pub all_listed : (now : List Token) (room : ℕ) (place : Place) → IsListedTo f after history first now room place []
      → now ≡ first ++ flat_map f (listed_events after history)
  all_listed now zero place so_far = sym (so_far.whole ∙ append-nil now)
  all_listed now (suc room) place so_far = sym (so_far.whole ∙ append-nil now)
