-- The text of a history, run by run.
use Rattle.std.proofs.Common.{◌≡◌, ℕ, false, true≢false, List, [], ◌∷◌, ◌++◌, replicate, flat_map, refl, sym, ap, ◌∙◌, subst, arith, append_assoc, append-nil}
use Rattle.std.specs.Prelude.{Option, Some}
use Rattle.std.specs.Iterator.{YieldsFirstBy}
use Rattle.std.specs.List.{AllByRecursion}
use Rattle.play_types.specs.Media.{MediaNameView}
use Rattle.play_types.specs.declared.event.Event.{Event}
use Rattle.play_types.specs.declared.event.Event.TheVariants.{Do, Batch, Tick, Stop}
use Rattle.play_outside.specs.SinkState.{SinkState}
use Rattle.play_outside.specs.Gathered.{Adds, Gathered}
use Rattle.play_outside.specs.Sink.{Fails, Sends}
use Rattle.play_outside.specs.declared.sink.Sent.{Sent}
use Rattle.play_outside.specs.declared.sink.Sent.TheVariants as sent
use Rattle.play_outside.proofs.Gathering.{Adds-within, Gathered-more, Gathered-none, Sends-gathered}
use Rattle.play_journal.specs.Runs.{AreApart, AreRuns, HasItsTimes, Run, events_of, is_tick, run_of}
use Rattle.play_journal.specs.declared.events.EventRun.{EventRun}
use Rattle.history_model.specs.text.History.{BeginWithoutTick, FollowRun, IsRun, history_text, tick_lines}

-- the text of some events is that of a run, and then that of the events after it
abbrev pub TextByRuns : Type 0
TextByRuns = (media : List MediaNameView) (event : Event) (times : ℕ) (later : List Event) → IsRun event times → FollowRun event later
    → history_text media (replicate times event ++ later) ≡ history_text media (replicate times event) ++ history_text media later

-- these runs are left of some events, and the text of the events before them was added to a gathered text, of which `waiting` is
-- still to be written. The output went from the first of two moments to the second
pub record IsAddedTo (media : List MediaNameView) (events : List Event) (waiting : List ℕ) (moments : SinkState × SinkState) (runs : List Run) : Type 0 where
  pub added : List ℕ
  pub whole : history_text media events ≡ added ++ history_text media (flat_map events_of runs)
  pub gathered : Gathered added waiting moments.0 moments.1
  pub times : AllByRecursion (λ (run : Run). HasItsTimes run.event run.times) runs
  pub apart : AreApart runs

-- an event that happened its times is a run
run_of_times : (event : Event) (times : ℕ) → HasItsTimes event times → IsRun event times
run_of_times (Do tag cmd) times one = one
run_of_times (Batch tag cmds) times one = one
run_of_times Tick times some = omega arith
run_of_times (Stop tag) times one = one

-- a run of another event than ticks begins with no tick
begins_without : (event : Event) (times : ℕ) (rest : List Event) → is_tick event ≡ false → HasItsTimes event times
    → BeginWithoutTick (replicate times event ++ rest)
begins_without (Do tag cmd) times rest other one = subst (λ (n : ℕ). BeginWithoutTick (replicate n (Do tag cmd) ++ rest)) (sym one) tt
begins_without (Batch tag cmds) times rest other one = subst (λ (n : ℕ). BeginWithoutTick (replicate n (Batch tag cmds) ++ rest)) (sym one) tt
begins_without Tick times rest other some = absurd (true≢false other)
begins_without (Stop tag) times rest other one = subst (λ (n : ℕ). BeginWithoutTick (replicate n (Stop tag) ++ rest)) (sym one) tt

-- runs that follow a run of ticks begin with no tick
follow_ticks : (times : ℕ) (runs : List Run) → AllByRecursion (λ (run : Run). HasItsTimes run.event run.times) runs
    → AreApart (record { event = Tick; times = times } ∷ runs) → BeginWithoutTick (flat_map events_of runs)
follow_ticks times [] all apart = tt
follow_ticks times (run ∷ runs) all apart = begins_without run.event run.times (flat_map events_of runs) apart.0 all.0

follow_run : (event : Event) (times : ℕ) (runs : List Run) → AllByRecursion (λ (run : Run). HasItsTimes run.event run.times) runs
    → AreApart (record { event = event; times = times } ∷ runs) → FollowRun event (flat_map events_of runs)
follow_run (Do tag cmd) times runs all apart = tt
follow_run (Batch tag cmds) times runs all apart = tt
follow_run Tick times runs all apart = follow_ticks times runs all apart
follow_run (Stop tag) times runs all apart = tt

apart_rest : (run : Run) (runs : List Run) → AreApart (run ∷ runs) → AreApart runs
apart_rest run [] apart = tt
apart_rest run (next ∷ runs) apart = apart.1

-- the whole text is what was added, the text of the next run, and the rest
parted : (media : List MediaNameView) (events : List Event) (waiting : List ℕ) (moments : SinkState × SinkState) (run : Run) (runs : List Run) → TextByRuns
    → (so_far : IsAddedTo media events waiting moments (run ∷ runs))
    → history_text media events ≡ (so_far.added ++ history_text media (replicate run.times run.event)) ++ history_text media (flat_map events_of runs)
parted media events waiting moments run runs by_runs so_far =
    so_far.whole
    ∙ ap (λ (text : List ℕ). so_far.added ++ text)
    (by_runs media run.event run.times (flat_map events_of runs) (run_of_times run.event run.times so_far.times.0)
    (follow_run run.event run.times runs so_far.times.1 so_far.apart))
    ∙ sym (append_assoc so_far.added (history_text media (replicate run.times run.event)) (history_text media (flat_map events_of runs)))

-- the item that was yielded is the first run of those that were left
pub first_of_left : (item : EventRun) (answer : Option EventRun) (before after : List Run) → answer ≡ Some item
    → YieldsFirstBy run_of (λ (rest : List Run). rest) before answer after → before ≡ run_of item ∷ after
first_of_left item answer before after some step = rw some at step

-- before the first run nothing was added
pub none_added : (media : List MediaNameView) (events : List Event) (waiting : List ℕ) (first : SinkState) (runs : List Run) → waiting ≡ [] → AreRuns runs events
    → IsAddedTo media events waiting (first, first) runs
none_added media events waiting first runs none are = record {
  added = [];
  whole = ap (history_text media) (sym are.whole);
  gathered = subst (λ (bytes : List ℕ). Gathered [] bytes first first) (sym none) (Gathered-none [] first);
  times = are.times;
  apart = are.apart;
}

-- the next run may be printed
pub next_is_run : (media : List MediaNameView) (events : List Event) (waiting : List ℕ) (moments : SinkState × SinkState) (run : Run) (runs : List Run)
    → IsAddedTo media events waiting moments (run ∷ runs) → IsRun run.event run.times
next_is_run media events waiting moments run runs so_far = run_of_times run.event run.times so_far.times.0

-- one more run was added
pub one_added : (media : List MediaNameView) (events : List Event) (waiting more : List ℕ) (first now after : SinkState) (run : Run) (runs : List Run) → TextByRuns
    → IsAddedTo media events waiting (first, now) (run ∷ runs)
    → Adds sent.All (waiting ++ history_text media (replicate run.times run.event)) more now after → IsAddedTo media events more (first, after) runs
one_added media events waiting more first now after run runs by_runs so_far adds = record {
  added = so_far.added ++ history_text media (replicate run.times run.event);
  whole = parted media events waiting (first, now) run runs by_runs so_far;
  gathered =
      Gathered-more (so_far.added ++ history_text media (replicate run.times run.event)) so_far.added (history_text media (replicate run.times run.event))
      waiting more first now after refl so_far.gathered adds;
  times = so_far.times.1;
  apart = apart_rest run runs so_far.apart;
}

-- the output failed at the next run
pub failed_in_run : (media : List MediaNameView) (events : List Event) (waiting more : List ℕ) (first now after : SinkState) (run : Run) (runs : List Run) → TextByRuns
    → IsAddedTo media events waiting (first, now) (run ∷ runs)
    → Adds sent.Failed (waiting ++ history_text media (replicate run.times run.event)) more now after → Fails (history_text media events) first after
failed_in_run media events waiting more first now after run runs by_runs so_far fails =
    (Adds-within (history_text media events) so_far.added (history_text media (replicate run.times run.event)) (history_text media (flat_map events_of runs))
    waiting more first now after (parted media events waiting (first, now) run runs by_runs so_far) so_far.gathered fails).0

-- all runs were added, and what waited was written
pub all_sent : (result : Sent) (media : List MediaNameView) (events : List Event) (waiting : List ℕ) (first now after : SinkState)
    → IsAddedTo media events waiting (first, now) [] → Sends result waiting now after → Sends result (history_text media events) first after
unfolding history_text tick_lines
all_sent result media events waiting first now after so_far sends =
    subst (λ (text : List ℕ). Sends result text first after) (sym (so_far.whole ∙ append-nil so_far.added))
    (Sends-gathered result so_far.added waiting first now after so_far.gathered sends)
