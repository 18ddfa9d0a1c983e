-- The runs in a room.
use Rattle.std.proofs.Common.{◌≡◌, ℕ, ◌+◌, ◌<◌, ◌≤◌, List, [], ◌∷◌, ◌++◌, take, drop, length, refl, sym, ap, ap₂, ◌∙◌, subst, arith, append-nil, length-append}
use Rattle.std.specs.List.{AllByRecursion}
use Rattle.std.proofs.lemmas.List.{take-append-le, drop-append-le, take_all, drop_all}
use Rattle.play_types.specs.declared.command.Cmd.{Cmd}
use Rattle.play_types.specs.declared.event.Event.TheVariants as event
use Rattle.play_journal.specs.Reading.{one_run}
use Rattle.play_journal.specs.Room.{AreKept, runs_in}
use Rattle.play_journal.specs.Runs.{HasItsTimes, Run}
use Rattle.play_journal.specs.declared.room.KeptRun.{KeptRun}
use Rattle.play_journal.specs.declared.room.KeptRun.TheVariants.{Do, Batch, Ticks, Stop}

-- a list of length 0 is empty
none_long : {X : Type 0} (xs : List X) → length xs ≡ 0 → xs ≡ []
none_long [] none = refl
none_long (x ∷ xs) none = absurd (omega (arith, none))

-- one more run, with its commands
pub kept_more : (runs : List KeptRun) (cmds more : List Cmd) (run : KeptRun) → AreKept runs cmds
    → runs_in (runs ++ run ∷ []) (cmds ++ more) ≡ runs_in runs cmds ++ runs_in (run ∷ []) more
kept_more [] cmds more run are = ap (λ (first : List Cmd). runs_in (run ∷ []) (first ++ more)) (none_long cmds are)
kept_more (Do tag cmd ∷ runs) cmds more run are =
    ap (λ (later : List Run). one_run (event.Do tag cmd) ∷ later) (kept_more runs cmds more run are)
kept_more (Batch tag count ∷ runs) cmds more run are =
    ap₂ (λ (own : List Cmd) (later : List Run). one_run (event.Batch tag own) ∷ later) (take-append-le count cmds more are.0)
    (ap (λ (left : List Cmd). runs_in (runs ++ run ∷ []) left) (drop-append-le count cmds more are.0)
    ∙ kept_more runs (drop count cmds) more run are.1)
kept_more (Ticks times ∷ runs) cmds more run are =
    ap (λ (later : List Run). record { event = event.Tick; times = times } ∷ later) (kept_more runs cmds more run are.1)
kept_more (Stop tag ∷ runs) cmds more run are =
    ap (λ (later : List Run). one_run (event.Stop tag) ∷ later) (kept_more runs cmds more run are)

pub are_kept_more : (runs : List KeptRun) (cmds more : List Cmd) (run : KeptRun) → AreKept runs cmds → AreKept (run ∷ []) more
    → AreKept (runs ++ run ∷ []) (cmds ++ more)
are_kept_more [] cmds more run are one = subst (λ (first : List Cmd). AreKept (run ∷ []) (first ++ more)) (sym (none_long cmds are)) one
are_kept_more (Do tag cmd ∷ runs) cmds more run are one = are_kept_more runs cmds more run are one
are_kept_more (Batch tag count ∷ runs) cmds more run are one = (
  omega (arith, are.0, length-append cmds more),
  subst (λ (left : List Cmd). AreKept (runs ++ run ∷ []) left) (sym (drop-append-le count cmds more are.0))
      (are_kept_more runs (drop count cmds) more run are.1 one),
)
are_kept_more (Ticks times ∷ runs) cmds more run are one = (are.0, are_kept_more runs cmds more run are.1 one)
are_kept_more (Stop tag ∷ runs) cmds more run are one = are_kept_more runs cmds more run are one

-- one more run that is no batch
pub kept_plain : (runs : List KeptRun) (cmds : List Cmd) (run : KeptRun) → AreKept runs cmds
    → runs_in (runs ++ run ∷ []) cmds ≡ runs_in runs cmds ++ runs_in (run ∷ []) []
kept_plain runs cmds run are = ap (λ (all : List Cmd). runs_in (runs ++ run ∷ []) all) (sym (append-nil cmds)) ∙ kept_more runs cmds [] run are

pub are_kept_plain : (runs : List KeptRun) (cmds : List Cmd) (run : KeptRun) → AreKept runs cmds → AreKept (run ∷ []) []
    → AreKept (runs ++ run ∷ []) cmds
are_kept_plain runs cmds run are one = subst (λ (all : List Cmd). AreKept (runs ++ run ∷ []) all) (append-nil cmds) (are_kept_more runs cmds [] run are one)

-- one more batch
pub batch_kept : (cmds : List Cmd) (count : ℕ) → count ≡ length cmds → (count ≤ length cmds) × (length (drop count cmds) ≡ 0)
batch_kept cmds count many = (omega (arith, many), ap (λ (left : List Cmd). length left) (ap (λ (n : ℕ). drop n cmds) many ∙ drop_all (length cmds) cmds (omega arith)))

pub batch_whole : (cmds : List Cmd) (count : ℕ) → count ≡ length cmds → take count cmds ≡ cmds
batch_whole cmds count many = take_all count cmds (omega (arith, many))

-- each run has its times
pub kept_times : (runs : List KeptRun) (cmds : List Cmd) → AreKept runs cmds → AllByRecursion (λ (run : Run). HasItsTimes run.event run.times) (runs_in runs cmds)
kept_times [] cmds are = tt
kept_times (Do tag cmd ∷ runs) cmds are = (refl, kept_times runs cmds are)
kept_times (Batch tag count ∷ runs) cmds are = (refl, kept_times runs (drop count cmds) are.1)
kept_times (Ticks times ∷ runs) cmds are = (are.0, kept_times runs cmds are.1)
kept_times (Stop tag ∷ runs) cmds are = (refl, kept_times runs cmds are)

-- an empty room has no runs and no commands
pub empty_kept : (runs : List KeptRun) (cmds : List Cmd) → AreKept runs cmds → runs_in runs cmds ≡ [] → (length runs ≡ 0) × (length cmds ≡ 0)
empty_kept [] cmds are none = (refl, are)
empty_kept (Do tag cmd ∷ runs) cmds are none = absurd (cc (none))
empty_kept (Batch tag count ∷ runs) cmds are none = absurd (cc (none))
empty_kept (Ticks times ∷ runs) cmds are none = absurd (cc (none))
empty_kept (Stop tag ∷ runs) cmds are none = absurd (cc (none))
