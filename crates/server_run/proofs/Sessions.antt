-- The last sessions that the events before a run name.
use Rattle.std.proofs.Common.{◌≡◌, ℕ, zero, suc, ◌+◌, ◌<◌, ◌==◌, ◌&&◌, max, cond, if◌then◌else◌, Bool, true, false, List, [], ◌∷◌, ◌++◌, replicate, flat_map, refl, sym, ap, subst, ◌∙◌, arith, inl, inr, ne_eqb}
use Rattle.std.specs.List.{AllByRecursion}
use Rattle.std.proofs.lemmas.List.{map-append}
use Rattle.play_types.specs.declared.event.Event.{Event}
use Rattle.play_types.specs.declared.event.Event.TheVariants.{Do, Batch, Tick, Stop}
use Rattle.play_types.specs.declared.event.Tag.{Tag}
use Rattle.play_journal.specs.Runs.{AreRuns, HasItsTimes, Run, events_of}
use Rattle.history_model.specs.scripts.History.{same_tag}
use Rattle.server_run.specs.Doors.{DoorRun, IsTagOfLink, last_session, session_by}
use Rattle.server_run.specs.Links.{has_tag, tagged}
use Rattle.server_run.specs.inner.Threads.{counts_of, sessions_in}
use Rattle.server_run.specs.declared.worker_session.WorkerSession.{WorkerSession}
use Rattle.server_run.proofs.WorkerPasses.{mapped_last}

max_assoc : (a b c : ℕ) → max a (max b c) ≡ max (max a b) c
max_assoc a b c = omega arith

max_first_zero : (n : ℕ) → n ≡ max 0 n
max_first_zero n = omega arith

max_last_zero : (n : ℕ) → max n 0 ≡ n
max_last_zero n = omega arith

max_middle_zero : (a b : ℕ) → max a b ≡ max (max a 0) b
max_middle_zero a b = omega arith

max_left_below : (a b n : ℕ) → max a b < n → a < n
max_left_below a b n below = omega (arith, below)

max_right_below : (a b n : ℕ) → max a b < n → b < n
max_right_below a b n below = omega (arith, below)

-- ticks name no session
ticks_name_none : (worker times : ℕ) (later : List Event) → last_session worker (replicate times Tick ++ later) ≡ last_session worker later
ticks_name_none worker zero later = refl
ticks_name_none worker (suc times) later = ticks_name_none worker times later

-- an event that happened its times names the session that it names once
session_of_times : (worker : ℕ) (event : Event) (times : ℕ) (later : List Event) → HasItsTimes event times
    → last_session worker (replicate times event ++ later) ≡ max (last_session worker (event ∷ [])) (last_session worker later)
session_of_times worker (Do tag cmd) times later one =
    subst (λ (n : ℕ). last_session worker (replicate n (Do tag cmd) ++ later) ≡ max (max (session_by worker tag) 0) (last_session worker later)) (sym one)
    (max_middle_zero (session_by worker tag) (last_session worker later))
session_of_times worker (Batch tag cmds) times later one =
    subst (λ (n : ℕ). last_session worker (replicate n (Batch tag cmds) ++ later) ≡ max (max (session_by worker tag) 0) (last_session worker later)) (sym one)
    (max_middle_zero (session_by worker tag) (last_session worker later))
session_of_times worker Tick times later some = ticks_name_none worker times later ∙ max_first_zero (last_session worker later)
session_of_times worker (Stop tag) times later one =
    subst (λ (n : ℕ). last_session worker (replicate n (Stop tag) ++ later) ≡ max (max (session_by worker tag) 0) (last_session worker later)) (sym one)
    (max_middle_zero (session_by worker tag) (last_session worker later))

-- the last session of a worker in some events is `last`, or that in the runs that are left of them if it is greater
pub record IsCounted (worker : ℕ) (events : List Event) (last : ℕ) (runs : List Run) : Type 0 where
  pub all : last_session worker events ≡ max last (last_session worker (flat_map events_of runs))
  pub times : AllByRecursion (λ (run : Run). HasItsTimes run.event run.times) runs

pub none_counted : (worker : ℕ) (events : List Event) (runs : List Run) → AreRuns runs events → IsCounted worker events 0 runs
none_counted worker events runs are = record {
  all = sym (ap (last_session worker) are.whole) ∙ max_first_zero (last_session worker (flat_map events_of runs));
  times = are.times;
}

pub one_counted : (worker : ℕ) (events : List Event) (last next : ℕ) (run : Run) (runs : List Run) → IsCounted worker events last (run ∷ runs)
    → next ≡ max last (last_session worker (run.event ∷ [])) → IsCounted worker events next runs
one_counted worker events last next run runs counted is =
    let later : List Event = flat_map events_of runs in
    record {
      all =
          counted.all
          ∙ ap (λ (n : ℕ). max last n) (session_of_times worker run.event run.times later counted.times.0)
          ∙ max_assoc last (last_session worker (run.event ∷ [])) (last_session worker later)
          ∙ ap (λ (n : ℕ). max n (last_session worker later)) (sym is);
      times = counted.times.1;
    }

pub all_counted : (worker : ℕ) (events : List Event) (last : ℕ) → IsCounted worker events last [] → last ≡ last_session worker events
all_counted worker events last counted = sym (counted.all ∙ max_last_zero last)

-- the sessions of one more worker
pub one_session_more : (events : List Event) (count : ℕ) (sessions more : List WorkerSession) (session : WorkerSession) → counts_of sessions ≡ sessions_in events count
    → more ≡ sessions ++ session ∷ [] → session.served ≡ last_session (count + 1) events → counts_of more ≡ sessions_in events (count + 1)
one_session_more events count sessions more session same is served =
    let next : suc count ≡ count + 1 = omega arith in
    let number : 1 + count ≡ count + 1 = omega arith in
    ap counts_of is ∙ map-append (λ (s : WorkerSession). s.served) sessions (session ∷ [])
    ∙ ap (λ (ns : List ℕ). ns ++ session.served ∷ []) same
    ∙ ap (λ (n : ℕ). sessions_in events count ++ n ∷ []) (served ∙ ap (λ (n : ℕ). last_session n events) (sym number))
    ∙ sym (mapped_last (λ (worker : ℕ). last_session worker events) 1 count)
    ∙ ap (sessions_in events) next

and_false : (b : Bool) → (b && false) ≡ false
and_false true = refl
and_false false = refl

-- a tag whose session is above that of another tag, if that has the same worker, is not the same
other_tag : (worker : ℕ) (other tag : Tag) → tag.worker ≡ worker → session_by worker other < tag.session → same_tag other tag ≡ false
other_tag worker other tag is less = go (other.worker == worker) refl less
  where
    differs : other.session < tag.session → other.session ≡ tag.session → ⊥
    differs below same = omega (arith, same, below)

    go : (b : Bool) → (other.worker == worker) ≡ b → (if b then other.session else 0) < tag.session → same_tag other tag ≡ false
    go true same below =
        ap (λ (s : Bool). (other.worker == tag.worker) && s) (ne_eqb other.session tag.session (differs below))
        ∙ and_false (other.worker == tag.worker)
    go false other_worker below =
        ap (λ (n : ℕ). (other.worker == n) && (other.session == tag.session)) is
        ∙ ap (λ (b : Bool). b && (other.session == tag.session)) other_worker

-- one more event before
none_before : (worker : ℕ) (event : Event) (other tag : Tag) (events : List Event) → has_tag tag event ≡ same_tag other tag → tag.worker ≡ worker
    → max (session_by worker other) (last_session worker events) < tag.session → (last_session worker events < tag.session → tagged tag events ≡ [])
    → tagged tag (event ∷ events) ≡ []
none_before worker event other tag events has is above rest =
    let low : session_by worker other < tag.session = max_left_below (session_by worker other) (last_session worker events) tag.session above in
    ap (λ (b : Bool). cond b (event ∷ tagged tag events) (tagged tag events)) (has ∙ other_tag worker other tag is low)
    ∙ rest (max_right_below (session_by worker other) (last_session worker events) tag.session above)

-- a tag whose session is above the last one of its worker is that of no event
none_tagged : (worker : ℕ) (given : List Event) (tag : Tag) → tag.worker ≡ worker → last_session worker given < tag.session → tagged tag given ≡ []
none_tagged worker [] tag is above = refl
none_tagged worker (Do other cmd ∷ events) tag is above = none_before worker (Do other cmd) other tag events refl is above (none_tagged worker events tag is)
none_tagged worker (Batch other cmds ∷ events) tag is above = none_before worker (Batch other cmds) other tag events refl is above (none_tagged worker events tag is)
none_tagged worker (Tick ∷ events) tag is above = none_tagged worker events tag is above
none_tagged worker (Stop other ∷ events) tag is above = none_before worker (Stop other) other tag events refl is above (none_tagged worker events tag is)

-- a tag of a link is that of no event before the run
pub link_tags_new : {L : Type 0} (given : List Event) (worker : ℕ) (runs : List (DoorRun L)) (tag : Tag) → IsTagOfLink given worker runs tag → tagged tag given ≡ []
link_tags_new given worker [] tag of = absurd of
link_tags_new given worker (run ∷ runs) tag (inl of) = none_tagged worker given tag of.0 of.1
link_tags_new given worker (run ∷ runs) tag (inr of) = link_tags_new given (suc worker) runs tag of
