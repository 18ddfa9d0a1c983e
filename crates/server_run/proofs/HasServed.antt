-- A run, once the stage was closed.
use Rattle.std.proofs.Common.{◌≡◌, ℕ, zero, suc, ◌+◌, ◌<◌, ◌≤◌, ◌||◌, Bool, true, false, true≢false, cond, List, [], ◌∷◌, length, refl, sym, ap, subst, ◌∙◌, arith, inl, inr}
use Rattle.std.specs.List.{AllByRecursion, list_any}
use mathlib.Core.Option.{some, some-injective, some-ne-none}
use lib.ListN.{get_elem?}
use Rattle.play_types.specs.declared.event.Event.{Event}
use Rattle.play_types.specs.declared.event.Event.TheVariants.{Do, Batch, Tick, Stop}
use Rattle.play_types.specs.declared.event.Tag.{Tag}
use Rattle.stage_lock.specs.Own.{is_own, own_by}
use Rattle.stage_lock.specs.Views.{PassView}
use Rattle.stage_lock.specs.Calls.{tag_of}
use Rattle.stage_lock.specs.Closing.{IsOf}
use Rattle.conn_worker.specs.Explained.{covered}
use Rattle.conn_worker.specs.Work.{HasWorkedFrom, Setting, service_of}
use Rattle.conn_worker.specs.Server.{setting_in}
use Rattle.conn_worker.specs.declared.server.Server.{Server}
use Rattle.conn_worker.specs.declared.work_end.WorkEnd.{WorkEnd}
use Rattle.server_run.specs.Doors.{DoorRun, EachDoor, HasServed, IsTagOfLink, is_door_fault, last_session, served_before}
use Rattle.server_run.specs.Links.{EachFrom}
use Rattle.server_run.specs.inner.Workers.{DoorStates}
use Rattle.server_run.proofs.HasWorkedAt.{EachPlace}
use Rattle.server_run.proofs.Tags.{IsTagged, all_append, steps_tagged}
use Rattle.server_run.proofs.HasWorked.{Link, events_from, link_events, link_runs_in}
use Rattle.server_run.proofs.IsExplainedLink.{IsNewPass, ServedBy, length_link_runs, served_by}

-- an event of a link of this worker, whose session is above the one number and below the other
abbrev IsOfSession : ℕ → ℕ → ℕ → Event → Type 0
IsOfSession worker least most (Do tag cmd) = (tag.worker ≡ worker) × (least < tag.session) × (tag.session < most)
IsOfSession worker least most (Batch tag cmds) = (tag.worker ≡ worker) × (least < tag.session) × (tag.session < most)
IsOfSession worker least most Tick = ⊥
IsOfSession worker least most (Stop tag) = (tag.worker ≡ worker) × (least < tag.session) × (tag.session < most)

session_of : (worker session least most : ℕ) (event : Event) → least < session → session < most → IsTagged (tag_of worker session) event → IsOfSession worker least most event
session_of worker session least most (Do tag cmd) above less is = (ap (λ (t : Tag). t.worker) is, subst (λ (n : ℕ). least < n) (sym (ap (λ (t : Tag). t.session) is)) above, subst (λ (n : ℕ). n < most) (sym (ap (λ (t : Tag). t.session) is)) less)
session_of worker session least most (Batch tag cmds) above less is = (ap (λ (t : Tag). t.worker) is, subst (λ (n : ℕ). least < n) (sym (ap (λ (t : Tag). t.session) is)) above, subst (λ (n : ℕ). n < most) (sym (ap (λ (t : Tag). t.session) is)) less)
session_of worker session least most Tick above less is = absurd is
session_of worker session least most (Stop tag) above less is = (ap (λ (t : Tag). t.worker) is, subst (λ (n : ℕ). least < n) (sym (ap (λ (t : Tag). t.session) is)) above, subst (λ (n : ℕ). n < most) (sym (ap (λ (t : Tag). t.session) is)) less)

all_then : {X : Type 0} (P Q : X → Type 0) (xs : List X) → ((x : X) → P x → Q x) → AllByRecursion P xs → AllByRecursion Q xs
all_then P Q [] f all = tt
all_then P Q (x ∷ xs) f all = (f x all.0, all_then P Q xs f all.1)

-- what holds of all own events of a worker holds of each event that is its own
own_at : (P : Event → Type 0) (worker : ℕ) (history : List Event) (k : ℕ) (event : Event) → get_elem? history k ≡ some event → is_own worker event ≡ true
    → AllByRecursion P (own_by worker history) → P event
own_at P worker [] k event at own all = absurd (some-ne-none event (sym at))
own_at P worker (x ∷ xs) zero event at own all =
    let is : x ≡ event = some-injective x event at in
    let mine : is_own worker x ≡ true = ap (is_own worker) is ∙ own in
    let whole : AllByRecursion P (x ∷ own_by worker xs) = subst (λ (b : Bool). AllByRecursion P (cond b (x ∷ own_by worker xs) (own_by worker xs))) mine all in
    subst P is whole.0
own_at P worker (x ∷ xs) (suc k) event at own all = own_at P worker xs k event at own (rest (is_own worker x) all)
  where
    rest : (b : Bool) → AllByRecursion P (cond b (x ∷ own_by worker xs) (own_by worker xs)) → AllByRecursion P (own_by worker xs)
    rest true h = h.1
    rest false h = h

or_left : (a b : Bool) → a ≡ true → (a || b) ≡ true
or_left true b h = refl
or_left false b h = absurd (true≢false (sym h))

or_right : (a b : Bool) → b ≡ true → (a || b) ≡ true
or_right true b h = refl
or_right false b h = h

fault_of : (end : WorkEnd) (ends : Bool) → (is_door_fault end ≡ false → ends ≡ false) → ends ≡ true → is_door_fault end ≡ true
fault_of end ends fine is = go (is_door_fault end) refl
  where
    go : (b : Bool) → is_door_fault end ≡ b → is_door_fault end ≡ true
    go true h = h
    go false h = absurd (true≢false (sym is ∙ fine h))

module _ {L : Type 0} where
  sessions : (setting : Setting L) (number least most : ℕ) (xs : List (Link L)) → least < number → number + length xs ≤ most
      → AllByRecursion (IsOfSession setting.worker least most) (events_from setting number xs)
  sessions setting number least most [] above few = tt
  sessions setting number least most (x ∷ xs) above few =
      all_append (IsOfSession setting.worker least most) (link_events setting number x) (events_from setting (suc number) xs)
      (all_then (IsTagged (tag_of setting.worker number)) (IsOfSession setting.worker least most) (link_events setting number x)
      (λ (event : Event) is. session_of setting.worker number least most event above (omega (arith, few)) is)
      (steps_tagged (service_of setting number) (covered x.conversation)))
      (sessions setting (suc number) least most xs (omega (arith, above)) (omega (arith, few)))

  -- an event is of a link that one of these doors was given back in a run after the given events
  abbrev pub IsOfLinks : List Event → ℕ → List (DoorRun L) → Event → Type 0
  IsOfLinks given worker runs (Do tag cmd) = IsTagOfLink given worker runs tag
  IsOfLinks given worker runs (Batch tag cmds) = IsTagOfLink given worker runs tag
  IsOfLinks given worker runs Tick = ⊥
  IsOfLinks given worker runs (Stop tag) = IsTagOfLink given worker runs tag

  of_first : (given : List Event) (worker : ℕ) (run : DoorRun L) (runs : List (DoorRun L)) (most : ℕ) (event : Event) → most ≡ (last_session worker given + 1) + length run.links
      → IsOfSession worker (last_session worker given) most event → IsOfLinks given worker (run ∷ runs) event
  of_first given worker run runs most (Do tag cmd) is h = inl (h.0, h.1, (let less = h.2 in omega (arith, less, is)))
  of_first given worker run runs most (Batch tag cmds) is h = inl (h.0, h.1, (let less = h.2 in omega (arith, less, is)))
  of_first given worker run runs most Tick is h = absurd h
  of_first given worker run runs most (Stop tag) is h = inl (h.0, h.1, (let less = h.2 in omega (arith, less, is)))

  of_rest : (given : List Event) (worker : ℕ) (run : DoorRun L) (runs : List (DoorRun L)) (event : Event) → IsOfLinks given (suc worker) runs event → IsOfLinks given worker (run ∷ runs) event
  of_rest given worker run runs (Do tag cmd) h = inr h
  of_rest given worker run runs (Batch tag cmds) h = inr h
  of_rest given worker run runs Tick h = absurd h
  of_rest given worker run runs (Stop tag) h = inr h

  abbrev pub is_faulty : DoorRun L → Bool
  is_faulty run = is_door_fault run.end

  -- the work at all doors, from that of this worker on, by the events of the run
  pub record DoorsServed {D : Type 0} (states : DoorStates D L) (server : Server) (history : List Event) (worker : ℕ) (places : List D × List PassView × List WorkEnd × List D) : Type 0 where
    pub runs : List (DoorRun L)
    pub each : EachDoor (λ number run before after. HasServed (setting_in server number states.line) history run (states.door before) (states.door after)) worker runs places.0 places.3
    pub own : (j : ℕ) (pass : PassView) → get_elem? places.1 j ≡ some pass → (k : ℕ) (event : Event) → get_elem? history k ≡ some event
        → is_own pass.number event ≡ true → IsOfLinks server.stage.now.sizes.given worker runs event
    pub ends : (j : ℕ) (pass : PassView) → get_elem? places.1 j ≡ some pass → pass.ends ≡ true → list_any is_faulty runs ≡ true
    pub faults : list_any is_faulty runs ≡ list_any is_door_fault places.2

  module _ {D : Type 0} (states : DoorStates D L) (server : Server) (history : List Event) (count : ℕ) where
    abbrev given : List Event
    given = server.stage.now.sizes.given

    pub doors_served : (worker : ℕ) (befores : List PassView) (olds : List D) (afters : List PassView) (ended : List WorkEnd) (news : List D)
        → EachFrom IsNewPass worker befores → EachPlace states server befores olds afters ended news
        → ((j : ℕ) (pass : PassView) → get_elem? afters j ≡ some pass → IsOf history count pass)
        → DoorsServed states server history worker (olds, afters, ended, news)
    doors_served worker [] [] [] [] [] new each of = record {
      runs = [];
      each = tt;
      own = λ j pass at. absurd (some-ne-none pass (sym at));
      ends = λ j pass at. absurd (some-ne-none pass (sym at));
      faults = refl;
    }
    doors_served worker (before ∷ befores) (old ∷ olds) (after ∷ afters) (end ∷ ended) (new ∷ news) news_pass each of =
        let setting : Setting L = setting_in server worker states.line in
        let earlier : ℕ = last_session worker given in
        let first : ℕ = earlier + 1 in
        let worked = subst
        (λ (n : ℕ). HasWorkedFrom (setting_in server n states.line) (served_before (setting_in server n states.line)) end (record { pass = before; door = states.door old }) (record { pass = after; door = states.door new }))
        news_pass.0.number_is each.0.worked in
        let one : ServedBy setting history end (record { pass = before; door = states.door old }) (record { pass = after; door = states.door new }) =
        served_by setting history count end (record { pass = before; door = states.door old }) (record { pass = after; door = states.door new }) news_pass.0 (of 0 after refl) worked in
        let rest = doors_served (suc worker) befores olds afters ended news news_pass.1 each.1 (λ j pass at. of (suc j) pass at) in
        let run : DoorRun L = record { links = link_runs_in one.links; end = end } in
        let most : first + length one.links ≡ first + length run.links = ap (λ (n : ℕ). first + n) (sym (length_link_runs one.links)) in
        let all : AllByRecursion (IsOfSession worker earlier (first + length one.links)) (own_by worker history) =
        subst (AllByRecursion (IsOfSession worker earlier (first + length one.links))) (sym one.own) (sessions setting first earlier (first + length one.links) one.links (omega arith) (omega arith)) in
        let mine : (k : ℕ) (event : Event) → get_elem? history k ≡ some event → is_own after.number event ≡ true → IsOfLinks given worker (run ∷ rest.runs) event =
        λ k event at own. of_first given worker run rest.runs (first + length one.links) event most
        (own_at (IsOfSession worker earlier (first + length one.links)) worker history k event at (ap (λ (n : ℕ). is_own n event) (sym one.number) ∙ own) all) in
        record {
          runs = run ∷ rest.runs;
          each = (one.served, rest.each);
          own = own_of run rest.runs mine rest.own;
          ends = ends_of run rest.runs (fault_of end after.ends one.ends) rest.ends;
          faults = ap (λ (b : Bool). is_door_fault end || b) rest.faults;
        }
      where
        own_of : (run : DoorRun L) (runs : List (DoorRun L))
            → ((k : ℕ) (event : Event) → get_elem? history k ≡ some event → is_own after.number event ≡ true → IsOfLinks given worker (run ∷ runs) event)
            → ((j : ℕ) (pass : PassView) → get_elem? afters j ≡ some pass → (k : ℕ) (event : Event) → get_elem? history k ≡ some event → is_own pass.number event ≡ true → IsOfLinks given (suc worker) runs event)
            → (j : ℕ) (pass : PassView) → get_elem? (after ∷ afters) j ≡ some pass → (k : ℕ) (event : Event) → get_elem? history k ≡ some event → is_own pass.number event ≡ true → IsOfLinks given worker (run ∷ runs) event
        own_of run runs mine others zero pass at k event here own =
            mine k event here (ap (λ (p : PassView). is_own p.number event) (some-injective after pass at) ∙ own)
        own_of run runs mine others (suc j) pass at k event here own = of_rest given worker run runs event (others j pass at k event here own)

        ends_of : (run : DoorRun L) (runs : List (DoorRun L)) → (after.ends ≡ true → is_door_fault run.end ≡ true)
            → ((j : ℕ) (pass : PassView) → get_elem? afters j ≡ some pass → pass.ends ≡ true → list_any is_faulty runs ≡ true)
            → (j : ℕ) (pass : PassView) → get_elem? (after ∷ afters) j ≡ some pass → pass.ends ≡ true → list_any is_faulty (run ∷ runs) ≡ true
        ends_of run runs mine others zero pass at ends =
            or_left (is_door_fault run.end) (list_any is_faulty runs) (mine (ap (λ (p : PassView). p.ends) (some-injective after pass at) ∙ ends))
        ends_of run runs mine others (suc j) pass at ends = or_right (is_door_fault run.end) (list_any is_faulty runs) (others j pass at ends)
    doors_served worker befores olds afters ended news new each of = absurd each
