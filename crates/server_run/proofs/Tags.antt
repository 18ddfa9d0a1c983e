-- The events of one connection among those of a worker, and those of a worker in a history.
use Rattle.std.proofs.Common.{◌≡◌, ◌≢◌, ℕ, ◌<◌, ◌==◌, ◌&&◌, Bool, true, false, true≢false, cond, List, [], ◌∷◌, ◌++◌, length, refl, sym, ap, ◌∙◌, arith, eq-eqb, ne_eqb}
use Rattle.std.specs.Prelude.{Some, filter, flat_map}
use Rattle.std.specs.List.{AllByRecursion}
use Rattle.std.proofs.lemmas.Bool.Decides.{nat_tests}
use Rattle.play_types.specs.declared.event.Event.{Event}
use Rattle.play_types.specs.declared.event.Event.TheVariants.{Do, Batch, Tick, Stop}
use Rattle.play_types.specs.declared.event.Tag.{Tag}
use Rattle.history_model.specs.scripts.History.{JournalFull, OutOfMemory, Taken, Verdict, same_tag, step_events, verdict, verdict_events}
use Rattle.history_model.specs.sessions.Session.{Step, Local, Ask, AskBatch, KillServer, EndConnection, Skip}
use Rattle.stage_lock.specs.Own.{is_own, own_by}
use Rattle.stage_lock.specs.Calls.{tag_of}
use Rattle.conn_worker.specs.Followed.{Followed, Service, events_of, turn_of}
use Rattle.server_run.specs.Links.{has_tag, tagged}

-- an event of a connection with this tag
abbrev pub IsTagged : Tag → Event → Type 0
IsTagged tag (Do other cmd) = other ≡ tag
IsTagged tag (Batch other cmds) = other ≡ tag
IsTagged tag Tick = ⊥
IsTagged tag (Stop other) = other ≡ tag

-- the events of a step have the tag of the step's connection
verdict_tagged : (tag : Tag) (event : Event) (told : Verdict) → IsTagged tag event → AllByRecursion (IsTagged tag) (verdict_events event told)
verdict_tagged tag event JournalFull is = tt
verdict_tagged tag event OutOfMemory is = tt
verdict_tagged tag event Taken is = (is, tt)

step_tagged : (service : Service) (one : Followed) (step : Step) → AllByRecursion (IsTagged service.tag) (step_events (turn_of service one) (Some step))
step_tagged service one (Local reply) = tt
step_tagged service one (Ask cmd) = verdict_tagged service.tag (Do service.tag cmd) (verdict (turn_of service one) 1) refl
step_tagged service one (AskBatch cmds) = verdict_tagged service.tag (Batch service.tag cmds) (verdict (turn_of service one) (length cmds)) refl
step_tagged service one KillServer = (refl, tt)
step_tagged service one EndConnection = tt
step_tagged service one Skip = tt

pub all_append : {X : Type 0} (P : X → Type 0) (xs ys : List X) → AllByRecursion P xs → AllByRecursion P ys → AllByRecursion P (xs ++ ys)
all_append P [] ys one other = other
all_append P (x ∷ xs) ys one other = (one.0, all_append P xs ys one.1 other)

pub steps_tagged : (service : Service) (followed : List Followed) → AllByRecursion (IsTagged service.tag) (flat_map (events_of service) followed)
steps_tagged service [] = tt
steps_tagged service (one ∷ more) =
    all_append (IsTagged service.tag) (events_of service one) (flat_map (events_of service) more) (step_tagged service one one.step) (steps_tagged service more)

-- a tag is the same as itself
pub same_tag-refl : (tag : Tag) → same_tag tag tag ≡ true
same_tag-refl tag = rw (eq-eqb tag.worker tag.worker refl, eq-eqb tag.session tag.session refl) refl

tagged_has : (tag : Tag) (event : Event) → IsTagged tag event → has_tag tag event ≡ true
tagged_has tag (Do other cmd) is = ap (λ (t : Tag). same_tag t tag) is ∙ same_tag-refl tag
tagged_has tag (Batch other cmds) is = ap (λ (t : Tag). same_tag t tag) is ∙ same_tag-refl tag
tagged_has tag Tick is = absurd is
tagged_has tag (Stop other) is = ap (λ (t : Tag). same_tag t tag) is ∙ same_tag-refl tag

other_session : (worker one other : ℕ) → one ≢ other → same_tag (tag_of worker one) (tag_of worker other) ≡ false
other_session worker one other differ = rw (eq-eqb worker worker refl, ne_eqb one other differ) refl

other_has : (worker one other : ℕ) (event : Event) → one ≢ other → IsTagged (tag_of worker one) event → has_tag (tag_of worker other) event ≡ false
other_has worker one other (Do tag cmd) differ is = ap (λ (t : Tag). same_tag t (tag_of worker other)) is ∙ other_session worker one other differ
other_has worker one other (Batch tag cmds) differ is = ap (λ (t : Tag). same_tag t (tag_of worker other)) is ∙ other_session worker one other differ
other_has worker one other Tick differ is = absurd is
other_has worker one other (Stop tag) differ is = ap (λ (t : Tag). same_tag t (tag_of worker other)) is ∙ other_session worker one other differ

-- of events with this tag all are picked
pub picks_all : (tag : Tag) (events : List Event) → AllByRecursion (IsTagged tag) events → filter (has_tag tag) events ≡ events
picks_all tag [] all = refl
picks_all tag (event ∷ events) all =
    ap (λ (b : Bool). cond b (event ∷ filter (has_tag tag) events) (filter (has_tag tag) events)) (tagged_has tag event all.0)
    ∙ ap (λ (es : List Event). event ∷ es) (picks_all tag events all.1)

-- of events with another session none is
pub picks_none : (worker one other : ℕ) (events : List Event) → one ≢ other → AllByRecursion (IsTagged (tag_of worker one)) events
    → filter (has_tag (tag_of worker other)) events ≡ []
picks_none worker one other [] differ all = refl
picks_none worker one other (event ∷ events) differ all =
    ap (λ (b : Bool). cond b (event ∷ filter (has_tag (tag_of worker other)) events) (filter (has_tag (tag_of worker other)) events))
    (other_has worker one other event differ all.0)
    ∙ picks_none worker one other events differ all.1

-- an event of a worker's connection is the worker's own
same_worker : (tag : Tag) (worker session : ℕ) → same_tag tag (tag_of worker session) ≡ true → (tag.worker == worker) ≡ true
same_worker tag worker session same = go (tag.worker == worker) refl same
  where
    go : (b : Bool) → (tag.worker == worker) ≡ b → (b && (tag.session == session)) ≡ true → b ≡ true
    go true is h = refl
    go false is h = absurd cc

some_session : (tag : Tag) (worker session : ℕ) → 0 < session → same_tag tag (tag_of worker session) ≡ true → ((tag.worker == 0) && (tag.session == 0)) ≡ false
some_session tag worker session some same = go (tag.worker == worker) same
  where
    not_none : (tag.session == session) ≡ true → (tag.session == 0) ≡ false
    not_none is = ne_eqb tag.session 0 (λ none. let at : tag.session ≡ session = grind (arith, nat_tests) in omega (arith, some, none, at))

    last : (b : Bool) → (tag.session == 0) ≡ false → (b && (tag.session == 0)) ≡ false
    last true is = is
    last false is = refl

    go : (b : Bool) → (b && (tag.session == session)) ≡ true → ((tag.worker == 0) && (tag.session == 0)) ≡ false
    go true h = last (tag.worker == 0) (not_none h)
    go false h = absurd cc

own_of_tag : (worker session : ℕ) (event : Event) → 0 < session → has_tag (tag_of worker session) event ≡ true → is_own worker event ≡ true
own_of_tag worker session (Do tag cmd) some has = same_worker tag worker session has
own_of_tag worker session (Batch tag cmds) some has = same_worker tag worker session has
own_of_tag worker session Tick some has = absurd cc
own_of_tag worker session (Stop tag) some has =
    ap (λ (b : Bool). cond b false (tag.worker == worker)) (some_session tag worker session some has) ∙ same_worker tag worker session has

-- the events of a connection are among those of its worker
pub tagged_own : (worker session : ℕ) (history : List Event) → 0 < session
    → tagged (tag_of worker session) history ≡ filter (has_tag (tag_of worker session)) (own_by worker history)
tagged_own worker session [] some = refl
tagged_own worker session (event ∷ events) some =
    go (tagged_own worker session events some) (has_tag (tag_of worker session) event) refl (is_own worker event) refl
  where
    tag : Tag
    tag = tag_of worker session

    go : tagged tag events ≡ filter (has_tag tag) (own_by worker events) → (b : Bool) → has_tag tag event ≡ b → (c : Bool) → is_own worker event ≡ c
        → cond b (event ∷ tagged tag events) (tagged tag events)
        ≡ filter (has_tag tag) (cond c (event ∷ own_by worker events) (own_by worker events))
    go rest true has true own =
        ap (λ (es : List Event). event ∷ es) rest
        ∙ sym (ap (λ (x : Bool). cond x (event ∷ filter (has_tag tag) (own_by worker events)) (filter (has_tag tag) (own_by worker events))) has)
    go rest true has false own = absurd (true≢false (sym (own_of_tag worker session event some has) ∙ own))
    go rest false has true own =
        rest ∙ sym (ap (λ (x : Bool). cond x (event ∷ filter (has_tag tag) (own_by worker events)) (filter (has_tag tag) (own_by worker events))) has)
    go rest false has false own = rest
