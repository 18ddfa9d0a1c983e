-- The history of a run is one that its text plays again.
use Rattle.std.proofs.Common.{◌≡◌, ℕ, zero, suc, ◌+◌, ◌-◌, ◌<◌, ◌≤◌, Bool, true, false, cond, List, [], ◌∷◌, ◌++◌, length, refl, sym, ap, subst, ◌∙◌, arith, inl, inr}
use Rattle.std.specs.Prelude.{All, IfSome, Option, None, Some, flat_map}
use Rattle.std.proofs.lemmas.List.Elements.{All-append, All-cons, All-head, All-nil, All-tail}
use mathlib.Core.List.{IsPrefix}
use Rattle.play_types.specs.declared.event.Event.{Event}
use Rattle.play_types.specs.declared.event.Event.TheVariants.{Do, Batch, Tick, Stop}
use Rattle.play_types.specs.declared.event.Tag.{Tag}
use Rattle.play_outside.specs.Fresh.{IsNewSink}
use Rattle.play_outside.specs.ListenerState.{ListenerState}
use Rattle.play_outside.specs.Sink.{Sends}
use Rattle.play_outside.specs.declared.sink.Sent.{Sent}
use Rattle.play_outside.specs.declared.sink.Sent.TheVariants as sent
use Rattle.play_outside.specs.SinkState.{SinkState, more_taken}
use Rattle.play_outside.specs.declared.devices.Devices.{Devices}
use Rattle.clip_format.specs.Table.{media_names}
use Rattle.stage_lock.specs.Calls.{tag_of}
use Rattle.history_model.specs.declared.limits.TheConstants.{MAX_WORKER}
use Rattle.history_model.specs.scripts.History.{Playout, server}
use Rattle.history_replay.specs.Replay.{IsConnection, IsPlayout, IsReplayable, IsWritten, IsWrittenStep, NamesShortClips}
use Rattle.history_replay.proofs.Written.{step-written, steps_are_written}
use Rattle.conn_worker.specs.Explained.{covered}
use Rattle.conn_worker.specs.Followed.{Followed, Service, events_of, given_up_of, steps_in, steps_of, turn_of}
use Rattle.conn_worker.specs.Rounds.{bytes_in}
use Rattle.conn_worker.specs.Work.{LinkRun, service_of}
use Rattle.server_run.specs.Devices.{DeviceStates}
use Rattle.server_run.specs.Doors.{DoorRun, EachDoor, HasServed, IsTagOfLink, last_session}
use Rattle.server_run.specs.Links.{EachFrom, IsExplainedLink, has_tag, tagged}
use Rattle.server_run.specs.Run.{HasRun, IsMadeBy, Program, playout_of, setting_of}
use Rattle.server_run.specs.declared.served.ServeEnd.{ServeEnd}
use Rattle.server_run.proofs.Tags.{same_tag-refl}

-- a new sink that was sent some bytes, without a fault, has taken just these
pub taken_by_new : (written : Sent) (before after : SinkState) (bytes text : List ℕ) → IsNewSink before → written ≡ sent.All → Sends written bytes before after
    → after.taken ≡ Some text → text ≡ bytes
taken_by_new sent.Failed before after bytes text new is sends told = absurd cc
taken_by_new sent.All before after bytes text new is sends told = by_taken before.taken new.0.0 (sym (ap (λ (s : SinkState). s.taken) sends) ∙ told)
  where
    by_taken : (had : Option (List ℕ)) → IfSome had (λ earlier. earlier ≡ []) → more_taken had bytes ≡ Some text → text ≡ bytes
    by_taken None none same = absurd cc
    by_taken (Some earlier) none same =
        let whole : earlier ++ bytes ≡ text = cc same in
        sym whole ∙ ap (λ (l : List ℕ). l ++ bytes) none

-- what holds of a whole list holds of a prefix
All-prefix : {X : Type 0} (P : X → Type 0) (xs ys : List X) → IsPrefix xs ys → All P ys → All P xs
All-prefix P [] ys grows all = All-nil P
All-prefix P (x ∷ xs) ys grows all =
    let whole : All P (x ∷ (xs ++ grows.0)) = subst (All P) (sym grows.1) all in
    All-cons P x xs (All-head P x (xs ++ grows.0) whole) (All-prefix P xs (xs ++ grows.0) (grows.0, refl) (All-tail P x (xs ++ grows.0) whole))

-- what holds of the events of each link, of ticks and of the server's own stop, holds of all events that a run makes
module _ (P : Event → Type 0) where
  first_of : (tag : Tag) (event : Event) (events : List Event) → has_tag tag event ≡ true → All P (tagged tag (event ∷ events)) → P event
  first_of tag event events has all =
      All-head P event (tagged tag events) (subst (λ (b : Bool). All P (cond b (event ∷ tagged tag events) (tagged tag events))) has all)

  rest_of : (tag : Tag) (event : Event) (events : List Event) → All P (tagged tag (event ∷ events)) → All P (tagged tag events)
  rest_of tag event events = by_tag (has_tag tag event)
    where
      by_tag : (b : Bool) → All P (cond b (event ∷ tagged tag events) (tagged tag events)) → All P (tagged tag events)
      by_tag true all = All-tail P event (tagged tag events) all
      by_tag false all = all

  module _ {L : Type 0} (given : List Event) (runs : List (DoorRun L)) (tick : P Tick) (stop : P (Stop server)) where
    event_of : (event : Event) (events : List Event) → IsMadeBy given runs event → ((tag : Tag) → IsTagOfLink given 1 runs tag → All P (tagged tag (event ∷ events))) → P event
    event_of (Do tag cmd) events made each = first_of tag (Do tag cmd) events (same_tag-refl tag) (each tag made)
    event_of (Batch tag cmds) events made each = first_of tag (Batch tag cmds) events (same_tag-refl tag) (each tag made)
    event_of Tick events made each = tick
    event_of (Stop tag) events (inl is) each = subst (λ (t : Tag). P (Stop t)) (sym is) stop
    event_of (Stop tag) events (inr made) each = first_of tag (Stop tag) events (same_tag-refl tag) (each tag made)

    each_event : (history : List Event) → All (IsMadeBy given runs) history → ((tag : Tag) → IsTagOfLink given 1 runs tag → All P (tagged tag history)) → All P history
    each_event [] made each = All-nil P
    each_event (event ∷ events) made each =
        All-cons P event events (event_of event events (All-head (IsMadeBy given runs) event events made) each)
        (each_event events (All-tail (IsMadeBy given runs) event events made) (λ tag of. rest_of tag event events (each tag of)))

-- if steps can be written, so can their events
written_steps : (playout : Playout) (service : Service) (followed : List Followed) → IsConnection service.tag → All (IsWrittenStep playout) (steps_in followed)
    → All (IsWritten playout) (flat_map (events_of service) followed)
written_steps playout service [] named each = All-nil (IsWritten playout)
written_steps playout service (one ∷ more) named each =
    All-append (IsWritten playout) (events_of service one) (flat_map (events_of service) more)
    (step-written playout (turn_of service one) one.step named (All-head (IsWrittenStep playout) one.step (steps_in more) each))
    (written_steps playout service more named (All-tail (IsWrittenStep playout) one.step (steps_in more) each))

-- what holds of each element and its number holds at each place
at_place : {X : Type 0} (Holds : ℕ → X → Type 0) (number k : ℕ) (xs : List X) → EachFrom Holds number xs → k < length xs → (x : X) × Holds (k + number) x
at_place Holds number k [] each less = absurd (omega (arith, less))
at_place Holds number zero (x ∷ xs) each less =
    let same : number ≡ 0 + number = omega arith in
    (x, subst (λ (n : ℕ). Holds n x) same each.0)
at_place Holds number (suc k) (x ∷ xs) each less =
    let found = at_place Holds (suc number) k xs each.1 (omega (arith, less)) in
    let same : k + suc number ≡ suc k + number = omega arith in
    (found.0, subst (λ (n : ℕ). Holds n found.0) same found.1)

at_session : {X : Type 0} (Holds : ℕ → X → Type 0) (earlier session : ℕ) (xs : List X) → EachFrom Holds (earlier + 1) xs → earlier < session → session ≤ earlier + length xs
    → (x : X) × Holds session x
at_session Holds earlier session xs each some few =
    let k = session - (earlier + 1) in
    let found = at_place Holds (earlier + 1) k xs each (omega (arith, some, few)) in
    let same : k + (earlier + 1) ≡ session = omega (arith, some) in
    (found.0, subst (λ (n : ℕ). Holds n found.0) same found.1)

module _ {L : Type 0} (program : Program) (tells : L → SinkState) (digests : Bool) (history : List Event) where
  -- the events of a link
  link_written : (worker session : ℕ) (link_run : LinkRun L) → IsConnection (tag_of worker session)
      → IsExplainedLink (setting_of program tells worker) history session link_run
      → All (IsWritten (playout_of program digests)) (tagged (tag_of worker session) history)
  link_written worker session link_run named is =
      let playout = playout_of program digests in
      let service = service_of (setting_of program tells worker) session in
      let conversation = is.explained.conversation in
      let asked = steps_are_written playout (given_up_of (covered conversation)) (bytes_in conversation.rounds) in
      subst (All (IsWritten playout)) (sym is.explained.events)
      (written_steps playout service (covered conversation) named
      (All-prefix (IsWrittenStep playout) (steps_in (covered conversation)) (steps_of service (covered conversation) (bytes_in conversation.rounds)) is.explained.steps asked))

  -- the events of each tag that a link of a door has
  doors_written : {D : Type 0} (door : D → ListenerState L) (worker : ℕ) (runs : List (DoorRun L)) (olds news : List D)
      → EachDoor (λ worker run before after. HasServed (setting_of program tells worker) history run (door before) (door after)) worker runs olds news
      → 1 ≤ worker → worker + length olds ≤ MAX_WORKER + 1 → (tag : Tag) → IsTagOfLink program.given worker runs tag
      → All (IsWritten (playout_of program digests)) (tagged tag history)
  doors_written door worker [] [] [] each some few tag of = absurd of
  doors_written door worker (run ∷ runs) (old ∷ olds) (new ∷ news) each some few tag (inl of) =
      let earlier : ℕ = last_session worker program.given in
      let above : earlier < tag.session = of.1 in
      let below : tag.session ≤ earlier + length run.links = of.2 in
      let sessions = each.0.few in
      let named : IsConnection (tag_of worker tag.session) =
      record { some_worker = some; worker = omega (arith, few); some_session = omega (arith, above); session = omega (arith, below, sessions) } in
      let link = at_session (IsExplainedLink (setting_of program tells worker) history) earlier tag.session run.links each.0.links above below in
      let same : tag_of worker tag.session ≡ tag = λ i. record { worker = sym of.0 i; session = tag.session } in
      subst (λ (t : Tag). All (IsWritten (playout_of program digests)) (tagged t history)) same (link_written worker tag.session link.0 named link.1)
  doors_written door worker (run ∷ runs) (old ∷ olds) (new ∷ news) each some few tag (inr of) =
      doors_written door (suc worker) runs olds news each.1 (omega arith) (omega (arith, few)) tag of
  doors_written door worker runs olds news each some few tag of = absurd each

module _ {C D O L : Type 0} (words : DeviceStates C D O L) (tells : L → SinkState) (program : Program) (end : ServeEnd) (devices : Devices C D O × Devices C D O)
    (digests : Bool) where
  pub run_replayable : (run : HasRun words tells program end devices) → length devices.0.doors.items ≡ program.config.connections
      → All (NamesShortClips (media_names program.media)) run.history → IsReplayable (playout_of program digests) run.history
  run_replayable run many named =
      let known : IsPlayout (playout_of program digests) = record { config = run.on.config; names = run.on.names; texts = run.on.texts } in
      let limit = known.config.parts.connections in
      let few : 1 + length devices.0.doors.items ≤ MAX_WORKER + 1 = omega (arith, many, limit) in
      record {
        on = known;
        whole = run.whole;
        written = subst (All (IsWritten (playout_of program digests))) (sym run.begins)
            (All-append (IsWritten (playout_of program digests)) program.given run.came (run.on.written digests)
            (each_event (IsWritten (playout_of program digests)) program.given run.runs tt (inl refl) run.came run.made
            (doors_written program tells digests run.came words.door 1 run.runs devices.0.doors.items devices.1.doors.items run.doors (omega arith) few)));
        named = named;
        within = run.within;
      }
