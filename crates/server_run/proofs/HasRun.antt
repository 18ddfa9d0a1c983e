-- A run by its one history, from what its threads did.
use Rattle.std.proofs.Common.{◌≡◌, ◌⊎◌, ℕ, zero, suc, ◌+◌, ◌<◌, ◌≤◌, ◌||◌, Bool, true, false, true≢false, List, [], ◌∷◌, ◌++◌, length, map, reverse, refl, sym, ap, subst, ◌∙◌, arith, inl, inr}
use Rattle.std.specs.Prelude.{All, Some, slice_index_or}
use Rattle.std.specs.List.{list_any, range_with_len}
use mathlib.Core.Option.{some, some-injective, some-ne-none}
use mathlib.Core.List.{IsPrefix}
use lib.ListN.{get_elem?}
use Rattle.play_types.specs.History.{IsHistory, held, stop_at, ticks}
use Rattle.play_types.specs.declared.event.Event.{Event}
use Rattle.play_types.specs.declared.event.Event.TheVariants.{Do, Batch, Tick, Stop}
use Rattle.play_types.specs.declared.event.Tag.{Tag}
use Rattle.play_outside.specs.SinkState.{SinkState}
use Rattle.play_outside.specs.Sink.{Sends}
use Rattle.play_outside.specs.declared.devices.Devices.{Devices}
use Rattle.play_outside.specs.declared.sink.Sent.{Sent}
use Rattle.clip_format.specs.Table.{media_names}
use Rattle.history_model.specs.pictures.Media.{Setup}
use Rattle.history_model.specs.text.History.{history_text}
use Rattle.history_log.specs.Log.{KeepsLog}
use Rattle.play_journal.specs.Journal.{IsJournal, JournalView}
use Rattle.stage_lock.specs.Own.{has_final, is_final, is_own, made_by}
use Rattle.stage_lock.specs.Views.{PassView, SharedView}
use Rattle.stage_lock.specs.Calls.{new_pass}
use Rattle.stage_lock.specs.Closing.{Closes, IsOf}
use Rattle.stage_lock.proofs.Positions.{positions-are}
use Rattle.conn_worker.specs.Server.{setting_in}
use Rattle.conn_worker.specs.Work.{Setting}
use Rattle.conn_worker.specs.declared.server.Server.{Server}
use Rattle.conn_worker.specs.declared.work_end.WorkEnd.{WorkEnd}
use Rattle.play_ticker.specs.Ends.{EndsPass, Meets, clock_at_end}
use Rattle.play_ticker.specs.Frames.{is_tick, tick_positions}
use Rattle.play_ticker.specs.Outputs.{AreWritten}
use Rattle.play_ticker.specs.declared.ending.TickEnd.{TickEnd}
use Rattle.play_ticker.specs.declared.ending.TickEnd.TheVariants.{ClockClosed, Ended, TicksOver, ClockFault, OutFault}
use Rattle.play_ticker.proofs.Frames.{GoesOn, goes_on_by_ticks, ticks-quiet}
use Rattle.server_run.specs.Devices.{DeviceStates}
use Rattle.server_run.specs.Doors.{DoorRun, EachDoor, HasServed, is_door_fault}
use Rattle.server_run.specs.Links.{EachFrom}
use Rattle.server_run.specs.Run.{EndsWithStop, HasRun, IsMadeBy, IsProgram, IsStoppedBy, Program, Serves, TicksEndBy, ends_so, is_cut, is_found, is_tick_fault, setting_of, setup_of}
use Rattle.server_run.specs.Log.{IsLogged}
use Rattle.server_run.specs.inner.Threads.{HasNewPasses, HoldsDevices, RanBeside, log_pass, passes_back, ticker_pass, ticker_states, worker_passes}
use Rattle.server_run.specs.inner.Workers.{HasWorkedAt, door_states, doors_of, ends_of, passes_of}
use Rattle.server_run.specs.declared.connection_workers.ConnectionWorker.{ConnectionWorker}
use Rattle.server_run.specs.declared.run_threads.RunThreads.{RunThreads}
use Rattle.server_run.specs.declared.served.ServeEnd.{ServeEnd}
use Rattle.server_run.proofs.HasWorkedAt.{EachPlace, each_place}
use Rattle.server_run.proofs.IsLogged.{logged_whole}
use Rattle.server_run.proofs.Reverse.{all_zip_reverse, any_reversed}
use Rattle.server_run.proofs.EndsWithStop.{ends_with_stop, has_final_last, history_after, same_server, seen_stop, stop_after, ticks_end, written_later}
use Rattle.server_run.proofs.IsExplainedLink.{IsNewPass, prefix_after, stop_stays}
use Rattle.server_run.proofs.HasServed.{DoorsServed, IsOfLinks, doors_served, is_faulty}

each_door : {L D : Type 0} (P Q : ℕ → DoorRun L → D → D → Type 0) (worker : ℕ) (runs : List (DoorRun L)) (olds news : List D)
    → ((worker : ℕ) (run : DoorRun L) (old new : D) → P worker run old new → Q worker run old new)
    → EachDoor P worker runs olds news → EachDoor Q worker runs olds news
each_door P Q worker [] [] [] f each = tt
each_door P Q worker (run ∷ runs) (old ∷ olds) (new ∷ news) f each = (f worker run old new each.0, each_door P Q (suc worker) runs olds news f each.1)
each_door P Q worker runs olds news f each = absurd each

-- the passes of the workers are new and are numbered
new_workers : (stage : SharedView) (number count : ℕ) → EachFrom IsNewPass number (map (new_pass stage) (range_with_len number count))
new_workers stage number zero = tt
new_workers stage number (suc count) =
    let next : number + 1 ≡ suc number = omega arith in (
      record { number_is = refl; seen = refl; made = refl; ends = refl },
      subst (λ (n : ℕ). EachFrom (IsNewPass) n (map (new_pass stage) (range_with_len (number + 1) count))) next (new_workers stage (number + 1) count),
    )

at_index : {X : Type 0} (xs : List X) (k : ℕ) (d : X) → k < length xs → get_elem? xs k ≡ some (slice_index_or xs k d)
at_index [] k d less = absurd (omega (arith, less))
at_index (x ∷ xs) zero d less = refl
at_index (x ∷ xs) (suc k) d less = at_index xs k d (omega (arith, less))

at_index_of : (xs ys : List Event) (k : ℕ) (event : Event) → IsPrefix xs ys → get_elem? xs k ≡ some event → get_elem? ys k ≡ some event
at_index_of [] ys k event p h = absurd (some-ne-none event (sym h))
at_index_of (x ∷ xs) [] k event p h = absurd (cc (p.1))
at_index_of (x ∷ xs) (y ∷ ys) zero event p h = cc (p.1, h)
at_index_of (x ∷ xs) (y ∷ ys) (suc k) event p h = at_index_of xs ys k event (p.0, cc (p.1)) h

-- what is known when all threads have ended, the stage was closed and the text was written
pub record Closed {C D O L : Type 0} (states : DeviceStates C D O L) (tells : L → SinkState) (program : Program) (server : Server) (run : TickEnd × (Sent × Sent) × Devices C D O × Devices C D O) : Type 0 where
  pub after : List PassView
  pub keeper : PassView
  pub first : PassView
  pub others : List PassView
  pub passes : after ≡ keeper ∷ first ∷ others
  pub ended : List WorkEnd
  pub journal : JournalView
  pub on : IsProgram program
  pub config : server.config.now ≡ program.config
  pub names : server.media.now ≡ media_names program.media
  pub channels : server.stage.now.sizes.channels ≡ length program.config.channels
  pub begun : server.stage.now.sizes.given ≡ program.given
  pub setup : Setup
  pub setup_is : setup ≡ setup_of program
  pub of : first.stage ≡ server.stage.now
  pub number : first.number ≡ 0
  pub made : first.made ≡ tick_positions first.seen
  pub outs : AreWritten states.out run.0 (record { setup = setup; given = program.given; history = first.seen }) run.2.outs.items run.3.outs.items
  pub met : TickEnd
  pub meets : Meets first.stage.sizes.channels run.0 met
  pub clock : states.clock run.3.clock ≡ clock_at_end met (ticks first.seen) (states.clock run.2.clock)
  pub tick_end : EndsPass program.given met (ticker_pass server.stage.now) first
  pub worked : EachPlace (door_states states.door tells) server (worker_passes server.stage.now (length run.2.doors.items)) run.2.doors.items others ended run.3.doors.items
  pub came : List Event
  pub begins : journal.events ≡ program.given ++ came
  pub closes : Closes after came
  pub is_journal : IsJournal journal
  pub limit : journal.limit ≡ program.config.journal_limit
  pub text : Sends run.1.0 (history_text server.media.now journal.events) (states.out run.2.history) (states.out run.3.history)
  pub keeper_new : PassView
  pub keeper_is : keeper_new ≡ log_pass server.stage.now (length run.2.doors.items)
  pub keeps : KeepsLog program.given server.media.now run.1.1 (record { pass = keeper_new; sink = states.out run.2.log }) (record { pass = keeper; sink = states.out run.3.log })

module _ {C D O L : Type 0} (states : DeviceStates C D O L) (tells : L → SinkState) (program : Program) (server : Server)
    (ticker : TickEnd) (written logged : Sent) (given finished : Devices C D O)
    (c : Closed states tells program server (ticker, (written, logged), given, finished)) where
  abbrev history : List Event
  history = c.journal.events

  -- the events that came in the run
  abbrev came : List Event
  came = c.came

  -- what the run began with, and what came
  whole : IsHistory (program.given ++ came)
  whole = subst IsHistory c.begins c.is_journal.history

  abbrev first : PassView
  first = c.first

  abbrev others : List PassView
  others = c.others

  -- the events that the stage was given
  abbrev given_events : List Event
  given_events = server.stage.now.sizes.given

  keeper_at : get_elem? c.after 0 ≡ some c.keeper
  keeper_at = ap (λ (ps : List PassView). get_elem? ps 0) c.passes

  first_at : get_elem? c.after 1 ≡ some first
  first_at = ap (λ (ps : List PassView). get_elem? ps 1) c.passes

  other_at : (j : ℕ) (pass : PassView) → get_elem? others j ≡ some pass → get_elem? c.after (suc (suc j)) ≡ some pass
  other_at j pass at = ap (λ (ps : List PassView). get_elem? ps (suc (suc j))) c.passes ∙ at

  keeper_seen : IsPrefix c.keeper.seen came
  keeper_seen = (c.closes.each 0 c.keeper keeper_at).seen

  -- the pass of the log made no event, and no stop
  keeper_made : c.keeper.made ≡ []
  keeper_made = c.keeps.idle.0 ∙ ap (λ (p : PassView). p.made) c.keeper_is

  keeper_ends : c.keeper.ends ≡ false
  keeper_ends = c.keeps.idle.1 ∙ ap (λ (p : PassView). p.ends) c.keeper_is

  first_is : IsOf came (length c.after) first
  first_is = c.closes.each 1 first first_at

  made_ticks : made_by 0 came ≡ tick_positions first.seen
  made_ticks = sym (ap (λ (n : ℕ). made_by n came) c.number) ∙ sym first_is.made ∙ c.made

  on : GoesOn first.seen came
  on = goes_on_by_ticks first.seen came first_is.seen made_ticks

  same_ticks : ticks came ≡ ticks first.seen
  same_ticks = ticks-quiet first.seen came on

  abbrev served : DoorsServed (door_states states.door tells) server came 1 (given.doors.items, others, c.ended, finished.doors.items)
  served =
      doors_served (door_states states.door tells) server came (length c.after) 1 (worker_passes server.stage.now (length given.doors.items)) given.doors.items others c.ended finished.doors.items
      (new_workers server.stage.now 1 (length given.doors.items)) c.worked
      (λ j pass at. c.closes.each (suc (suc j)) pass (other_at j pass at))

  a_stop : (at : ℕ) × (stop_at came ≡ Some at)
  a_stop =
      let seen = seen_stop program.given c.met (new_pass server.stage.now 0) first c.tick_end in
      stop_after program.given came seen.0 c.on.running
      (stop_stays (program.given ++ first.seen) (program.given ++ came) seen.0 (prefix_after program.given first.seen came first_is.seen) seen.1)

  abbrev stopped : EndsWithStop came
  stopped = ends_with_stop came a_stop.0 (history_after program.given came whole) a_stop.1

  -- an event that is not the server's own stop was made by one of the passes
  made_pass : (k : ℕ) (event : Event) → get_elem? came k ≡ some event → (j : ℕ) (pass : PassView) → get_elem? c.after j ≡ some pass
      → (place : ℕ) → get_elem? pass.made place ≡ some k → is_own pass.number event ≡ true
  made_pass k event at j pass is place made =
      let of = c.closes.each j pass is in
      let found = positions-are (is_own pass.number) 0 came place k (ap (λ (ks : List ℕ). get_elem? ks place) (sym of.made) ∙ made) in
      let same : k ≡ found.0 = omega (arith, found.2) in
      let event_is : found.1 ≡ event = some-injective found.1 event (sym found.3 ∙ ap (get_elem? came) (sym same) ∙ at) in
      ap (is_own pass.number) (sym event_is) ∙ found.4

  tick_of_first : (k : ℕ) (event : Event) → get_elem? came k ≡ some event → (place : ℕ) → get_elem? first.made place ≡ some k → is_tick event ≡ true
  tick_of_first k event at place made =
      let found = positions-are is_tick 0 first.seen place k (ap (λ (ks : List ℕ). get_elem? ks place) (sym c.made) ∙ made) in
      let same : k ≡ found.0 = omega (arith, found.2) in
      let there : get_elem? came found.0 ≡ some found.1 = at_index_of first.seen came found.0 found.1 first_is.seen found.3 in
      let event_is : found.1 ≡ event = some-injective found.1 event (sym there ∙ ap (get_elem? came) (sym same) ∙ at) in
      ap is_tick (sym event_is) ∙ found.4

  made_by_tick : (event : Event) → is_tick event ≡ true → IsMadeBy given_events served.runs event
  made_by_tick (Do tag cmd) is = absurd cc
  made_by_tick (Batch tag cmds) is = absurd cc
  made_by_tick Tick is = tt
  made_by_tick (Stop tag) is = absurd cc

  made_by_link : (event : Event) → IsOfLinks given_events 1 served.runs event → IsMadeBy given_events served.runs event
  made_by_link (Do tag cmd) is = is
  made_by_link (Batch tag cmds) is = is
  made_by_link Tick is = absurd is
  made_by_link (Stop tag) is = inr is

  made_final : (event : Event) → is_final event ≡ true → IsMadeBy given_events served.runs event
  made_final (Do tag cmd) is = absurd cc
  made_final (Batch tag cmds) is = absurd cc
  made_final Tick is = absurd cc
  made_final (Stop tag) is = inl (same_server tag is)

  made_here : (k : ℕ) (event : Event) → get_elem? came k ≡ some event → IsMadeBy given_events served.runs event
  made_here k event at = go (is_final event) refl
    where
      by_pass : (j : ℕ) (pass : PassView) → get_elem? c.after j ≡ some pass → (place : ℕ) → get_elem? pass.made place ≡ some k → IsMadeBy given_events served.runs event
      by_pass zero pass is place made =
          let pass_is : c.keeper ≡ pass = some-injective c.keeper pass (sym keeper_at ∙ is) in
          let nothing : get_elem? [] place ≡ some k = sym (ap (λ (ks : List ℕ). get_elem? ks place) keeper_made) ∙ ap (λ (p : PassView). get_elem? p.made place) pass_is ∙ made in
          absurd (some-ne-none k (sym nothing))
      by_pass (suc zero) pass is place made =
          let pass_is : first ≡ pass = some-injective first pass (sym first_at ∙ is) in
          made_by_tick event (tick_of_first k event at place (ap (λ (p : PassView). get_elem? p.made place) pass_is ∙ made))
      by_pass (suc (suc j)) pass is place made =
          let there : get_elem? others j ≡ some pass = sym (ap (λ (ps : List PassView). get_elem? ps (suc (suc j))) c.passes) ∙ is in
          made_by_link event (served.own j pass there k event at (made_pass k event at (suc (suc j)) pass is place made))

      go : (b : Bool) → is_final event ≡ b → IsMadeBy given_events served.runs event
      go true is = made_final event is
      go false is =
          let once = c.closes.once k event at is in
          by_pass once.k once.stands.pass once.stands.at once.stands.place once.stands.made

  all_made : All (IsMadeBy given_events served.runs) came
  all_made k d less = made_here k (slice_index_or came k d) (at_index came k d less)

  stopped_by : IsStoppedBy c.met served.runs stopped.tag
  stopped_by is = go c.met refl
    where
      final : has_final came ≡ true
      final = ap has_final stopped.whole ∙ ap (λ (t : Tag). has_final (stopped.events ++ Stop t ∷ [])) is ∙ has_final_last stopped.events

      not_first : (t : TickEnd) → c.met ≡ t → is_found t ≡ true → first.ends ≡ false
      not_first ClockClosed same found = absurd cc
      not_first (Ended at) same found = (subst (λ (t : TickEnd). EndsPass program.given t (new_pass server.stage.now 0) first) same c.tick_end).1
      not_first TicksOver same found = absurd cc
      not_first ClockFault same found = absurd cc
      not_first (OutFault channel) same found = absurd cc

      by_pass : (t : TickEnd) → c.met ≡ t → is_found t ≡ true → (j : ℕ) (pass : PassView) → get_elem? c.after j ≡ some pass → pass.ends ≡ true → list_any is_faulty served.runs ≡ true
      by_pass t same found zero pass is ends =
          let pass_is : c.keeper ≡ pass = some-injective c.keeper pass (sym keeper_at ∙ is) in
          absurd (true≢false (sym ends ∙ ap (λ (p : PassView). p.ends) (sym pass_is) ∙ keeper_ends))
      by_pass t same found (suc zero) pass is ends =
          let pass_is : first ≡ pass = some-injective first pass (sym first_at ∙ is) in
          absurd (true≢false (sym ends ∙ ap (λ (p : PassView). p.ends) (sym pass_is) ∙ not_first t same found))
      by_pass t same found (suc (suc j)) pass is ends =
          let there : get_elem? others j ≡ some pass = sym (ap (λ (ps : List PassView). get_elem? ps (suc (suc j))) c.passes) ∙ is in
          served.ends j pass there ends

      go : (t : TickEnd) → c.met ≡ t → (is_found c.met ≡ false) ⊎ (list_any is_faulty served.runs ≡ true)
      go t same = by_case (is_found t) refl
        where
          by_case : (b : Bool) → is_found t ≡ b → (is_found c.met ≡ false) ⊎ (list_any is_faulty served.runs ≡ true)
          by_case true found =
              let some_ends = c.closes.ends final in
              inr (by_pass t same found some_ends.k some_ends.pass some_ends.at some_ends.ends)
          by_case false found = inl (ap is_found same ∙ found)

  setting_is : (worker : ℕ) → setting_in server worker tells ≡ setting_of program tells worker
  setting_is worker = λ i. record { config = c.config i; names = c.names i; worker = worker; tells = tells; given = c.begun i }

  pub has_run : HasRun states tells program (ends_so (is_tick_fault ticker || (list_any is_door_fault c.ended || (is_cut written || is_cut logged)))) (given, finished)
  has_run = record {
    history = history;
    came = came;
    ticker = ticker;
    met = c.met;
    runs = served.runs;
    written = written;
    logged = logged;
    on = c.on;
    begins = c.begins;
    whole = c.is_journal.history;
    within = subst (λ (n : ℕ). held history ≤ n) c.limit c.is_journal.commands;
    stopped = stopped;
    stopped_by = stopped_by;
    made = subst (λ (events : List Event). All (IsMadeBy events served.runs) came) c.begun all_made;
    doors = each_door
        (λ worker run before after. HasServed (setting_in server worker tells) came run (states.door before) (states.door after))
        (λ worker run before after. HasServed (setting_of program tells worker) came run (states.door before) (states.door after))
        1 served.runs given.doors.items finished.doors.items
        (λ worker run before after h. subst (λ (s : Setting L). HasServed s came run (states.door before) (states.door after)) (setting_is worker) h)
        served.each;
    outs = subst (λ (s : Setup). AreWritten states.out ticker (record { setup = s; given = program.given; history = came }) given.outs.items finished.outs.items) c.setup_is
        (written_later states.out (record { setup = c.setup; given = program.given }) first.seen came on ticker given.outs.items finished.outs.items c.outs);
    meets = subst (λ (n : ℕ). Meets n ticker c.met) (ap (λ (s : SharedView). s.sizes.channels) c.of ∙ c.channels) c.meets;
    clock = c.clock ∙ ap (λ (n : ℕ). clock_at_end c.met n (states.clock given.clock)) (sym same_ticks);
    pulses = subst (λ (events : List Event). TicksEndBy events c.met) (sym c.begins)
        (ticks_end program.given c.met (new_pass server.stage.now 0) first came c.tick_end first_is.seen same_ticks);
    text = subst (λ names. Sends written (history_text names history) (states.out given.history) (states.out finished.history)) c.names c.text;
    log = subst (λ names. IsLogged logged names history (states.out given.log) (states.out finished.log)) c.names
        (subst (λ (events : List Event). IsLogged logged server.media.now events (states.out given.log) (states.out finished.log)) (sym c.begins)
        (logged_whole program.given server.media.now logged (record { pass = c.keeper_new; sink = states.out given.log }) (record { pass = c.keeper; sink = states.out finished.log })
        came keeper_seen whole c.keeps));
    ending = ap (λ (b : Bool). ends_so (is_tick_fault ticker || (b || (is_cut written || is_cut logged)))) (sym served.faults);
  }

-- a run that ended as `ends_so` gives
pub serves : {C D O L : Type 0} (states : DeviceStates C D O L) (tells : L → SinkState) (program : Program) (failed : Bool) (devices : Devices C D O × Devices C D O)
    → HasRun states tells program (ends_so failed) devices → Serves states tells program (ends_so failed) devices
serves states tells program true devices run = run
serves states tells program false devices run = run

-- what is known of the stage that was closed and of the text that was written
pub record Ending {C D O L : Type 0} (states : DeviceStates C D O L) (program : Program) (server : Server) (new : RunThreads C D O) (end : TickEnd × (Sent × Sent) × ServeEnd × Devices C D O × Devices C D O) : Type 0 where
  pub journal : JournalView
  pub came : List Event
  pub begins : journal.events ≡ program.given ++ came
  pub closes : Closes (passes_back new) came
  pub is_journal : IsJournal journal
  pub limit : journal.limit ≡ program.config.journal_limit
  pub text : Sends end.1.0 (history_text server.media.now journal.events) (states.out end.3.history) (states.out end.4.history)
  pub end_is : end.2 ≡ ends_so (is_tick_fault end.0
      || (list_any (λ (worker : ConnectionWorker D). is_door_fault worker.end) new.others.connection_workers.items || (is_cut end.1.0 || is_cut end.1.1)))

-- what a run is played on is what its threads share
pub record IsPlayedOn (program : Program) (server : Server) (setup : Setup) : Type 0 where
  pub on : IsProgram program
  pub config : server.config.now ≡ program.config
  pub names : server.media.now ≡ media_names program.media
  pub channels : server.stage.now.sizes.channels ≡ length program.config.channels
  pub begun : server.stage.now.sizes.given ≡ program.given
  pub setup_is : setup ≡ setup_of program

module _ {C D O L : Type 0} (states : DeviceStates C D O L) (tells : L → SinkState) (program : Program) (server : Server) (setup : Setup)
    (ends : TickEnd × Sent) (given finished : Devices C D O) (old new : RunThreads C D O) (holds : HoldsDevices old given) (held : HoldsDevices new finished)
    (passes : HasNewPasses server.stage.now (length given.doors.items) old)
    (ran : RanBeside (ticker_states states.clock states.out) (door_states states.door tells) setup server (ends.0, ends.1, old, new)) where
  -- the work at each door, from the door that was given
  pub worked_at : EachPlace (door_states states.door tells) server (worker_passes server.stage.now (length given.doors.items)) given.doors.items
      (passes_of (reverse new.others.connection_workers.items)) (ends_of (reverse new.others.connection_workers.items)) finished.doors.items
  worked_at =
      let all = all_zip_reverse (HasWorkedAt (door_states states.door tells) server) old.others.connection_workers.items new.others.connection_workers.items ran.worked in
      let each = each_place (door_states states.door tells) server (reverse old.others.connection_workers.items) (reverse new.others.connection_workers.items) all in
      subst (λ (ds : List D). EachPlace (door_states states.door tells) server (worker_passes server.stage.now (length given.doors.items)) given.doors.items
      (passes_of (reverse new.others.connection_workers.items)) (ends_of (reverse new.others.connection_workers.items)) ds) held.doors
      (subst (λ (ds : List D). EachPlace (door_states states.door tells) server (worker_passes server.stage.now (length given.doors.items)) ds
      (passes_of (reverse new.others.connection_workers.items)) (ends_of (reverse new.others.connection_workers.items)) (doors_of (reverse new.others.connection_workers.items))) holds.doors
      (subst (λ (ps : List PassView). EachPlace (door_states states.door tells) server ps (doors_of (reverse old.others.connection_workers.items))
      (passes_of (reverse new.others.connection_workers.items)) (ends_of (reverse new.others.connection_workers.items)) (doors_of (reverse new.others.connection_workers.items))) passes.connection_workers each))

  outs_at : server.stage.now.sizes.given ≡ program.given → AreWritten states.out ends.0 (record { setup = setup; given = program.given; history = new.ticker.pass.seen }) given.outs.items finished.outs.items
  outs_at begun =
      let Took : List Event → List O → List O → Type 0 = λ past olds news. AreWritten states.out ends.0 (record { setup = setup; given = past; history = new.ticker.pass.seen }) olds news in
      subst (λ (past : List Event). Took past given.outs.items finished.outs.items) begun
      (subst (λ (os : List O). Took server.stage.now.sizes.given given.outs.items os) held.outs
      (subst (λ (os : List O). Took server.stage.now.sizes.given os new.ticker.outs.items) holds.outs ran.ticked.outs))

  keeps_at : server.stage.now.sizes.given ≡ program.given
      → KeepsLog program.given server.media.now ends.1 (record { pass = old.others.log.pass; sink = states.out given.log }) (record { pass = new.others.log.pass; sink = states.out finished.log })
  keeps_at begun =
      let Kept : List Event → O → O → Type 0 = λ past before after.
      KeepsLog past server.media.now ends.1 (record { pass = old.others.log.pass; sink = states.out before }) (record { pass = new.others.log.pass; sink = states.out after }) in
      subst (λ (past : List Event). Kept past given.log finished.log) begun
      (subst (λ (log : O). Kept server.stage.now.sizes.given given.log log) held.log
      (subst (λ (log : O). Kept server.stage.now.sizes.given log new.others.log.log) holds.log ran.logged.keeps))

  pub finish : (written : Sent) (end : ServeEnd) → IsPlayedOn program server setup
      → Ending states program server new (ends.0, (written, ends.1), end, given, finished)
      → Serves states tells program end (given, finished)
  finish written end on ending =
      let closed : Closed states tells program server (ends.0, (written, ends.1), given, finished) = record {
        after = passes_back new;
        keeper = new.others.log.pass;
        first = new.ticker.pass;
        others = passes_of (reverse new.others.connection_workers.items);
        passes = refl;
        ended = ends_of (reverse new.others.connection_workers.items);
        journal = ending.journal;
        on = on.on;
        config = on.config;
        names = on.names;
        channels = on.channels;
        begun = on.begun;
        setup = setup;
        setup_is = on.setup_is;
        of = ran.ticked.of;
        number = ran.ticked.number;
        made = ran.ticked.made;
        outs = outs_at on.begun;
        met = ran.ticked.ended.met;
        meets = ran.ticked.ended.meets;
        clock = ap states.clock (sym held.clock) ∙ ran.ticked.ended.clock ∙ ap (λ (c : C). clock_at_end ran.ticked.ended.met (ticks new.ticker.pass.seen) (states.clock c)) holds.clock;
        tick_end = subst (λ (past : List Event). EndsPass past ran.ticked.ended.met (ticker_pass server.stage.now) new.ticker.pass) on.begun
            (subst (λ (pass : PassView). EndsPass server.stage.now.sizes.given ran.ticked.ended.met pass new.ticker.pass) passes.ticker ran.ticked.ended.pass);
        worked = worked_at;
        came = ending.came;
        begins = ending.begins;
        closes = ending.closes;
        is_journal = ending.is_journal;
        limit = ending.limit;
        text = ending.text;
        keeper_new = old.others.log.pass;
        keeper_is = passes.log;
        keeps = keeps_at on.begun;
      } in
      let failed : Bool = is_tick_fault ends.0 || (list_any is_door_fault (ends_of (reverse new.others.connection_workers.items)) || (is_cut written || is_cut ends.1)) in
      let end_is : end ≡ ends_so failed =
      ending.end_is
      ∙ ap (λ (b : Bool). ends_so (is_tick_fault ends.0 || (b || (is_cut written || is_cut ends.1))))
      (sym (any_reversed is_door_fault (λ (worker : ConnectionWorker D). worker.end) new.others.connection_workers.items)) in
      subst (λ (e : ServeEnd). Serves states tells program e (given, finished)) (sym end_is)
      (serves states tells program failed (given, finished) (has_run states tells program server ends.0 written ends.1 given finished closed))
