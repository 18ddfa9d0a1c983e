-- The devices after a run: which counts of faults rose, and which are unchanged.
use Rattle.std.proofs.Common.{◌≡◌, ℕ, zero, suc, ◌+◌, ◌<◌, ◌||◌, Bool, true, false, true≢false, List, [], ◌∷◌, ◌++◌, length, refl, sym, ap, ◌∙◌, subst, arith, inl, inr}
use Rattle.std.specs.Prelude.{All, Option, Some, None, IfSome, option_map, vec_len}
use Rattle.std.specs.List.{AllByRecursion, list_any}
use Rattle.std.proofs.lemmas.Bool.{or_cases, or_parts}
use Rattle.std.proofs.lemmas.List.Elements.{recursion_from_All}
use Rattle.play_types.specs.History.{ticks}
use Rattle.play_types.specs.declared.event.Event.{Event}
use Rattle.play_types.specs.declared.event.Event.TheVariants.{Stop}
use Rattle.play_outside.specs.ClockState.{ClockState, ClockTold}
use Rattle.play_outside.specs.Faults.{Rose, one_more}
use Rattle.play_outside.specs.ListenerState.{ListenerState}
use Rattle.play_outside.specs.Sink.{Sends}
use Rattle.play_outside.specs.SinkState.{SinkState}
use Rattle.play_outside.specs.declared.devices.Devices.{Devices}
use Rattle.play_outside.specs.declared.sink.Sent.{Sent}
use Rattle.play_outside.specs.declared.sink.Sent.TheVariants as sent
use Rattle.conn_worker.specs.Work.{Setting}
use Rattle.conn_worker.specs.declared.work_end.WorkEnd.{WorkEnd}
use Rattle.conn_worker.specs.declared.work_end.WorkEnd.TheVariants as work
use Rattle.play_ticker.specs.Ends.{Meets, clock_at_end}
use Rattle.play_ticker.specs.Outputs.{AreWritten, EachOutput, IsCutAt, Shown, TakesFrames}
use Rattle.play_ticker.specs.declared.ending.TickEnd.{TickEnd}
use Rattle.play_ticker.specs.declared.ending.TickEnd.TheVariants.{ClockClosed, Ended, TicksOver, ClockFault, OutFault}
use Rattle.server_run.specs.Doors.{DoorRun, EachDoor, HasServed, faults_after, is_door_fault}
use Rattle.server_run.specs.Run.{HasRun, IsMadeBy, Program, TicksEndBy, ends_so, has_device_fault, is_cut, is_found, is_tick_fault}
use Rattle.server_run.specs.Devices.{DeviceStates}
use Rattle.play_server.specs.Statuses.{ADeviceFails, AllStay, AnyRose, IsStopped, NoDeviceFails}
use Rattle.server_run.specs.declared.served.ServeEnd.{ServeEnd}
use Rattle.server_run.specs.declared.served.ServeEnd.TheVariants as serve

-- one more fault is a rise
pub rises : (before after : ℕ) → after ≡ one_more before → Rose before after
rises before after more = rw more (omega arith)

-- a run that ended by a fault of a device had one
fault_told : (fault : Bool) → serve.DeviceFault ≡ ends_so fault → fault ≡ true
fault_told true ends = refl
fault_told false ends = cc

-- a run that ended without a fault had none
none_told : (fault : Bool) → serve.Ended ≡ ends_so fault → fault ≡ false
none_told true ends = cc
none_told false ends = refl

-- the count of a door at which the work ended by a fault
counted_door : (end : WorkEnd) (before after : ℕ) → after ≡ faults_after end before → is_door_fault end ≡ true → Rose before after
counted_door work.Closed before after count fault = absurd (true≢false (sym fault))
counted_door (work.Ended at) before after count fault = absurd (true≢false (sym fault))
counted_door work.DoorFault before after count fault = rises before after count
counted_door work.SessionsOver before after count fault = absurd (true≢false (sym fault))

-- the count of a door at which it ended otherwise
kept_door : (end : WorkEnd) (before after : ℕ) → after ≡ faults_after end before → is_door_fault end ≡ false → after ≡ before
kept_door work.Closed before after count well = count
kept_door (work.Ended at) before after count well = count
kept_door work.DoorFault before after count well = absurd (true≢false well)
kept_door work.SessionsOver before after count well = count

-- a clock that has answered Closed records it
told_closed : (told : Option ClockTold) → IfSome (option_map (λ (t : ClockTold). record t { closed = true }) told) (λ t. t.closed ≡ true)
told_closed None = tt
told_closed (Some told) = refl

-- what holds of all elements holds of the last one
last_of_all : {X : Type 0} (P : X → Type 0) (xs : List X) (x : X) → AllByRecursion P (xs ++ x ∷ []) → P x
last_of_all P [] x all = all.0
last_of_all P (first ∷ xs) x all = last_of_all P xs x all.1

module _ {D L : Type 0} (state : D → ListenerState L) (setting : ℕ → Setting L) (history : List Event) where
  abbrev Serves : ℕ → DoorRun L → D → D → Type 0
  Serves worker run before after = HasServed (setting worker) history run (state before) (state after)

  abbrev faults_at : D → ℕ
  faults_at door = (state door).faults

  -- a door failed if the work at one of them ended by a fault
  pub door_rose : (worker : ℕ) (runs : List (DoorRun L)) (olds news : List D) → EachDoor Serves worker runs olds news
      → list_any (λ (run : DoorRun L). is_door_fault run.end) runs ≡ true → AnyRose faults_at olds news
  door_rose worker [] olds news each any = absurd (true≢false (sym any))
  door_rose worker (run ∷ runs) [] news each any = absurd each
  door_rose worker (run ∷ runs) (old ∷ olds) [] each any = absurd each
  door_rose worker (run ∷ runs) (old ∷ olds) (new ∷ news) each any =
      elim (or_cases (is_door_fault run.end) (list_any (λ (run : DoorRun L). is_door_fault run.end) runs) any) [
        | inl here ↦ inl (counted_door run.end (faults_at old) (faults_at new) each.0.faults here)
        | inr later ↦ inr (door_rose (suc worker) runs olds news each.1 later)
      ]

  -- no door failed if the work at none of them ended by a fault
  pub doors_stay : (worker : ℕ) (runs : List (DoorRun L)) (olds news : List D) → EachDoor Serves worker runs olds news
      → list_any (λ (run : DoorRun L). is_door_fault run.end) runs ≡ false → AllStay faults_at olds news
  doors_stay worker [] [] [] each none = tt
  doors_stay worker [] [] (new ∷ news) each none = absurd each
  doors_stay worker [] (old ∷ olds) news each none = absurd each
  doors_stay worker (run ∷ runs) [] news each none = absurd each
  doors_stay worker (run ∷ runs) (old ∷ olds) [] each none = absurd each
  doors_stay worker (run ∷ runs) (old ∷ olds) (new ∷ news) each none =
      let parts = or_parts (is_door_fault run.end) (list_any (λ (run : DoorRun L). is_door_fault run.end) runs) none in
      (kept_door run.end (faults_at old) (faults_at new) each.0.faults parts.0, doors_stay (suc worker) runs olds news each.1 parts.1)

module _ {O : Type 0} (state : O → SinkState) (shown : Shown) where
  abbrev faults_of : O → ℕ
  faults_of out = (state out).faults

  abbrev Cuts : ℕ → ℕ → O → O → Type 0
  Cuts failed channel before after = IsCutAt failed shown channel (state before) (state after)

  abbrev Takes : ℕ → O → O → Type 0
  Takes channel before after = TakesFrames shown channel (state before) (state after)

  -- the output of the channel at which the frames were cut failed
  pub out_rose : (failed before_it first : ℕ) (olds news : List O) → EachOutput (Cuts failed) first olds news
      → failed ≡ before_it + first → before_it < length olds → AnyRose faults_of olds news
  out_rose failed before_it first [] news each at within = absurd (omega (arith, within))
  out_rose failed before_it first (old ∷ olds) [] each at within = absurd each
  out_rose failed zero first (old ∷ olds) (new ∷ news) each at within =
      let here : first ≡ failed = omega (arith, at) in
      let fails = each.0.failing here in
      inl (rises (faults_of old) (faults_of new) (ap (λ (s : SinkState). s.faults) fails.stopped))
  out_rose failed (suc before_it) first (old ∷ olds) (new ∷ news) each at within =
      inr (out_rose failed before_it (suc first) olds news each.1 (omega (arith, at)) (omega (arith, within)))

  -- outputs that took all their frames did not fail
  takers_stay : (first : ℕ) (olds news : List O) → EachOutput Takes first olds news → AllStay faults_of olds news
  takers_stay first [] [] each = tt
  takers_stay first [] (new ∷ news) each = absurd each
  takers_stay first (old ∷ olds) [] each = absurd each
  takers_stay first (old ∷ olds) (new ∷ news) each = (ap (λ (s : SinkState). s.faults) each.0, takers_stay (suc first) olds news each.1)

  pub outs_stay : (end : TickEnd) (olds news : List O) → is_tick_fault end ≡ false → AreWritten state end shown olds news → AllStay faults_of olds news
  outs_stay ClockClosed olds news well all = takers_stay 1 olds news all
  outs_stay (Ended at) olds news well all = takers_stay 1 olds news all
  outs_stay TicksOver olds news well all = takers_stay 1 olds news all
  outs_stay ClockFault olds news well all = absurd (true≢false well)
  outs_stay (OutFault failed) olds news well all = absurd (true≢false well)

-- an output that was not wholly written to failed
cut_rose : (written : Sent) (text : List ℕ) (before after : SinkState) → is_cut written ≡ true → Sends written text before after → Rose before.faults after.faults
cut_rose sent.All text before after cut sends = absurd (true≢false (sym cut))
cut_rose sent.Failed text before after cut sends = rises before.faults after.faults (ap (λ (s : SinkState). s.faults) sends.stopped)

uncut_stays : (written : Sent) (text : List ℕ) (before after : SinkState) → is_cut written ≡ false → Sends written text before after → after.faults ≡ before.faults
uncut_stays sent.All text before after whole sends = ap (λ (s : SinkState). s.faults) sends
uncut_stays sent.Failed text before after whole sends = absurd (true≢false whole)

-- the clock did not fail if the pulses ended otherwise
kept_clock : (end : TickEnd) (made : ℕ) (before after : ClockState) → is_tick_fault end ≡ false → after ≡ clock_at_end end made before → after.faults ≡ before.faults
kept_clock ClockClosed made before after well is = ap (λ (s : ClockState). s.faults) is
kept_clock (Ended at) made before after well is = ap (λ (s : ClockState). s.faults) is
kept_clock TicksOver made before after well is = ap (λ (s : ClockState). s.faults) is
kept_clock ClockFault made before after well is = absurd (true≢false well)
kept_clock (OutFault channel) made before after well is = absurd (true≢false well)

-- if no device of the ticks failed they ended with what was met
met_well : (channels : ℕ) (end met : TickEnd) → is_tick_fault end ≡ false → Meets channels end met → met ≡ end
met_well channels ClockClosed met well meets = meets
met_well channels (Ended at) met well meets = meets
met_well channels TicksOver met well meets = meets
met_well channels ClockFault met well meets = absurd (true≢false well)
met_well channels (OutFault channel) met well meets = absurd (true≢false well)

module _ {C D O L : Type 0} (device : DeviceStates C D O L) (tells : L → SinkState) (program : Program) where
  -- the clock or an output failed if the ticks ended by a fault
  ticks_rose : (end met : TickEnd) (shown : Shown) (devices : Devices C D O × Devices C D O) → is_tick_fault end ≡ true → Meets (length devices.0.outs.items) end met
      → device.clock devices.1.clock ≡ clock_at_end met (ticks shown.history) (device.clock devices.0.clock)
      → AreWritten device.out end shown devices.0.outs.items devices.1.outs.items → ADeviceFails device devices.0 devices.1
  ticks_rose ClockClosed met shown devices fault meets clock outs = absurd (true≢false (sym fault))
  ticks_rose (Ended at) met shown devices fault meets clock outs = absurd (true≢false (sym fault))
  ticks_rose TicksOver met shown devices fault meets clock outs = absurd (true≢false (sym fault))
  ticks_rose ClockFault met shown devices fault meets clock outs =
      let is : device.clock devices.1.clock ≡ clock_at_end ClockFault (ticks shown.history) (device.clock devices.0.clock) =
      clock ∙ ap (λ (end : TickEnd). clock_at_end end (ticks shown.history) (device.clock devices.0.clock)) meets in
      inl (rises (device.clock devices.0.clock).faults (device.clock devices.1.clock).faults (ap (λ (s : ClockState). s.faults) is))
  ticks_rose (OutFault zero) met shown devices fault meets clock outs = absurd (omega (arith, meets.0))
  ticks_rose (OutFault (suc before_it)) met shown devices fault meets clock outs =
      inr (inr (inl (out_rose device.out (record shown { history = outs.before }) (suc before_it) before_it 1 devices.0.outs.items devices.1.outs.items outs.outs (omega arith) (omega (arith, meets.1)))))

  -- a device failed in a run that ended with DeviceFault
  pub device_rose : (devices : Devices C D O × Devices C D O) → vec_len devices.0.outs ≡ length program.config.channels
      → HasRun device tells program serve.DeviceFault devices → ADeviceFails device devices.0 devices.1
  device_rose devices count run =
      let fault = fault_told (has_device_fault run.ticker run.runs run.written run.logged) run.ending in
      let outs : length devices.0.outs.items ≡ length program.config.channels = sym devices.0.outs.ok.0 ∙ count in
      elim (or_cases (is_tick_fault run.ticker) _ fault) [
        | inl ticker ↦ ticks_rose run.ticker run.met _ devices ticker (subst (λ (n : ℕ). Meets n run.ticker run.met) (sym outs) run.meets) run.clock run.outs
        | inr other ↦ elim (or_cases (list_any (λ (r : DoorRun L). is_door_fault r.end) run.runs) (is_cut run.written || is_cut run.logged) other) [
          | inl door ↦ inr (inl (door_rose device.door _ run.came 1 run.runs devices.0.doors.items devices.1.doors.items run.doors door))
          | inr cut ↦ elim (or_cases (is_cut run.written) (is_cut run.logged) cut) [
            | inl text ↦ inr (inr (inr (inl (cut_rose run.written _ _ _ text run.text))))
            | inr log ↦ inr (inr (inr (inr (cut_rose run.logged _ _ _ log run.log.sends))))
          ]
        ]
      ]

  -- the parts of a run that ended without a fault had none
  pub no_faults : (devices : Devices C D O × Devices C D O) → (run : HasRun device tells program serve.Ended devices)
      → (is_tick_fault run.ticker ≡ false) × (list_any (λ (r : DoorRun L). is_door_fault r.end) run.runs ≡ false)
      × (is_cut run.written ≡ false) × (is_cut run.logged ≡ false)
  no_faults devices run =
      let none = none_told (has_device_fault run.ticker run.runs run.written run.logged) run.ending in
      let parts = or_parts (is_tick_fault run.ticker) _ none in
      let others = or_parts (list_any (λ (r : DoorRun L). is_door_fault r.end) run.runs) (is_cut run.written || is_cut run.logged) parts.1 in
      let texts = or_parts (is_cut run.written) (is_cut run.logged) others.1 in
      (parts.0, others.0, texts.0, texts.1)

  -- no device failed in a run that ended without a fault
  pub devices_stay : (devices : Devices C D O × Devices C D O) → HasRun device tells program serve.Ended devices → NoDeviceFails device devices.0 devices.1
  devices_stay devices run =
      let well = no_faults devices run in record {
        clock = kept_clock run.met _ _ _ (ap is_tick_fault (met_well (length program.config.channels) run.ticker run.met well.0 run.meets) ∙ well.0) run.clock;
        doors = doors_stay device.door _ run.came 1 run.runs devices.0.doors.items devices.1.doors.items run.doors well.1;
        outs = outs_stay device.out _ run.ticker devices.0.outs.items devices.1.outs.items well.0 run.outs;
        history = uncut_stays run.written _ _ _ well.2 run.text;
        log = uncut_stays run.logged _ _ _ well.3 run.log.sends;
      }

  -- who made the last event
  stop_made : (devices : Devices C D O × Devices C D O) (end : ServeEnd) (run : HasRun device tells program end devices)
      → IsMadeBy program.given run.runs (Stop run.stopped.tag)
  stop_made devices end run =
      last_of_all (IsMadeBy program.given run.runs) run.stopped.events (Stop run.stopped.tag)
      (recursion_from_All (IsMadeBy program.given run.runs) (run.stopped.events ++ Stop run.stopped.tag ∷ [])
      (subst (λ (events : List Event). All (IsMadeBy program.given run.runs) events) run.stopped.whole run.made))

  -- what ended the pulses of a run that the server itself stopped
  ended_by : (devices : Devices C D O × Devices C D O) (run : HasRun device tells program serve.Ended devices) (end : TickEnd) → run.met ≡ end → run.ticker ≡ end
      → is_found end ≡ false → is_tick_fault end ≡ false → IsStopped run
  ended_by devices run ClockClosed is ticker_is found well =
      let clock = subst (λ (e : TickEnd). device.clock devices.1.clock ≡ clock_at_end e (ticks run.came) (device.clock devices.0.clock)) is run.clock in
      inr (inl (ticker_is, subst (λ (s : ClockState). IfSome s.told (λ told. told.closed ≡ true)) (sym clock) (told_closed _)))
  ended_by devices run (Ended at) is ticker_is found well = absurd (true≢false found)
  ended_by devices run TicksOver is ticker_is found well = inr (inr (subst (TicksEndBy run.history) is run.pulses))
  ended_by devices run ClockFault is ticker_is found well = absurd (true≢false well)
  ended_by devices run (OutFault channel) is ticker_is found well = absurd (true≢false well)

  -- what stopped a run that ended without a fault
  pub stopped_by : (devices : Devices C D O × Devices C D O) (run : HasRun device tells program serve.Ended devices) → IsStopped run
  stopped_by devices run =
      let well = no_faults devices run in
      let met : run.met ≡ run.ticker = met_well (length program.config.channels) run.ticker run.met well.0 run.meets in
      elim (stop_made devices serve.Ended run) [
        | inl own ↦ elim (run.stopped_by own) [
          | inl unfound ↦ ended_by devices run run.ticker met refl (ap is_found (sym met) ∙ unfound) well.0
          | inr door ↦ absurd (true≢false (sym door ∙ well.1))
        ]
        | inr client ↦ inl client
      ]
