-- New devices, as a site has to return them.
use Rattle.std.proofs.Common.{◌≡◌, ℕ, ◌+◌, ◌<◌, List, length, map, get_or, refl, sym, ap, ◌∙◌, subst, arith}
use Rattle.std.specs.List.{range_with_len}
use Rattle.std.proofs.lemmas.List.{get_or-map, length-map}
use Rattle.std.proofs.lemmas.List.FromFn.{get_or-map-range_with_len, length-map-range_with_len}
use Rattle.play_types.specs.Config.{ConfigView}
use Rattle.play_outside.specs.ListenerState.{ListenerState}
use Rattle.play_outside.specs.SinkState.{SinkState}
use Rattle.play_outside.specs.Fresh.{IsNewSink}
use Rattle.play_outside.specs.declared.devices.Devices.{Devices}
use Rattle.server_run.specs.Devices.{DeviceStates}
use Rattle.play_server.specs.Site.{AreReady, IsNewClock, IsNewDoor}
use Rattle.real_devices.specs.Fresh.{quiet_clock, quiet_door, quiet_sink}

-- how many elements there are
count_of : {A S : Type 0} (state : A → S) (quiet : ℕ → S) (items : List A) (n : ℕ) → map state items ≡ map quiet (range_with_len 1 n)
    → length items ≡ n
count_of state quiet items n same = sym (length-map items state) ∙ ap length same ∙ length-map-range_with_len quiet 1 n

-- the state of an element
state_at : {A S : Type 0} (state : A → S) (quiet : ℕ → S) (items : List A) (n at : ℕ) (other : A) → map state items ≡ map quiet (range_with_len 1 n)
    → at < length items → state (get_or items at other) ≡ quiet (at + 1)
state_at state quiet items n at other same within =
    sym (get_or-map state items at other (state other) within) ∙ ap (λ states. get_or states at (state other)) same
    ∙ get_or-map-range_with_len quiet 1 n at (at + 1) (state other) (omega (arith, within, count_of state quiet items n same)) (omega arith)

-- new devices, as many as the configuration names, are ready
pub ready_devices : {C D O L : Type 0} (words : DeviceStates C D O L) (config : ConfigView) (devices : Devices C D O)
    → words.clock devices.clock ≡ quiet_clock
    → map words.door devices.doors.items ≡ map quiet_door (range_with_len 1 config.connections)
    → map words.out devices.outs.items ≡ map quiet_sink (range_with_len 1 (length config.channels))
    → words.out devices.history ≡ quiet_sink 0
    → words.out devices.log ≡ quiet_sink 0
    → AreReady words config devices
ready_devices {D} {O} {L} words config devices clock doors outs history log =
    let door_at = λ (at : ℕ) (other : D) (within : at < length devices.doors.items). state_at words.door quiet_door devices.doors.items config.connections at other doors within in
    let out_at = λ (at : ℕ) (other : O) (within : at < length devices.outs.items). state_at words.out quiet_sink devices.outs.items (length config.channels) at other outs within in
    record {
      new = record {
        clock = subst IsNewClock (sym clock) (tt, refl);
        doors = λ at other within. subst IsNewDoor (sym (door_at at other within)) ((tt, refl), refl);
        door_marks = λ at other within. ap (λ (state : ListenerState L). state.mark) (door_at at other within);
        outs = λ at other within. subst IsNewSink (sym (out_at at other within)) ((tt, refl, tt), refl);
        out_marks = λ at other within. ap (λ (state : SinkState). state.mark) (out_at at other within);
        history = subst IsNewSink (sym history) ((tt, refl, tt), refl);
        history_mark = ap (λ (state : SinkState). state.mark) history;
        log = subst IsNewSink (sym log) ((tt, refl, tt), refl);
        log_mark = ap (λ (state : SinkState). state.mark) log;
      };
      doors = devices.doors.ok.0 ∙ count_of words.door quiet_door devices.doors.items config.connections doors;
      outs = devices.outs.ok.0 ∙ count_of words.out quiet_sink devices.outs.items (length config.channels) outs;
    }
