-- New devices are unused, and unused devices are new.
use Rattle.std.proofs.Common.{◌≡◌, List, [], ◌∷◌, Bool, false, length, ap, arith}
use Rattle.std.specs.Prelude.{Option, Some, None, IfSome, slice_index_or}
use Rattle.play_outside.specs.ListenerState.{ListenerTold, ListenerState}
use Rattle.play_outside.specs.declared.devices.Devices.{Devices}
use Rattle.server_run.specs.Devices.{DeviceStates}
use Rattle.play_server.specs.Site.{AreNew, IsNewDoor}
use Rattle.play_server.specs.Unused.{AreUnused, IsUnusedDoor}

fresh_told : {L : Type 0} → (told : Option (ListenerTold L))
    → IfSome told (λ t. t ≡ record { returned = []; closed = false }) → IfSome told (λ t. (length t.returned ≡ 0) × (t.closed ≡ false))
fresh_told None e = tt
fresh_told (Some t) e = (ap (λ u. length u.returned) e, ap (λ u. u.closed) e)

told_fresh : {L : Type 0} → (told : Option (ListenerTold L))
    → IfSome told (λ t. (length t.returned ≡ 0) × (t.closed ≡ false)) → IfSome told (λ t. t ≡ record { returned = []; closed = false })
told_fresh None e = tt
told_fresh (Some t) e = both t.returned t.closed e.0 e.1
  where
    both : {L : Type 0} → (returned : List L) (closed : Bool) → length returned ≡ 0 → closed ≡ false
        → Path (ListenerTold L) (record { returned = returned; closed = closed }) (record { returned = []; closed = false })
    both [] closed none open_ = ap (λ c. record { returned = []; closed = c }) open_
    both (x ∷ xs) closed none open_ = absurd (omega arith)

-- a new door is unused
new-unused : {L : Type 0} → (state : ListenerState L) → IsNewDoor state → IsUnusedDoor state
new-unused state new = (fresh_told state.told new.0.0, new.0.1, new.1)

-- an unused door is new
unused-new : {L : Type 0} → (state : ListenerState L) → IsUnusedDoor state → IsNewDoor state
unused-new state unused = ((told_fresh state.told unused.0, unused.1), unused.2)

-- new devices are unused
pub new_devices-unused : {C D O L : Type 0} (words : DeviceStates C D O L) (devices : Devices C D O) → AreNew words devices → AreUnused words devices
new_devices-unused words devices new = record {
  clock = new.clock;
  doors = λ at other within. new-unused (words.door (slice_index_or devices.doors.items at other)) (new.doors at other within);
  door_marks = new.door_marks;
  outs = new.outs;
  out_marks = new.out_marks;
  history = new.history;
  history_mark = new.history_mark;
  log = new.log;
  log_mark = new.log_mark;
}

-- unused devices are new
pub unused_devices-new : {C D O L : Type 0} (words : DeviceStates C D O L) (devices : Devices C D O) → AreUnused words devices → AreNew words devices
unused_devices-new words devices unused = record {
  clock = unused.clock;
  doors = λ at other within. unused-new (words.door (slice_index_or devices.doors.items at other)) (unused.doors at other within);
  door_marks = unused.door_marks;
  outs = unused.outs;
  out_marks = unused.out_marks;
  history = unused.history;
  history_mark = unused.history_mark;
  log = unused.log;
  log_mark = unused.log_mark;
}
