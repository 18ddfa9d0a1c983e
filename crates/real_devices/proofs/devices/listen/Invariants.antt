use Rattle.std.proofs.Common.{◌≡◌, map}
use Rattle.std.specs.List.{range_with_len}
use Rattle.real_devices.specs.Fresh.{quiet_door}
use Rattle.real_devices.specs.State.{door_state}
use Rattle.real_devices.proofs.devices.listen.Given as goal

-- the doors so far have the marks from 1 on
abbrev pub invariant-loop-place : goal.invariant-loop-place
invariant-loop-place g l = map door_state l.doors.items ≡ map quiet_door (range_with_len 1 l.place)
