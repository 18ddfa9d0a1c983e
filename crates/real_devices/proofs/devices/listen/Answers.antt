use Rattle.std.proofs.Common.{arith}
use Rattle.real_devices.specs.Fresh.{quiet_door}
use Rattle.real_devices.specs.State.{door_state}
use Rattle.real_devices.proofs.Marks.{marks_more}
use Rattle.real_devices.proofs.devices.listen.Goals as goal

pub loop-place-preserved : goal.loop-place-preserved
loop-place-preserved g c =
    marks_more door_state quiet_door c.loop-place.doors.items c.in_ok-door.door c.push.new.self.items c.loop-place.place _
    (omega (arith, c.from-mark.ensures)) c.loop-place.invariant c.in_ok-door.ensures c.in_ok-push.ensures.items
