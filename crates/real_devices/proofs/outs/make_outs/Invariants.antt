use Rattle.std.proofs.Common.{◌≡◌, length, map}
use Rattle.std.specs.List.{range_with_len}
use Rattle.real_devices.specs.Fresh.{quiet_sink}
use Rattle.real_devices.specs.State.{file_state}
use Rattle.real_devices.proofs.outs.make_outs.Given as goal

-- the outputs so far have the marks from 1 on
abbrev pub invariant-loop-channel : goal.invariant-loop-channel
invariant-loop-channel g l = record {
  mark : l.mark ≡ length l.yielded;
  outs : map file_state l.outs.items ≡ map quiet_sink (range_with_len 1 (length l.yielded));
}
