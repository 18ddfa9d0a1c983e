-- How a run ends: its fault, its exit status and the line that it writes then.
use Rattle.std.specs.Prelude.{ℕ, ◌+◌, Option, Some, None, Result, Ok, Err, List, []}
use Rattle.server_setup.specs.Fault as table
use Rattle.server_setup.specs.declared.fault.RunFault.{RunFault}
use Rattle.server_setup.specs.declared.fault.RunFault.TheVariants as faults
use Rattle.script_player.specs.declared.ending.Halt.{Halt}
use Rattle.script_player.specs.declared.ending.Halt.TheVariants as halt
use Rattle.script_player.specs.declared.ending.Ending.{Ending}
use Rattle.script_player.specs.declared.ending.Ending.TheVariants.{Finished, Stopped, BadLine, TooLong, ReadFault, WriteFault, Memory}

-- how a run ends that stops after `lines` lines
abbrev pub ending_of : Halt → ℕ → Ending
ending_of halt.Stop lines = Stopped
ending_of halt.Rejected lines = BadLine (lines + 1)
ending_of halt.Write lines = WriteFault
ending_of halt.Memory lines = Memory

-- the fault with which a run ends, none if it ends well
abbrev pub fault_of : Ending → Option RunFault
fault_of Finished = None
fault_of Stopped = None
fault_of (BadLine number) = Some (faults.BadLine number)
fault_of TooLong = Some faults.InputTooLong
fault_of ReadFault = Some faults.Device
fault_of WriteFault = Some faults.Device
fault_of Memory = Some faults.OutOfMemory

-- the fault in the outcome of a run, none if it ended well
abbrev pub fault_in : Result (Unit {0}) RunFault → Option RunFault
fault_in (Ok done) = None
fault_in (Err fault) = Some fault

-- the exit status of a program that ends with this fault, or well
abbrev pub exit_status : Option RunFault → ℕ
exit_status None = 0
exit_status (Some fault) = table.status_of fault

-- the line that a program writes at its end, none if it ends well
abbrev pub last_line : Option RunFault → List ℕ
last_line None = []
last_line (Some fault) = table.fault_line fault

-- the exit status of a run
abbrev pub status_of : Ending → ℕ
status_of ending = exit_status (fault_of ending)

-- the line that a run writes about its fault, none if it ends well
abbrev pub fault_line : Ending → List ℕ
fault_line ending = last_line (fault_of ending)
