-- The fault of a run that goes on from a history.
use Rattle.server_setup.specs.declared.fault.RunFault.{RunFault}
use Rattle.server_setup.specs.declared.fault.RunFault.TheVariants as run_fault
use Rattle.history_reader.specs.declared.fault.ReadHistoryFault.{ReadHistoryFault}
use Rattle.history_reader.specs.declared.fault.ReadHistoryFault.TheVariants.{Line, Device, OutOfMemory, TooLong}

-- the fault of a run whose history is not read: the number of the faulty line; or the input is too long; or a read failed; or memory ran out
abbrev pub fault_of_history : ReadHistoryFault → RunFault
fault_of_history (Line number) = run_fault.Resume number
fault_of_history Device = run_fault.Device
fault_of_history OutOfMemory = run_fault.OutOfMemory
fault_of_history TooLong = run_fault.InputTooLong
