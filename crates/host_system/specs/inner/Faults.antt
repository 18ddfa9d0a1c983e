-- The fault of a file that was not read.
use Rattle.std.specs.IoError.{error_kind}
use Rattle.std.specs.declared.io.ErrorKind.{ErrorKind}
use Rattle.std.specs.declared.io.ErrorKind.TheVariants as kind
use Rattle.play_outside.specs.declared.folder.FileFault.{FileFault}
use Rattle.play_outside.specs.declared.folder.FileFault.TheVariants.{Failed, OutOfMemory}
use Rattle.host_system.specs.declared.read_fault.ReadFault.{ReadFault}
use Rattle.host_system.specs.declared.read_fault.ReadFault.TheVariants.{NotRegular, System}

-- lack of memory has a fault of its own, and every other error of the system is a failure
abbrev pub fault_of_kind : ErrorKind → FileFault
fault_of_kind kind.OutOfMemory = OutOfMemory
fault_of_kind _ = Failed

-- the fault of a file or a folder that was not read
abbrev pub fault_of : ReadFault → FileFault
fault_of NotRegular = Failed
fault_of (System error) = fault_of_kind (error_kind error)
