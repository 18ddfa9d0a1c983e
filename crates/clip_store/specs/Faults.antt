-- Faults of a folder as faults of a scan.
use Rattle.play_outside.specs.declared.folder.FileFault.{FileFault}
use Rattle.play_outside.specs.declared.folder.FileFault.TheVariants as file
use Rattle.clip_store.specs.declared.fault.ScanFault.{ScanFault}
use Rattle.clip_store.specs.declared.fault.ScanFault.TheVariants.{ReadFault, OutOfMemory}

-- the fault of a scan for a fault of its folder: a failed call is a read fault, and out of memory stays out of memory
abbrev pub fault_of : FileFault → ScanFault
fault_of file.Failed = ReadFault
fault_of file.OutOfMemory = OutOfMemory
