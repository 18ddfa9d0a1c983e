-- The words of a command line.
use Rattle.std.specs.Prelude.{◌≡◌, ◌≢◌, Result, Ok, Err, String, drop}
use Rattle.std.specs.Global.{Global, Vec}
use Rattle.std.specs.Vec.Iter.{into_iter_items}
use Rattle.std.specs.IoError.{error_kind}
use Rattle.std.specs.declared.io.Error.{Error}
use Rattle.std.specs.declared.io.ErrorKind.TheVariants as kind
use Rattle.std.specs.declared.vec.IntoIter.{IntoIter}
use Rattle.server_setup.specs.declared.fault.RunFault.{RunFault}
use Rattle.server_setup.specs.declared.fault.RunFault.TheVariants as run
use Rattle.host_system.specs.declared.words.WordsFault.{WordsFault}
use Rattle.host_system.specs.declared.words.WordsFault.TheVariants.{Unreadable, OutOfMemory}

-- the words are the arguments of the process without the first, which is the program's name, or memory ran out; if the system gives no
-- arguments, they are unreadable, or memory ran out if that is the system's error
abbrev pub TakesWords : Result (IntoIter (String Global) Global) Error → Result (Vec (String Global)) WordsFault → Type 0
TakesWords (Ok args) (Ok words) = words.items ≡ drop 1 (into_iter_items args)
TakesWords (Ok args) (Err Unreadable) = ⊥
TakesWords (Ok args) (Err OutOfMemory) = Unit {0}
TakesWords (Err error) (Ok words) = ⊥
TakesWords (Err error) (Err Unreadable) = error_kind error ≢ kind.OutOfMemory
TakesWords (Err error) (Err OutOfMemory) = error_kind error ≡ kind.OutOfMemory

-- the fault of a run whose words could not be read: unreadable words are no command line
abbrev pub run_fault_of : WordsFault → RunFault
run_fault_of Unreadable = run.Usage
run_fault_of OutOfMemory = run.OutOfMemory
