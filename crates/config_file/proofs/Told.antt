-- First faults of lists of faults that follow one another.
use Rattle.std.proofs.Common.{◌≡◌, ℕ, List, [], ◌∷◌, ◌++◌, Result, Ok, Err, IsErr, IsErrAnd}
use Rattle.std.proofs.lemmas.Bool.{false≢true}
use Rattle.config_file.specs.inner.Told.{IsFirst, IsTold}
use Rattle.config_file.specs.declared.fault.ConfigFault.{ConfigFault}
use Rattle.config_file.specs.declared.fault.ConfigFault.TheVariants.{NotToml, Key, OutOfMemory}

-- the first fault of a list is the first of it with more after it
pub first_before : (faults more : List (List ℕ)) (fault : ConfigFault) → IsFirst faults fault → IsFirst (faults ++ more) fault
first_before faults more OutOfMemory first = tt
first_before faults more NotToml first = absurd first
first_before [] more (Key name) first = cc
first_before (f ∷ faults) more (Key name) first = first

-- if there is none before, it is the first of what follows
pub first_after : (before faults : List (List ℕ)) (fault : ConfigFault) → before ≡ [] → IsFirst faults fault → IsFirst (before ++ faults) fault
first_after before faults fault none first = rw none first

-- two lists without faults are one without faults
pub none_in_both : (before after : List (List ℕ)) → before ≡ [] → after ≡ [] → before ++ after ≡ []
none_in_both before after none more = rw (none, more)

-- a result that is the first fault is a right one
pub told_fault : {A : Type 0} (faults : List (List ℕ)) (value : A) (result : Result A ConfigFault) (fault : ConfigFault) → IsErr result
    → IsErrAnd result (λ told. told ≡ fault) → IsFirst faults fault → IsTold faults value result
told_fault faults value (Ok told) fault refused same first = absurd (false≢true refused)
told_fault faults value (Err told) fault refused same first = rw same first
