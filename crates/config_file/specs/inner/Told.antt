-- The result of reading a part of the table, by the faults of that part.
use Rattle.std.specs.Prelude.{◌≡◌, ℕ, ℤ, pos, negsuc, nat_le, ◌&&◌, if◌then◌else◌, Bool, true, false, Option, Some, None, option_map, Result, Ok, Err, List, [], slice_get}
use Rattle.std.specs.Str.{chars}
use Rattle.config_file.specs.declared.fault.ConfigFault.{ConfigFault}
use Rattle.config_file.specs.declared.fault.ConfigFault.TheVariants.{NotToml, Key, OutOfMemory}

-- the fault names the first of the faults, or memory ran out
abbrev pub IsFirst : List (List ℕ) → ConfigFault → Type 0
IsFirst faults (Key name) = option_map chars (slice_get faults 0) ≡ Some name
IsFirst faults NotToml = ⊥
IsFirst faults OutOfMemory = Unit {0}

-- the result is the value if there are no faults, else the first of them; or memory ran out
abbrev pub IsTold : {A : Type 0} → List (List ℕ) → A → Result A ConfigFault → Type 0
IsTold faults value (Ok told) = (faults ≡ []) × (told ≡ value)
IsTold faults value (Err fault) = IsFirst faults fault

-- there is a value exactly if the rule is kept, and it is this one
abbrev pub IsRead : {A : Type 0} → Bool → A → Option A → Type 0
IsRead kept value (Some read) = (kept ≡ true) × (read ≡ value)
IsRead kept value None = kept ≡ false

-- the integer as a number from the least to the greatest
abbrev pub ranged : ℕ → ℕ → ℤ → Option ℕ
ranged least greatest (pos n) = if nat_le least n && nat_le n greatest then Some n else None
ranged least greatest (negsuc n) = None
