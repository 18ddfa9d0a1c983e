-- The media table of a folder, from the files that were listed.
use Rattle.std.proofs.Common.{◌≡◌, ℕ, List, [], refl, sym, ap, subst, ◌∙◌, Result, Ok, Err}
use Rattle.std.specs.Prelude.{Option, Some, None, unwrap_or}
use Rattle.std.specs.Str.{chars}
use Rattle.play_outside.specs.FolderState.{FolderState, Files}
use Rattle.play_outside.specs.Folder.{IsHeld, names_in}
use Rattle.clip_format.specs.Table.{Entry}
use Rattle.clip_store.specs.declared.fault.ScanFault.{ScanFault}
use Rattle.clip_store.specs.declared.fault.ScanFault.TheVariants.{ReadFault, TwoNames, TooLarge, OutOfMemory}
use Rattle.clip_store.specs.Listing.{Found, clip_files, sorted, first_twice}
use Rattle.clip_store.specs.inner.Orders.{IsStrict}
use Rattle.clip_store.specs.Scan.{ordered, table_of, scanned, Tells, Answers}
use Rattle.clip_store.proofs.Sorting.{IsRisingBy-sorted}
use Rattle.clip_store.proofs.Twice.{IsStrict-from}

-- `order` is the folder's clip files in order, if its files are known
abbrev pub AreOrdered : List ℕ → Option Files → List Found → Type 0
AreOrdered folder None order = Unit {0}
AreOrdered folder (Some files) order = ordered folder files ≡ order

-- the files that were listed, in order
pub AreOrdered-listed : (folder : List ℕ) (o : Option Files) (listed : List (List ℕ)) (order : List Found) → IsHeld (names_in folder) listed o → order ≡ sorted (clip_files listed) → AreOrdered folder o order
unfolding ordered
AreOrdered-listed folder None listed order held is = tt
AreOrdered-listed folder (Some files) listed order held is =
    ap (λ (names : Option (List (List ℕ))). sorted (clip_files (unwrap_or names []))) held ∙ sym is

-- the table of these files is the folder's, if no two have one name
Tells-scanned : (folder : List ℕ) (o : Option Files) (order : List Found) (answer : Result (List Entry) ScanFault) → AreOrdered folder o order → first_twice order ≡ None
    → Tells (λ files. table_of folder files order) answer o → Tells (scanned folder) answer o
unfolding scanned
Tells-scanned folder None order answer are once tells = tt
Tells-scanned folder (Some files) order answer are once tells = rw (are, once) tells

-- a name that two files have is the fault of the folder
pub Tells-twice : (folder : List ℕ) (o : Option Files) (order : List Found) (name : List ℕ) → AreOrdered folder o order → first_twice order ≡ Some name
    → Tells (scanned folder) (Err (TwoNames (chars name))) o
unfolding scanned
Tells-twice folder None order name are twice = tt
Tells-twice folder (Some files) order name are twice = rw (are, twice) refl

-- the result of reading these files is that of the scan
pub Answers-scanned : (folder : List ℕ) (order : List Found) (answer : Result (List Entry) ScanFault) (before after : FolderState) → AreOrdered folder before.files order → first_twice order ≡ None
    → Answers (λ files. table_of folder files order) answer before after → Answers (scanned folder) answer before after
Answers-scanned folder order (Ok table) before after are once a = (Tells-scanned folder before.files order (Ok table) are once a.0, a.1)
Answers-scanned folder order (Err (TwoNames name)) before after are once a = (Tells-scanned folder before.files order (Err (TwoNames name)) are once a.0, a.1)
Answers-scanned folder order (Err (TooLarge total)) before after are once a = (Tells-scanned folder before.files order (Err (TooLarge total)) are once a.0, a.1, a.2)
Answers-scanned folder order (Err ReadFault) before after are once a = a
Answers-scanned folder order (Err OutOfMemory) before after are once a = a

-- ordered files of which no two have one name have strictly rising names
pub IsStrict-listed : (listed : List (List ℕ)) (order : List Found) → order ≡ sorted (clip_files listed) → first_twice order ≡ None → IsStrict order
IsStrict-listed listed order is once =
    subst IsStrict (sym is) (IsStrict-from (sorted (clip_files listed)) (IsRisingBy-sorted (clip_files listed)) (ap first_twice (sym is) ∙ once))
