-- The media table of a folder.
use Rattle.std.specs.Prelude.{◌≡◌, ℕ, ◌+◌, ◌<◌, max, nat_lt, if◌then◌else◌, List, [], ◌∷◌, length, map, filter, bytes_eq, Option, Some, None, unwrap_or, Result, Ok, Err}
use Rattle.std.specs.Str.{chars}
use Rattle.play_outside.specs.Faults.{Rose}
use Rattle.play_outside.specs.FolderState.{FolderState, Files}
use Rattle.play_outside.specs.Folder.{bytes_at}
use Rattle.play_types.specs.ClipFile.{ClipView}
use Rattle.play_types.specs.declared.clip_fault.ClipFault.{ClipFault}
use Rattle.clip_format.specs.Decoding.{clip_of}
use Rattle.clip_format.specs.Preparing.{prepared_clip}
use Rattle.clip_format.specs.Table.{Entry}
use Rattle.clip_store.specs.declared.reading.TheConstants.{MAX_MEDIA_BYTES}
use Rattle.clip_store.specs.declared.fault.ScanFault.{ScanFault}
use Rattle.clip_store.specs.declared.fault.ScanFault.TheVariants.{ReadFault, TwoNames, TooLarge, OutOfMemory}
use Rattle.clip_store.specs.Listing.{Found, clip_files, sorted, first_twice}

-- the bytes of a file of the folder
abbrev pub bytes_of : List ℕ → Files → Found → List ℕ
bytes_of folder files found = unwrap_or (bytes_at folder found.file files) []

-- the clip in the table, of version 1 with its pixels prepared, or the fault of the file
abbrev pub kept_clip : Result ClipView ClipFault → Result ClipView ClipFault
kept_clip (Ok clip) = Ok (prepared_clip clip)
kept_clip (Err fault) = Err fault

-- the entry of a clip file
abbrev pub entry : List ℕ → Files → Found → Entry
entry folder files found =
    record { name = chars found.name; clip = kept_clip (clip_of (bytes_of folder files found)) }

-- how many bytes a file counts as: its length, or 1 if it is empty
abbrev pub weight : List ℕ → Files → Found → ℕ
weight folder files found = max (length (bytes_of folder files found)) 1

-- the first sum above the limit, if the numbers are added to a sum so far one after the other
abbrev pub first_above : ℕ → List ℕ → Option ℕ
first_above sum [] = None
first_above sum (number ∷ numbers) =
    if nat_lt MAX_MEDIA_BYTES (sum + number) then Some (sum + number) else first_above (sum + number) numbers

-- the entries of clip files, or a fault if the files are too large
abbrev pub unless_large : Option ℕ → List Entry → Result (List Entry) ScanFault
unless_large (Some total) entries = Err (TooLarge total)
unless_large None entries = Ok entries

-- the table of clip files that are read in this order
unfoldable pub table_of : List ℕ → Files → List Found → Result (List Entry) ScanFault
table_of folder files order =
    unless_large (first_above 0 (map (weight folder files) order)) (map (entry folder files) order)

-- the table, or a fault if two clip files have one name
abbrev pub unless_twice : Option (List ℕ) → Result (List Entry) ScanFault → Result (List Entry) ScanFault
unless_twice (Some name) table = Err (TwoNames (chars name))
unless_twice None table = table

-- the clip files of a folder in rising order of their names
unfoldable pub ordered : List ℕ → Files → List Found
ordered folder files =
    sorted (clip_files (map (λ file. file.name) (filter (λ file. bytes_eq file.folder folder) files.media)))

-- the media table of a folder, or its fault
unfoldable pub scanned : List ℕ → Files → Result (List Entry) ScanFault
scanned folder files =
    unless_twice (first_twice (ordered folder files)) (table_of folder files (ordered folder files))

-- the result is the one of the folder's files, if these are known
abbrev pub Tells : (Files → Result (List Entry) ScanFault) → Result (List Entry) ScanFault → Option Files → Type 0
Tells told answer None = Unit {0}
Tells told answer (Some files) = answer ≡ told files

-- the result is the one of the folder's files, and nothing changed; or a read failed, and the count of faults rose; or memory ran out, and
-- nothing changed
abbrev pub Answers : (Files → Result (List Entry) ScanFault) → Result (List Entry) ScanFault → FolderState → FolderState → Type 0
Answers told (Ok table) before after = Tells told (Ok table) before.files × (after ≡ before)
Answers told (Err (TwoNames name)) before after = Tells told (Err (TwoNames name)) before.files × (after ≡ before)
Answers told (Err (TooLarge total)) before after =
    Tells told (Err (TooLarge total)) before.files × (MAX_MEDIA_BYTES < total) × (after ≡ before)
Answers told (Err ReadFault) before after = (after.files ≡ before.files) × Rose before.faults after.faults
Answers told (Err OutOfMemory) before after = after ≡ before
