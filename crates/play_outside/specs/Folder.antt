-- What reading from a folder gives.
use Rattle.std.specs.Prelude.{◌≡◌, ℕ, Option, Some, None, List, map, filter, find, ◌&&◌, option_map}
use Rattle.std.specs.Str.{bytes_eq}
use Rattle.play_outside.specs.Faults.{Rose}
use Rattle.play_outside.specs.FolderState.{FolderState, Files}
use Rattle.play_outside.specs.declared.folder.FileFault.{FileFault}
use Rattle.play_outside.specs.declared.folder.FileFault.TheVariants.{Failed, OutOfMemory}

-- the bytes of the first configuration of that path
abbrev pub config_at : List ℕ → Files → Option (List ℕ)
config_at path files = option_map (λ file. file.bytes) (find (λ file. bytes_eq file.path path) files.configs)

-- the names of the files of a folder
abbrev pub names_in : List ℕ → Files → Option (List (List ℕ))
names_in folder files = Some (map (λ file. file.name) (filter (λ file. bytes_eq file.folder folder) files.media))

-- the bytes of the first file of that folder and name
abbrev pub bytes_at : List ℕ → List ℕ → Files → Option (List ℕ)
bytes_at folder name files =
    option_map (λ file. file.bytes) (find (λ file. bytes_eq file.folder folder && bytes_eq file.name name) files.media)

-- what was found is what the folder holds, if the folder exposes it
abbrev pub IsHeld : {A : Type 0} → (Files → Option A) → A → Option Files → Type 0
IsHeld look found None = Unit {0}
IsHeld look found (Some files) = look files ≡ Some found

abbrev pub Finds : {A : Type 0} → (Files → Option A) → A → FolderState → FolderState → Type 0
Finds look found before after = IsHeld look found before.files × (after ≡ before)

-- what is held stays, and the count of faults rose unless memory ran out
abbrev pub Misses : FileFault → FolderState → FolderState → Type 0
Misses Failed before after = (after.files ≡ before.files) × Rose before.faults after.faults
Misses OutOfMemory before after = after ≡ before
