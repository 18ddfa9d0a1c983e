-- Files in memory that are found by their names.
use Rattle.std.proofs.Common.{◌≡◌, ap, refl, arith, ℕ, Bool, List, [], ◌∷◌, map}
use Rattle.std.specs.Prelude.{Some, option_map, string_bytes, bytes_eq, ◌&&◌}
use Rattle.std.specs.List.{find, filter}
use Rattle.play_outside.specs.Folder.{config_at, names_in, bytes_at}
use Rattle.play_outside.specs.memory.Media.{config_file, media_file, files_of}
use Rattle.play_outside.specs.declared.memory.media.MemConfig.{MemConfig}
use Rattle.play_outside.specs.declared.memory.media.MemFile.{MemFile}

abbrev bytes_of_config : MemConfig → List ℕ
bytes_of_config config = config.bytes.items

abbrev bytes_of_file : MemFile → List ℕ
bytes_of_file file = file.bytes.items

abbrev name_of_file : MemFile → List ℕ
name_of_file file = string_bytes file.name

-- finding in the images of a list gives the image of what is found in the list
option_map-find-map : {X Y Z : Type 0} (g : Y → Z) (f : X → Y) (test : Y → Bool) (xs : List X)
    → option_map g (find test (map f xs)) ≡ option_map (λ x. g (f x)) (find (λ x. test (f x)) xs)
option_map-find-map g f test [] = refl
option_map-find-map g f test (x ∷ xs) = grind (arith, option_map-find-map g f test xs)

map-filter-map : {X Y Z : Type 0} (g : Y → Z) (f : X → Y) (test : Y → Bool) (xs : List X)
    → map g (filter test (map f xs)) ≡ map (λ x. g (f x)) (filter (λ x. test (f x)) xs)
map-filter-map g f test [] = refl
map-filter-map g f test (x ∷ xs) = grind (arith, map-filter-map g f test xs)

-- the first configuration of a path
pub config_at-files_of : (path : List ℕ) (configs : List MemConfig) (media : List MemFile)
    → config_at path (files_of configs media) ≡ option_map bytes_of_config (find (λ config. bytes_eq (string_bytes config.path) path) configs)
config_at-files_of path configs media = option_map-find-map _ config_file _ configs

-- the first file of a folder and a name
pub bytes_at-files_of : (folder name : List ℕ) (configs : List MemConfig) (media : List MemFile)
    → bytes_at folder name (files_of configs media)
    ≡ option_map bytes_of_file (find (λ file. bytes_eq (string_bytes file.folder) folder && bytes_eq (string_bytes file.name) name) media)
bytes_at-files_of folder name configs media = option_map-find-map _ media_file _ media

-- the names of the files of a folder
pub names_in-files_of : (folder : List ℕ) (configs : List MemConfig) (media : List MemFile)
    → names_in folder (files_of configs media)
    ≡ Some (map name_of_file (filter (λ file. bytes_eq (string_bytes file.folder) folder) media))
names_in-files_of folder configs media = ap Some (map-filter-map _ media_file _ media)
