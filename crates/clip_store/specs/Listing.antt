-- The clip files of a folder.
use Rattle.std.specs.Prelude.{ℕ, ◌-◌, List, [], ◌∷◌, length, take, codes, nat_eq, bytes_eq, if◌then◌else◌, Option, Some, None}
use Rattle.std.specs.List.{ends_with, filter_map}
use Rattle.std.specs.declared.cmp.Ordering.{Ordering}
use Rattle.std.specs.Ordering.{nat_cmp, is_gt, ordering_then}
use Rattle.std.specs.Cmp.Lexicographic.{slice_cmp}
use Rattle.std.specs.Str.{str_to_ascii_uppercase}

-- a clip file: the name of its clip, and the name of the file
pub record Found : Type 0 where
  pub name : List ℕ
  pub file : List ℕ

-- the clip file of a file whose name ends in .rclp, in any ASCII case: its clip's name is what comes before that, in ASCII upper case
abbrev pub clip_file : List ℕ → Option Found
clip_file file =
    let name = str_to_ascii_uppercase file in
    if ends_with nat_eq name (codes ".RCLP") then Some (record { name = take (length name - 5) name; file = file }) else None

-- the clip files among these files
abbrev pub clip_files : List (List ℕ) → List Found
clip_files files = filter_map clip_file files

-- the order of two clip files: by the bytes of their clips' names, and then of their own
abbrev pub compared : Found → Found → Ordering
compared x y = ordering_then (slice_cmp nat_cmp x.name y.name) (slice_cmp nat_cmp x.file y.file)

-- ordered files with one more inserted in order
abbrev pub placed : Found → List Found → List Found
placed x [] = x ∷ []
placed x (y ∷ ys) = if is_gt (compared x y) then y ∷ placed x ys else x ∷ y ∷ ys

-- the files in rising order
abbrev pub sorted : List Found → List Found
sorted [] = []
sorted (x ∷ xs) = placed x (sorted xs)

-- the first name that two of the ordered files have, which is the least such name
abbrev pub first_twice : List Found → Option (List ℕ)
first_twice [] = None
first_twice (x ∷ []) = None
first_twice (x ∷ y ∷ ys) = if bytes_eq x.name y.name then Some x.name else first_twice (y ∷ ys)
