-- What contracts see of the media table.
use Rattle.std.specs.Prelude.{◌≡◌, ◌≢◌, ℕ, ◌≤◌, true, List, [], ◌∷◌, length, map, All, Option, Some, None, option_and_then, slice_get, Result, Ok, Err}
use Rattle.std.specs.Ordering.{nat_cmp, is_lt}
use Rattle.std.specs.Cmp.Lexicographic.{slice_cmp}
use Rattle.std.specs.Str.{encode_utf8_all}
use Rattle.play_types.specs.ClipFile.{ClipView}
use Rattle.play_types.specs.Media.{MediaNameView, clip_name, unreadable_name}
use Rattle.play_types.specs.declared.clip_fault.ClipFault.{ClipFault}
use Rattle.play_types.specs.declared.clip_fault.ClipFault.TheVariants.{OutOfMemory}
use Rattle.clip_format.specs.Preparing.{IsLowered}
use Rattle.play_types.specs.declared.clip.TheConstants.{MULTIPLIED}
use Rattle.play_types.specs.declared.media.TheConstants.{MAX_MEDIA_NAMES}

-- a name and its clip, or the fault of its file
pub record Entry : Type 0 where
  pub name : List ℕ
  pub clip : Result ClipView ClipFault

-- the first name's bytes come before those of the second
abbrev pub IsBelow : List ℕ → List ℕ → Type 0
IsBelow first second = is_lt (slice_cmp nat_cmp (encode_utf8_all first) (encode_utf8_all second)) ≡ true

-- the name is above every name of the entries
abbrev pub IsAbove : List ℕ → List Entry → Type 0
IsAbove name entries = All (λ entry. IsBelow entry.name name) entries

-- each name is below all that come after it
abbrev pub IsRising : List Entry → Type 0
IsRising [] = Unit {0}
IsRising (entry ∷ entries) = All (λ later. IsBelow entry.name later.name) entries × IsRising entries

-- a clip is of version 1 and has no colour byte above its alpha, and a fault is not that memory ran out
abbrev pub IsReady : Result ClipView ClipFault → Type 0
IsReady (Ok clip) = (clip.version ≡ MULTIPLIED) × IsLowered clip
IsReady (Err fault) = fault ≢ OutOfMemory

-- the entries of a table: at most 4,294,967,295, their names rising, and their clips ready
pub record IsMediaTable (entries : List Entry) : Type 0 where
  pub few : length entries ≤ MAX_MEDIA_NAMES
  pub rising : IsRising entries
  pub ready : All (λ entry. IsReady entry.clip) entries

-- the clip, if the file is readable
abbrev pub readable : Result ClipView ClipFault → Option ClipView
readable (Ok clip) = Some clip
readable (Err fault) = None

-- the clip of the entry with this number, if there is one and it is readable
abbrev pub clip_at : List Entry → ℕ → Option ClipView
clip_at entries id = option_and_then (λ entry. readable entry.clip) (slice_get entries id)

-- a name with the size and the number of frames of its clip, or as unreadable
abbrev pub media_name : List ℕ → Result ClipView ClipFault → MediaNameView
media_name name (Ok clip) = clip_name name clip.geometry clip.frames
media_name name (Err fault) = unreadable_name name

-- the names of a table, in its order
abbrev pub media_names : List Entry → List MediaNameView
media_names entries = map (λ entry. media_name entry.name entry.clip) entries
