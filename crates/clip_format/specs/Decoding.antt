-- How the bytes of a clip file are read.
use Rattle.std.specs.Prelude.{ℕ, ◌+◌, ◌-◌, ◌*◌, ◌==◌, ◌&&◌, nat_lt, nat_le, Bool, if◌then◌else◌, List, [], ◌∷◌, length, take, drop, codes, bytes_eq, Option, Some, None, Result, Ok, Err}
use Rattle.std.specs.Int.{w16, w32, from_be_bytes}
use Rattle.play_types.specs.declared.clip.TheConstants.{MAX_FRAMES, MULTIPLIED, STRAIGHT}
use Rattle.play_types.specs.declared.geometry.TheConstants.{MAX_SIDE, MAX_PAIRS}
use Rattle.play_types.specs.declared.geometry.Geometry.{Geometry}
use Rattle.play_types.specs.Geometry.{frame_bytes}
use Rattle.play_types.specs.ClipFile.{ClipView}
use Rattle.play_types.specs.declared.clip_fault.ClipFault.{ClipFault}
use Rattle.play_types.specs.declared.clip_fault.ClipFault.TheVariants.{BadMagic, BadVersion, BadField, Short, Long}

-- the number of the two bytes at a place, the higher one first
abbrev pub number_of_2 : List ℕ → ℕ → ℕ
number_of_2 bytes at = from_be_bytes w16 (take 2 (drop at bytes))

-- the number of the four bytes at a place, the highest one first
abbrev pub number_of_4 : List ℕ → ℕ → ℕ
number_of_4 bytes at = from_be_bytes w32 (take 4 (drop at bytes))

-- the number is from `low` to `high`
abbrev pub is_within : ℕ → ℕ → ℕ → Bool
is_within low high number = nat_le low number && nat_le number high

-- the version that a header names
abbrev pub header_version : List ℕ → ℕ
header_version bytes = number_of_2 bytes 4

-- the fields of a header, from the front: whether each is accepted, and the fault if it is not
abbrev pub header_fields : List ℕ → List (Bool × ClipFault)
header_fields bytes =
    (bytes_eq (take 4 bytes) (codes "RCLP"), BadMagic)
    ∷ (is_within MULTIPLIED STRAIGHT (header_version bytes), BadVersion)
    ∷ (number_of_2 bytes 6 == 0, BadField 6)
    ∷ (is_within 1 MAX_SIDE (number_of_2 bytes 8), BadField 8)
    ∷ (is_within 1 MAX_SIDE (number_of_2 bytes 10), BadField 10)
    ∷ (is_within 1 MAX_FRAMES (number_of_4 bytes 12), BadField 12)
    ∷ (is_within 0 MAX_PAIRS (number_of_2 bytes 16), BadField 16)
    ∷ (number_of_2 bytes 18 == 0, BadField 18)
    ∷ []

-- the fault of the first field that is not accepted
abbrev pub first_fault : List (Bool × ClipFault) → Option ClipFault
first_fault [] = None
first_fault (field ∷ fields) = if field.0 then first_fault fields else Some field.1

-- the fault of a header
unfoldable pub header_fault : List ℕ → Option ClipFault
header_fault bytes = first_fault (header_fields bytes)

-- the columns, rows and pairs that a header names
abbrev pub header_size : List ℕ → Geometry
header_size bytes =
    record { width = number_of_2 bytes 8; height = number_of_2 bytes 10; pairs = number_of_2 bytes 16 }

-- the frames that a header names
abbrev pub header_frames : List ℕ → ℕ
header_frames bytes = number_of_4 bytes 12

-- the length of the file that a header announces
abbrev pub announced : List ℕ → ℕ
announced bytes = 20 + header_frames bytes * frame_bytes (header_size bytes)

-- the fault of the header, if it has one; else Short or Long, if the length is not the announced one; else the clip
abbrev pub clip_after : List ℕ → Option ClipFault → Result ClipView ClipFault
clip_after bytes (Some fault) = Err fault
clip_after bytes None =
    if nat_lt (length bytes) (announced bytes) then Err (Short (announced bytes) (length bytes))
    else (if nat_lt (announced bytes) (length bytes) then Err (Long (length bytes - announced bytes))
    else Ok (record { version = header_version bytes; geometry = header_size bytes; frames = header_frames bytes; bytes = drop 20 bytes }))

-- the clip of a file, or its fault: a header cut short, then the header's fields, then the length
unfoldable pub clip_of : List ℕ → Result ClipView ClipFault
clip_of bytes =
    if nat_lt (length bytes) 20 then Err (Short 20 (length bytes)) else clip_after bytes (header_fault bytes)
