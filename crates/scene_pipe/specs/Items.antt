-- What goes through the rings of a pipe.
use Rattle.std.specs.Prelude.{◌≡◌, ◌==◌, ℕ, Bool, true, false, List, [], ◌∷◌, length}
use Rattle.scene_pipe.specs.declared.item.Taken.{Taken}
use Rattle.scene_pipe.specs.declared.item.Taken.TheVariants.{Staged, Done}
use Rattle.scene_pipe.specs.declared.item.Returned.{Returned}
use Rattle.scene_pipe.specs.declared.item.Returned.TheVariants.{Free, Broken}
use Rattle.scene_pipe.specs.declared.item.Room.{Room}
use Rattle.scene_pipe.specs.declared.item.Room.TheVariants as room

-- whether an item has scenes for this number of channels, if it has any
abbrev pub fits_taken : ℕ → Taken → Bool
fits_taken channels (Staged tick scenes) = length scenes == channels
fits_taken channels Done = true

-- whether what came back has scenes for this number of channels
abbrev pub fits_returned : ℕ → Returned → Bool
fits_returned channels (Free scenes) = length scenes == channels
fits_returned channels (Broken channel scenes) = length scenes == channels

-- what the staging side gets from an item that came back: scenes to fill, or the report of a failed output
abbrev pub room_of : Returned → Room
room_of (Free scenes) = room.Free scenes
room_of (Broken channel scenes) = room.Broken channel

-- whether the end mark comes last, and nowhere else
abbrev pub is_closed : List Taken → Bool
is_closed [] = false
is_closed (Staged tick scenes ∷ items) = is_closed items
is_closed (Done ∷ []) = true
is_closed (Done ∷ item ∷ items) = false

-- the end mark was sent or taken, after all else
abbrev pub IsClosed : List Taken → Type 0
IsClosed items = is_closed items ≡ true
