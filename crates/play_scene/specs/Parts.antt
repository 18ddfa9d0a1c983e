-- The parts of frames that have their pixels together.
use Rattle.std.specs.Prelude.{◌≡◌, ℕ, ◌+◌, List, [], ◌∷◌, length, take, drop, replicate}
use Rattle.play_scene.specs.Frames.{ArePixels, FrameView, picture_length}
use Rattle.play_scene.specs.declared.part.Part.{Part}

-- the frame of a part, whose pixels are the first of these bytes
abbrev pub frame_of : Part → List ℕ → FrameView
frame_of part pixels = record { size = part.size; bytes = take (picture_length part.size) pixels; sound = part.sound.items }

-- the frames of parts, each with the pixels that follow those of the parts before
abbrev pub frames_of : List Part → List ℕ → List FrameView
frames_of [] pixels = []
frames_of (part ∷ parts) pixels = frame_of part pixels ∷ frames_of parts (drop (picture_length part.size) pixels)

-- the transparent frame of a part
abbrev pub transparent : Part → FrameView
transparent part = record { size = part.size; bytes = replicate (picture_length part.size) 0; sound = part.sound.items }

-- the number of bytes of the pixels of all parts
abbrev pub parts_length : List Part → ℕ
parts_length [] = 0
parts_length (part ∷ parts) = picture_length part.size + parts_length parts

-- the pixels of the first part begin at this byte, and those of each other one at the end of those before
abbrev pub BeginAt : ℕ → List Part → Type 0
BeginAt at [] = Unit {0}
BeginAt at (part ∷ parts) = (part.start ≡ at) × BeginAt (at + picture_length part.size) parts

-- the parts have all of these bytes as their pixels, none with a colour byte above its alpha
pub record ArePartsOf (bytes : List ℕ) (parts : List Part) : Type 0 where
  pub starts : BeginAt 0 parts
  pub counted : length bytes ≡ parts_length parts
  pub pixels : ArePixels bytes
