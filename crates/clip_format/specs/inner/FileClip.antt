-- The clip of a header that was read and the bytes of its file.
use Rattle.std.specs.Prelude.{ℕ, List, drop}
use Rattle.play_types.specs.ClipFile.{ClipView}
use Rattle.clip_format.specs.declared.header.Header.{Header}

-- the clip of a file with this header
abbrev pub file_clip : Header → List ℕ → ClipView
file_clip header bytes = record { version = header.version; geometry = header.size; frames = header.frames; bytes = drop 20 bytes }
