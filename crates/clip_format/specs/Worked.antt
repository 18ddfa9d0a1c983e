-- Words for the worked examples.
use Rattle.std.specs.Prelude.{ℕ, List}
use Rattle.play_types.specs.ClipFile.{ClipView}

-- a clip of two frames, of one pixel and one pair of sound each
abbrev pub small_clip : ℕ → List ℕ → ClipView
small_clip version bytes =
    record { version = version; geometry = record { width = 1; height = 1; pairs = 1 }; frames = 2; bytes = bytes }
