-- Lines that wait for the digests of frames that are kept.
use Rattle.std.specs.Prelude.{◌≡◌, ℕ, ◌<◌, List, [], All, get_or, length}
use Rattle.std.specs.List.{flat_map}
use Rattle.history_model.specs.text.Frames.{digest_line}
use Rattle.frame_digests.specs.declared.waiting.Waiting.{Waiting}
use Rattle.frame_digests.specs.declared.waiting.WaitingLine.{WaitingLine}

-- the frame at a place, with its sound, has these bytes
abbrev pub IsKeptAt : List (List ℕ) → ℕ → List ℕ → Type 0
IsKeptAt frames at bytes = (at < length frames) × (get_or frames at [] ≡ bytes)

-- each line has a frame
abbrev pub HasFrames : List (List ℕ) → List WaitingLine → Type 0
HasFrames frames lines = All (λ (line : WaitingLine). line.frame < length frames) lines

abbrev pub AreKept : Waiting → Type 0
AreKept waiting = HasFrames waiting.frames.items waiting.lines.items

-- what is written for a line
abbrev pub line_text : List (List ℕ) → WaitingLine → List ℕ
line_text frames line = digest_line line.channel line.tick (get_or frames line.frame []) []

-- what is written for lines
abbrev pub lines_text : List (List ℕ) → List WaitingLine → List ℕ
lines_text frames lines = flat_map (line_text frames) lines

abbrev pub text_of : Waiting → List ℕ
text_of waiting = lines_text waiting.frames.items waiting.lines.items
