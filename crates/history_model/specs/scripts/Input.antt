-- The lines of a script, as they are received.
use Rattle.std.specs.Prelude.{ℕ, ◌+◌, ◌==◌, nat_le, if◌then◌else◌, Bool, true, false, List, [], ◌∷◌, ◌++◌, length}
use Rattle.std.specs.List.{slice_split}
use Rattle.std.specs.Str.Lines.{strip_carriage_return, lines}
use Rattle.history_model.specs.declared.limits.TheConstants.{MAX_SCRIPT_LINE_BYTES}

-- the parts between line feeds: each part but the last ended with one
abbrev pub parts : List ℕ → List (List ℕ)
parts bytes = slice_split (λ b. b == 10) bytes

-- the parts that ended, each without one carriage return at its end
abbrev pub ended_parts : List (List ℕ) → List (List ℕ)
ended_parts [] = []
ended_parts (part ∷ []) = []
ended_parts (part ∷ next ∷ more) = strip_carriage_return part ∷ ended_parts (next ∷ more)

abbrev pub last_part : List (List ℕ) → List ℕ
last_part [] = []
last_part (part ∷ []) = part
last_part (part ∷ next ∷ more) = last_part (next ∷ more)

-- the lines that have ended
unfoldable pub ended_lines : List ℕ → List (List ℕ)
ended_lines bytes = ended_parts (parts bytes)

-- what follows the last line feed
unfoldable pub unended : List ℕ → List ℕ
unended bytes = last_part (parts bytes)

-- a line that has not ended is received once it has two bytes more than a line may have: one of them may be the carriage return
-- of its end, so it is too long, whatever follows
abbrev pub overlong : List ℕ → List (List ℕ)
overlong text = if nat_le (MAX_SCRIPT_LINE_BYTES + 2) (length text) then text ∷ [] else []

-- the lines that are received once these bytes were read, and the end of the input too or not
abbrev pub received : List ℕ → Bool → List (List ℕ)
received bytes true = lines bytes
received bytes false = ended_lines bytes ++ overlong (unended bytes)
