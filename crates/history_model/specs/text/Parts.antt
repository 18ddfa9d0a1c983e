-- A text in two parts.
use Rattle.std.specs.Prelude.{ℕ, ◌+◌, ◌==◌, Option, option_map, List, take, drop, position}

-- the bytes before the first such byte and those after it, none if there is no such byte
abbrev pub parts_at : ℕ → List ℕ → Option (List ℕ × List ℕ)
parts_at byte text = option_map (λ at. (take at text, drop (at + 1) text)) (position (λ c. c == byte) text)
