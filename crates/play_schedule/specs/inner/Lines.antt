-- The lines of a text.
use Rattle.std.specs.Prelude.{◌≡◌, ℕ, ◌<◌, List, ◌∷◌, length}
use Rattle.std.specs.Str.Lines.{lines}

-- a text has this first line, and its other lines are those of the shorter rest
pub record StartsWithLine (text line rest : List ℕ) : Type 0 where
  pub lines : lines text ≡ line ∷ lines rest
  pub shorter : length rest < length text
