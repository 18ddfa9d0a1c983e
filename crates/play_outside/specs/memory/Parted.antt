-- Bytes that are given once, from the first to the last.
use Rattle.std.specs.Prelude.{ℕ, List}

-- the bytes that were given, and those that are left
pub record Parted : Type 0 where
  pub given : List ℕ
  pub left : List ℕ
