-- What contracts see of a source.
use Rattle.std.specs.Prelude.{ℕ, Option, List}

-- the bytes that are left, if the source exposes them, and how often it has failed
pub record SourceState : Type 0 where
  pub left : Option (List ℕ)
  pub faults : ℕ
