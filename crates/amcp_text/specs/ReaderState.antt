-- What contracts see of a line reader.
use Rattle.std.specs.Prelude.{ℕ, Bool, List}

-- the bytes of the line that are kept, whether more of them came, and whether the line's end has come
pub record ReaderState : Type 0 where
  pub kept : List ℕ
  pub over : Bool
  pub held : Bool
