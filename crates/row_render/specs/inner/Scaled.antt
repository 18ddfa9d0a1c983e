-- A row of a picture that was scaled.
use Rattle.std.specs.Prelude.{ℕ, List}

-- the row of a picture, the width of the raster that it was scaled to, and the bytes that there is room for
pub record ScaledView : Type 0 where
  pub source : List ℕ
  pub width : ℕ
  pub room : ℕ
