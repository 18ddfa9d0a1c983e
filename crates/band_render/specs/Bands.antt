-- Bands that have the rows of frames, and that a gate has let in.
use Rattle.std.specs.Prelude.{◌≡◌, ◌<◌, ℕ, Bool, true, List, All, get_or, length}
use Rattle.play_types.specs.declared.geometry.Geometry.{Geometry}
use Rattle.band_render.specs.declared.band.Band.{Band}
use Rattle.band_render.specs.Rows.{rows_of_bands, rows_of_frames}

-- the bands are numbered from 0, in order
abbrev pub AreNumbered : List Band → Type 0
AreNumbered bands = (k : ℕ) (band : Band) → k < length bands → (get_or bands k band).number ≡ k

-- each band was let in with its number
abbrev pub AreLetIn : (ℕ → Bool) → List Band → Type 0
AreLetIn entered bands = All (λ band. entered band.number ≡ true) bands

-- all rows of frames of these sizes are in bands that are numbered from 0, each of which was let in
pub record AreAllLetIn (entered : ℕ → Bool) (sizes : List Geometry) : Type 0 where
  pub bands : List Band
  pub rows : rows_of_bands bands ≡ rows_of_frames 1 sizes
  pub numbers : AreNumbered bands
  pub each : AreLetIn entered bands
