-- What a renderer keeps for the bands of its ticks.
use Rattle.std.specs.Prelude.{◌≡◌, ℕ, ◌+◌, ◌*◌, ◌<◌, ◌≤◌, List, [], ◌∷◌, All, length, min}
use Rattle.play_types.specs.declared.geometry.Geometry.{Geometry}
use Rattle.band_render.specs.declared.plan.TheConstants.{MOST_BANDS}
use Rattle.band_render.specs.declared.rooms.TheConstants.{MIN_SHARED_PIXELS}

-- the number of rows of frames of these sizes
abbrev pub row_count : List Geometry → ℕ
row_count [] = 0
row_count (size ∷ sizes) = size.height + row_count sizes

-- the number of pixels of frames of these sizes
abbrev pub pixel_count : List Geometry → ℕ
pixel_count [] = 0
pixel_count (size ∷ sizes) = size.height * size.width + pixel_count sizes

-- `groups` groups of bands make frames of these sizes: one if the frames are small, and otherwise one for each worker, or one for
-- each row if there are fewer rows
pub record AreGroups (workers : ℕ) (sizes : List Geometry) (groups : ℕ) : Type 0 where
  pub small : pixel_count sizes < MIN_SHARED_PIXELS → groups ≡ 1
  pub large : MIN_SHARED_PIXELS ≤ pixel_count sizes → groups ≡ min workers (row_count sizes)

-- there is capacity for the most bands of frames of these sizes, and a room for each group of bands, at least one, each for the
-- widest frame
pub record CanCut (workers : ℕ) (sizes : List Geometry) (capacity : ℕ) (rooms : List ℕ) : Type 0 where
  pub room : MOST_BANDS * length sizes ≤ capacity
  pub some : 0 < length rooms
  pub groups : AreGroups workers sizes (length rooms)
  pub wide : All (λ room. All (λ size. size.width ≤ room) sizes) rooms
