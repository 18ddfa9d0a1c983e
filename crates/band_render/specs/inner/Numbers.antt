-- The fewest bands that frames are cut into.
use Rattle.std.specs.Prelude.{◌+◌, ℕ, List, [], ◌∷◌, min}
use Rattle.play_types.specs.declared.geometry.Geometry.{Geometry}

-- the fewest bands of frames of these sizes: of each as many as there are workers, or as it has rows if these are fewer
abbrev pub fewest_bands : ℕ → List Geometry → ℕ
fewest_bands workers [] = 0
fewest_bands workers (size ∷ sizes) = min workers size.height + fewest_bands workers sizes
