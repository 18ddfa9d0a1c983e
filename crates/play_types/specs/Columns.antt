-- Which column of which picture a transition shows.
use Rattle.std.specs.Prelude.{ℕ, ◌+◌, ◌-◌, ◌*◌, ◌/◌, ◌<◌, Bool, true, false, nat_lt, nat_le, if◌then◌else◌}
use Rattle.play_types.specs.declared.transition.Kind.{Kind}
use Rattle.play_types.specs.declared.transition.Kind.TheVariants.{Cut, Mix, Push, Slide, Wipe}

-- a column of the old picture, one of the new picture, or the mix of both at one column
pub data Column : Type 0 where
  Old : ℕ → Column
  New : ℕ → Column
  Both : ℕ → Column

-- how many columns of `width` the new picture has taken at step j of d
abbrev pub taken : ℕ → ℕ → ℕ → ℕ
taken j d width = width * j / d

-- column x when n columns of the new picture have pushed the old one out, rightward and leftward
abbrev pub pushed : Bool → ℕ → ℕ → ℕ → Column
pushed false n width x = if nat_lt x n then New (width - n + x) else Old (x - n)
pushed true n width x = if nat_le (width - n) x then New (x - (width - n)) else Old (x + n)

-- column x when n columns of the new picture have slid over the old one, rightward and leftward
abbrev pub slid : Bool → ℕ → ℕ → ℕ → Column
slid false n width x = if nat_lt x n then New (width - n + x) else Old x
slid true n width x = if nat_le (width - n) x then New (x - (width - n)) else Old x

-- column x when an edge has uncovered n columns of the new picture, rightward and leftward
abbrev pub wiped : Bool → ℕ → ℕ → ℕ → Column
wiped false n width x = if nat_lt x n then New x else Old x
wiped true n width x = if nat_le (width - n) x then New x else Old x

-- what column x of a raster of `width` columns shows at step j of d of a transition, for 0 < j and j < d
abbrev pub pick : Kind → Bool → ℕ → ℕ → ℕ → ℕ → Column
pick Cut leftward j d width x = New x
pick Mix leftward j d width x = Both x
pick Push leftward j d width x = pushed leftward (taken j d width) width x
pick Slide leftward j d width x = slid leftward (taken j d width) width x
pick Wipe leftward j d width x = wiped leftward (taken j d width) width x

-- the column is one of the raster's
abbrev pub IsInRaster : ℕ → Column → Type 0
IsInRaster width (Old x) = x < width
IsInRaster width (New x) = x < width
IsInRaster width (Both x) = x < width
