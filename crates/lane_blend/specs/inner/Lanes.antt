-- Sixteen bytes, which are four pixels.
use Rattle.std.specs.Prelude.{ℕ, ◌+◌, ◌*◌, ◌/◌, ◌<◌, ◌≤◌, List, slice_index}
use Rattle.std.specs.Simd.Lanes.{Each1}
use Rattle.pixel_math.specs.Pixel.{scaled}
use Rattle.pixel_math.specs.Arithmetic.{over_byte}

-- the alpha of the pixel of byte k
abbrev pub alpha_at : List ℕ → ℕ → ℕ
alpha_at row k = slice_index row (k / 4 * 4 + 3)

-- the red of the pixel of byte k
abbrev pub red_at : List ℕ → ℕ → ℕ
red_at row k = slice_index row (k / 4 * 4 + 2)

-- the byte at k of pixels over pixels
abbrev pub over_at : List ℕ → List ℕ → ℕ → ℕ
over_at src old k = over_byte (slice_index src k) (slice_index old k) (alpha_at src k)

-- the byte at k of pixels keyed by others
abbrev pub key_at : List ℕ → List ℕ → ℕ → ℕ
key_at old keys k = scaled (slice_index old k) (red_at keys k)

-- none of the sixteen bytes is above the alpha of its pixel
abbrev pub AreBelowAlpha : List ℕ → Type 0
AreBelowAlpha lanes = (k : ℕ) → k < 16 → slice_index lanes k ≤ alpha_at lanes k

-- each lane is at most 255
abbrev pub AreBytes : List ℕ → Type 0
AreBytes lanes = Each1 (λ (x : ℕ). x ≤ 255) lanes

-- the byte at k times the number of 255ths of its pair of bytes
abbrev pub scaled_at : List ℕ → List ℕ → ℕ → ℕ
scaled_at values by k = scaled (slice_index values k) (slice_index by (k / 2))
