-- Colour bytes of pixels that are changed in place.
use Rattle.std.specs.Prelude.{◌≡◌, ℕ, ◌+◌, ◌*◌, ◌/◌, ◌%◌, ◌<◌, ◌&&◌, nat_le, nat_lt, if◌then◌else◌, List, length, slice_index}

-- what `made` gives of byte k and the alpha of its pixel
abbrev pub made_at : (ℕ → ℕ → ℕ) → List ℕ → ℕ → ℕ
made_at made bytes k = made (slice_index bytes k) (slice_index bytes (k / 4 * 4 + 3))

-- the colour bytes from byte `from` up to byte `to` are replaced, and the alphas and all other bytes are as they were
pub record IsRecoloured (made : ℕ → ℕ → ℕ) (from to : ℕ) (old new : List ℕ) : Type 0 where
  pub len : length new ≡ length old
  pub each : (k : ℕ) → k < length old
      → slice_index new k ≡ (if nat_lt k to && (nat_le from k && nat_lt (k % 4) 3) then made_at made old k else slice_index old k)

-- the colour bytes of the first `picture` bytes of each frame are replaced, and the alphas and all other bytes are as they
-- were
pub record AreRecoloured (made : ℕ → ℕ → ℕ) (picture frame : ℕ) (old new : List ℕ) : Type 0 where
  pub len : length new ≡ length old
  pub each : (k : ℕ) → k < length old
      → slice_index new k ≡ (if nat_lt (k % frame) picture && nat_lt (k % 4) 3 then made_at made old k else slice_index old k)
