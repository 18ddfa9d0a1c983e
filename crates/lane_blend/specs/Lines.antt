-- Opacities as linear functions of bytes, in sixteen bits.
use Rattle.std.specs.Prelude.{◌≡◌, ℕ, ◌+◌, ◌*◌, ◌/◌, ◌<◌}
use Rattle.pixel_math.specs.Arithmetic.{fade_byte}
use Rattle.lane_blend.specs.declared.lines.FadeLine.{FadeLine}

-- the byte that a line makes of byte v
abbrev pub line_byte : FadeLine → ℕ → ℕ
line_byte line v = (v * line.slope_high + line.base_high + (v * line.slope_low + line.base_low) / 256) / 256

-- the line fades every byte to the opacity
abbrev pub IsFadeLine : ℕ → FadeLine → Type 0
IsFadeLine opacity line = (v : ℕ) → v < 256 → line_byte line v ≡ fade_byte v opacity
