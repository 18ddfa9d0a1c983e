use Rattle.std.proofs.Common.{◌≡◌, ◌<◌, ℕ}
use Rattle.pixel_math.specs.Arithmetic.{fade_byte}
use Rattle.lane_blend.specs.Lines.{line_byte}
use Rattle.lane_blend.proofs.lines.FadeLine.fades.Given as goal

abbrev pub invariant-bytes : goal.invariant-bytes
invariant-bytes l = (v : ℕ) → v < l.value → line_byte l.self v ≡ fade_byte v l.opacity
