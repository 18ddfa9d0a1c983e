-- How a value goes from one number to another.
use Rattle.std.specs.Prelude.{ℕ, ◌-◌, ◌*◌, ℤ, pos, ◌+ℤ◌, ◌-ℤ◌, ◌*ℤ◌, ◌≤ℤ◌, int_div, nat_le, if◌then◌else◌}
use Rattle.std.specs.Int.{int_min, int_max}
use Rattle.play_types.specs.declared.transition.Curve.{Curve}
use Rattle.play_types.specs.declared.transition.Curve.TheVariants.{Linear, EaseInQuad, EaseOutQuad, EaseInCubic, EaseOutCubic}

-- how much of the whole way is gone at tick j of d, for j < d
abbrev pub gone : Curve → ℕ → ℕ → ℕ
gone Linear j d = j
gone EaseInQuad j d = j * j
gone EaseOutQuad j d = j * (2 * d - j)
gone EaseInCubic j d = j * j * j
gone EaseOutCubic j d = d * d * d - (d - j) * (d - j) * (d - j)

-- the whole way of d ticks
abbrev pub whole : Curve → ℕ → ℕ
whole Linear d = d
whole EaseInQuad d = d * d
whole EaseOutQuad d = d * d
whole EaseInCubic d = d * d * d
whole EaseOutCubic d = d * d * d

-- the value at p of q parts of the way from one to another: the product comes first, and the quotient is rounded toward
-- zero
abbrev pub part_way : ℤ → ℤ → ℕ → ℕ → ℤ
part_way from to p q = from +ℤ int_div ((to -ℤ from) *ℤ pos p) (pos q)

-- the value at tick j of d between two values in millionths
abbrev pub along : Curve → ℤ → ℤ → ℕ → ℕ → ℤ
along curve from to j d = if nat_le d j then to else part_way from to (gone curve j d) (whole curve d)

-- a value lies between two others, whichever is the greater
abbrev pub IsBetween : ℤ → ℤ → ℤ → Type 0
IsBetween one other value = (int_min one other ≤ℤ value) × (value ≤ℤ int_max one other)
