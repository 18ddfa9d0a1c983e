-- Which frame of its producer a take shows.
use Rattle.std.specs.Prelude.{ℕ, ◌+◌, ◌-◌, ◌%◌, min, Bool, if◌then◌else◌}
use Rattle.play_types.specs.declared.take.Spec.{Spec}
use Rattle.play_types.specs.declared.take.Spec.TheVariants.{Clip, Colour, RouteChannel, RouteLayer}
use Rattle.play_types.specs.Take.{TakeView}

-- the frame of a producer after `shown` ticks: a clip ends on its last frame, or begins anew if it is looped
abbrev pub frame_after : Spec → Bool → ℕ → ℕ → ℕ → ℕ
frame_after (Clip id) looped seek length shown =
    seek + (if looped then shown % length else min shown (length - 1))
frame_after (Colour value) looped seek length shown = 0
frame_after (RouteChannel channel) looped seek length shown = 0
frame_after (RouteLayer place) looped seek length shown = 0

-- the frame that a take shows after `shown` ticks
abbrev pub head : TakeView → ℕ → ℕ
head take shown = frame_after take.spec take.looped take.seek take.length shown
