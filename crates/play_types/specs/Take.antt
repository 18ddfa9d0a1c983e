-- What contracts see of a take.
use Rattle.std.specs.Prelude.{◌≡◌, ℕ, ◌+◌, ◌<◌, ◌≤◌, Bool, false}
use Rattle.play_types.specs.Transition.{TransView, cut}
use Rattle.play_types.specs.declared.clip.TheConstants.{MAX_FRAMES}
use Rattle.play_types.specs.declared.take.Spec.{Spec}
use Rattle.play_types.specs.declared.take.Spec.TheVariants.{Clip, Colour, RouteChannel, RouteLayer}

-- a producer, the frames of a clip that are played, and the transition that brings it in
pub record TakeView : Type 0 where
  pub spec : Spec
  pub looped : Bool
  pub seek : ℕ
  pub length : ℕ
  pub trans : TransView
  pub auto : Bool

-- the take made of these parts: only a clip keeps whether it is looped, and its frames
abbrev pub take_of : Spec → Bool → ℕ → ℕ → TransView → Bool → TakeView
take_of (Clip id) looped seek length trans auto =
    record { spec = Clip id; looped = looped; seek = seek; length = length; trans = trans; auto = auto }
take_of (Colour value) looped seek length trans auto =
    record { spec = Colour value; looped = false; seek = 0; length = 0; trans = trans; auto = auto }
take_of (RouteChannel channel) looped seek length trans auto =
    record { spec = RouteChannel channel; looped = false; seek = 0; length = 0; trans = trans; auto = auto }
take_of (RouteLayer place) looped seek length trans auto =
    record { spec = RouteLayer place; looped = false; seek = 0; length = 0; trans = trans; auto = auto }

-- of a clip at least one frame is played, and none after its first 1,000,000 frames
abbrev pub IsTake : Spec → ℕ → ℕ → Type 0
IsTake (Clip id) seek length = (0 < length) × (seek + length ≤ MAX_FRAMES)
IsTake (Colour value) seek length = Unit {0}
IsTake (RouteChannel channel) seek length = Unit {0}
IsTake (RouteLayer place) seek length = Unit {0}

-- the frames of a clip are in range, and another producer has none
abbrev pub IsTakeValue : Spec → Bool → ℕ → ℕ → Type 0
IsTakeValue (Clip id) looped seek length = (0 < length) × (seek + length ≤ MAX_FRAMES)
IsTakeValue (Colour value) looped seek length = (looped ≡ false) × (seek ≡ 0) × (length ≡ 0)
IsTakeValue (RouteChannel channel) looped seek length = (looped ≡ false) × (seek ≡ 0) × (length ≡ 0)
IsTakeValue (RouteLayer place) looped seek length = (looped ≡ false) × (seek ≡ 0) × (length ≡ 0)

-- the take as a LOAD keeps it: with a cut, and not starting by itself
abbrev pub loaded : TakeView → TakeView
loaded take = record take { trans = cut; auto = false }

-- the take as a PLAY keeps it: not starting by itself
abbrev pub played : TakeView → TakeView
played take = record take { auto = false }
