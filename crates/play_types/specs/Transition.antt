-- What contracts see of a transition.
use Rattle.std.specs.Prelude.{◌≡◌, ℕ, ◌≤◌, Bool, false}
use Rattle.play_types.specs.declared.transition.Kind.{Kind}
use Rattle.play_types.specs.declared.transition.Kind.TheVariants.{Cut, Mix, Push, Slide, Wipe}
use Rattle.play_types.specs.declared.transition.Curve.{Curve}
use Rattle.play_types.specs.declared.transition.Curve.TheVariants.{Linear}
use Rattle.play_types.specs.declared.transition.TheConstants.{MAX_DURATION}

-- a transition, its duration in ticks
pub record TransView : Type 0 where
  pub kind : Kind
  pub duration : ℕ
  pub curve : Curve
  pub leftward : Bool

-- a cut, which takes no time and has no direction
abbrev pub cut : TransView
cut = record { kind = Cut; duration = 0; curve = Linear; leftward = false }

-- the transition made of these parts: a cut keeps none of them
abbrev pub trans_of : Kind → ℕ → Curve → Bool → TransView
trans_of Cut duration curve leftward = cut
trans_of Mix duration curve leftward = record { kind = Mix; duration = duration; curve = curve; leftward = leftward }
trans_of Push duration curve leftward = record { kind = Push; duration = duration; curve = curve; leftward = leftward }
trans_of Slide duration curve leftward = record { kind = Slide; duration = duration; curve = curve; leftward = leftward }
trans_of Wipe duration curve leftward = record { kind = Wipe; duration = duration; curve = curve; leftward = leftward }

-- the duration is at most 1,000,000, and a cut has duration 0, is linear and not leftward
pub record IsTrans (kind : Kind) (duration : ℕ) (curve : Curve) (leftward : Bool) : Type 0 where
  pub short : duration ≤ MAX_DURATION
  pub kept : trans_of kind duration curve leftward ≡ record { kind = kind; duration = duration; curve = curve; leftward = leftward }
