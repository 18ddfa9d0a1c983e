-- How the contents of a place are kept.
use Rattle.std.specs.Prelude.{◌≡◌, ◌≤◌, refl, Option, Some, None, option_map}
use Rattle.std.specs.Option.{ForSome}
use Rattle.play_types.specs.declared.event.TheConstants.{MAX_TICKS}
use Rattle.history_model.specs.stage.Life.{Outgoing}
use Rattle.layer_state.specs.declared.front.Front.{Front}

-- a content that is replaced, as the definitions write it
abbrev pub outgoing_of : Front → Outgoing
outgoing_of front = record { take = front.take; shown = front.shown; paused = front.paused }

-- and as it is kept
abbrev pub kept_of : Outgoing → Front
kept_of old = record { take = old.take; shown = old.shown; paused = old.paused }

-- a content that is converted to the form of the definitions and back is as before
pub kept_of-outgoing_of : (old : Option Front) → option_map kept_of (option_map outgoing_of old) ≡ old
kept_of-outgoing_of None = refl
kept_of-outgoing_of (Some front) = refl

-- a foreground and the content that it replaces were shown for no more ticks than a history has
pub record AreWithinTicks (front : Front) (old : Option Front) : Type 0 where
  pub within : front.shown ≤ MAX_TICKS
  pub old_within : ForSome old (λ content. content.shown ≤ MAX_TICKS)
