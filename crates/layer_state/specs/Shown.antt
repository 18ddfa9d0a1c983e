-- What a layer reports: its foreground, and what it shows at a tick.
use Rattle.std.specs.Prelude.{ℕ, ◌+◌, min, Option, Some, None, option_map}
use Rattle.play_types.specs.Take.{TakeView}
use Rattle.play_types.specs.Transition.{cut}
use Rattle.play_types.specs.Playhead.{head}
use Rattle.play_types.specs.declared.take.Spec.{Spec}
use Rattle.history_model.specs.stage.Life.{Foreground, Outgoing}
use Rattle.history_model.specs.pictures.Scene.{outgoing_shown}
use Rattle.layer_state.specs.declared.front.Front.{Front}
use Rattle.layer_state.specs.declared.shown.Shown.{Shown}

-- a foreground without the content that it replaces
abbrev pub front_of : Foreground → Front
front_of foreground = record { take = foreground.take; shown = foreground.shown; paused = foreground.paused }

-- the producer of a take, and the frame of it that the take shows after `shown` ticks
abbrev pub picture_of : TakeView → ℕ → Spec × ℕ
picture_of take shown = (take.spec, head take shown)

-- what the content that a foreground replaces shows, once the foreground was shown for `shown` ticks
abbrev pub old_picture_of : ℕ → Outgoing → Spec × ℕ
old_picture_of shown old = picture_of old.take (outgoing_shown old shown)

-- what a layer with this foreground shows: the picture, the one that it replaces, the transition and its step
abbrev pub shown_of : Option Foreground → Shown
shown_of None = record { now = None; old = None; trans = cut; step = 0 }
shown_of (Some foreground) = record {
  now = Some (picture_of foreground.take foreground.shown);
  old = option_map (old_picture_of foreground.shown) foreground.old;
  trans = foreground.take.trans;
  step = min (foreground.shown + 1) foreground.take.trans.duration;
}
