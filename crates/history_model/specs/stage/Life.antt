-- What a place holds: its foreground and its background.
use Rattle.std.specs.Prelude.{ℕ, zero, suc, ◌+◌, ◌-◌, Bool, true, false, not, ◌&&◌, List, [], ◌∷◌, nat_lt, Option, Some, None, option_map, if◌then◌else◌}
use Rattle.play_types.specs.Take.{TakeView, loaded, played}
use Rattle.play_types.specs.declared.transition.Kind.{Kind}
use Rattle.play_types.specs.declared.transition.Kind.TheVariants.{Cut, Mix, Push, Slide, Wipe}
use Rattle.play_types.specs.declared.take.Spec.{Spec}
use Rattle.play_types.specs.declared.take.Spec.TheVariants.{Clip, Colour, RouteChannel, RouteLayer}
use Rattle.play_types.specs.declared.command.Cmd.{Cmd}
use Rattle.play_types.specs.declared.command.Cmd.TheVariants.{Load, LoadBg, Play, PlayTake, Pause, Resume, StopLayer, ClearLayer, ClearChannel, SwapLayers, SwapChannels, Set, CommitMixer, ResetLayer, ResetChannel, AddFile, RemoveFile, Value, Info}
use Rattle.history_model.specs.stage.Act.{Act}

-- content that is replaced: its take, the ticks that it was shown, and whether it was paused
pub record Outgoing : Type 0 where
  pub take : TakeView
  pub shown : ℕ
  pub paused : Bool

-- what a place shows: its take, the ticks that it was shown, whether it is paused, and the content that it replaces
pub record Foreground : Type 0 where
  pub take : TakeView
  pub shown : ℕ
  pub paused : Bool
  pub old : Option Outgoing

-- what a place holds: its foreground and its background
pub record Life : Type 0 where
  pub foreground : Option Foreground
  pub background : Option TakeView

-- a place that holds nothing
abbrev pub empty_place : Life
empty_place = record { foreground = None; background = None }

-- a foreground that is replaced, without the content that it replaced
abbrev pub as_outgoing : Foreground → Outgoing
as_outgoing foreground = record { take = foreground.take; shown = foreground.shown; paused = foreground.paused }

-- the content that stays beside a new foreground with a transition of this kind: none with a cut
abbrev pub outgoing : Kind → Option Foreground → Option Outgoing
outgoing Cut foreground = None
outgoing Mix foreground = option_map as_outgoing foreground
outgoing Push foreground = option_map as_outgoing foreground
outgoing Slide foreground = option_map as_outgoing foreground
outgoing Wipe foreground = option_map as_outgoing foreground

-- the place once this background is its foreground, unchanged if there is none
abbrev pub start_of : Option TakeView → Life → Life
start_of None s = s
start_of (Some take) s = record {
  foreground = Some (record { take = take; shown = 0; paused = false; old = outgoing take.trans.kind s.foreground });
  background = None;
}

-- the place once its background has started
abbrev pub start : Life → Life
start s = start_of s.background s

-- whether a producer ends: a clip that is not looped
abbrev pub ends : Spec → Bool → Bool
ends (Clip id) looped = not looped
ends (Colour value) looped = false
ends (RouteChannel channel) looped = false
ends (RouteLayer place) looped = false

-- the ticks until an automatic take starts: 0 without a foreground, the rest of a running clip that ends less the transition,
-- and none over anything else
abbrev pub delay_over : TakeView → Option Foreground → Option ℕ
delay_over take None = Some 0
delay_over take (Some foreground) =
    if ends foreground.take.spec foreground.take.looped && not foreground.paused
    then Some (foreground.take.length - take.trans.duration - foreground.shown) else None

-- the ticks until a background starts by itself, none if there is none or it does not
abbrev pub delay_of : Option TakeView → Option Foreground → Option ℕ
delay_of None foreground = None
delay_of (Some take) foreground = if take.auto then delay_over take foreground else None

-- the ticks until the background of a place starts by itself, none if it does not
abbrev pub delay : Life → Option ℕ
delay s = delay_of s.background s.foreground

-- a foreground after `ticks` ticks: it was shown for them if it is not paused
abbrev pub shown_for : ℕ → Foreground → Foreground
shown_for ticks foreground = if foreground.paused then foreground else record foreground { shown = foreground.shown + ticks }

-- a place after `ticks` ticks without an automatic start
abbrev pub run_for : ℕ → Life → Life
run_for ticks s = record s { foreground = option_map (shown_for ticks) s.foreground }

-- a place after `ticks` ticks, by its delay: past that the background is started, and shown for the ticks that are left
abbrev pub after_delay : Option ℕ → Life → ℕ → Life
after_delay None s ticks = run_for ticks s
after_delay (Some wait) s ticks =
    if nat_lt wait ticks then run_for (ticks - wait) (start (run_for wait s)) else run_for ticks s

-- a place after `ticks` ticks
abbrev pub after : Life → ℕ → Life
after s ticks = after_delay (delay s) s ticks

-- a place as the next tick shows it, by its delay: its background is started if that is due
abbrev pub ready_by : Option ℕ → Life → Life
ready_by None s = s
ready_by (Some zero) s = start s
ready_by (Some (suc wait)) s = s

-- a place as the next tick shows it
abbrev pub ready : Life → Life
ready s = ready_by (delay s) s

-- a foreground paused or unpaused
abbrev pub with_mark : Bool → Foreground → Foreground
with_mark paused foreground = record foreground { paused = paused }

-- a place with its foreground paused or unpaused
abbrev pub with_pause : Bool → Life → Life
with_pause paused s = record s { foreground = option_map (with_mark paused) s.foreground }

-- a place after a play: its background is started, or without one its foreground is unpaused
abbrev pub after_play : Option TakeView → Life → Life
after_play None s = with_pause false s
after_play (Some take) s = start s

-- the foreground that a load of a take makes: its first picture, paused
abbrev pub first_picture : TakeView → Foreground
first_picture take = record { take = loaded take; shown = 0; paused = true; old = None }

-- a place after a command on it
abbrev pub effect : Cmd → Life → Life
effect (Load at take) s = record { foreground = Some (first_picture take); background = None }
effect (LoadBg at take) s = record s { background = Some take }
effect (Play at) s = after_play s.background s
effect (PlayTake at take) s = start (record s { background = Some (played take) })
effect (Pause at) s = with_pause true s
effect (Resume at) s = with_pause false s
effect (StopLayer at) s = record s { foreground = None }
effect (ClearLayer at) s = empty_place
effect (ClearChannel channel) s = empty_place
effect (SwapLayers a b transforms) s = s
effect (SwapChannels a b transforms) s = s
effect (Set setting) s = s
effect (CommitMixer channel) s = s
effect (ResetLayer at) s = s
effect (ResetChannel channel) s = s
effect (AddFile channel name) s = s
effect (RemoveFile channel) s = s
effect (Value at prop) s = s
effect Info s = s

-- a place after the acts on it, the last one first, when `ticks` ticks have passed since the history began
abbrev pub life : List Act → ℕ → Life
life [] ticks = empty_place
life (act ∷ before) ticks = after (effect act.cmd (life before act.ticks)) (ticks - act.ticks)
