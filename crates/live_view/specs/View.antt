-- What a view holds, and how it represents the bytes of a log.
use Rattle.std.specs.Prelude.{◌≡◌, ℕ, ◌+◌, ◌*◌, ◌≤◌, Bool, true, false, None, List, ◌++◌, length}
use Rattle.play_types.specs.declared.event.Event.{Event}
use Rattle.play_outside.specs.SinkState.{SinkState}
use Rattle.history_model.specs.declared.limits.TheConstants.{MAX_INPUT_BYTES}
use Rattle.history_model.specs.scripts.History.{Playout, setup_of}
use Rattle.play_scene.specs.Frames.{FrameView}
use Rattle.band_render.specs.Histories.{Represents}
use Rattle.script_player.specs.declared.script.Script.{Script}
use Rattle.script_player.specs.Playouts.{playout_of}
use Rattle.script_player.specs.Script.{Run}
use Rattle.script_player.specs.Player.{IsReady, channels_in, events_in}
use Rattle.script_player.specs.Shown.{Replies}
use Rattle.script_player.specs.Taken.{HasTaken, StopsWith}
use Rattle.script_player.specs.Ticks.{ticks_due, ticks_per_byte}
use Rattle.server_setup.specs.declared.setup.ServerSetup.{ServerSetup}
use Rattle.live_view.specs.History.{history_of}
use Rattle.live_view.specs.Page.{PageSource}
use Rattle.live_view.specs.declared.view.LiveView.{LiveView}

-- what a view has: its script with the stage, whether a line has stopped the run, how many bytes it may still take, whether pictures
-- are wanted, whether its frames are those of the last tick, these frames, the number of threads that make them, and the number of
-- ticks up to the last one whose status messages were given
pub record ViewState : Type 0 where
  pub script : Script
  pub stopped : Bool
  pub left : ℕ
  pub pictures : Bool
  pub fresh : Bool
  pub frames : List FrameView
  pub workers : ℕ
  pub sent : ℕ

abbrev pub state_of : {R : Type 0} → LiveView R → ViewState
state_of view = record {
  script = view.script;
  stopped = view.stopped;
  left = view.left;
  pictures = view.pictures;
  fresh = view.display.is_fresh;
  frames = view.display.renderer;
  workers = view.workers;
  sent = view.sent;
}

-- the events on the stage of a view
abbrev pub events_of : ViewState → List Event
events_of view = events_in view.script.player

-- a sink that keeps nothing
abbrev pub nowhere : SinkState
nowhere = record { taken = None; faults = 0; mark = 0; at_fault = None; reading = None; idle = 0 }

-- a run of a log: nothing is written for its ticks, and it stops at a reply that reports out of memory
abbrev pub log_run : Playout → Run
log_run playout = record { playout = playout; shown = Replies; first = nowhere }

-- all ended lines of the bytes were played, and the run goes on
pub record GoesOn (playout : Playout) (bytes : List ℕ) (view : ViewState) : Type 0 where
  pub ready : IsReady view.script.player
  pub taken : HasTaken (log_run playout) view.script bytes nowhere
  pub ticks : ticks_due view.script + ticks_per_byte * view.left ≤ ticks_per_byte * MAX_INPUT_BYTES
  pub lines : view.script.lines + view.left ≤ MAX_INPUT_BYTES
  pub room : view.left + length bytes ≡ MAX_INPUT_BYTES

-- the run was stopped by the last line of a part of the bytes
pub record HasStopped (playout : Playout) (bytes : List ℕ) (view : ViewState) : Type 0 where
  pub part : List ℕ
  pub rest : List ℕ
  pub parts : bytes ≡ part ++ rest
  pub stops : StopsWith (log_run playout) view.script.player (record { bytes = part; ended = false }) nowhere
  pub channels : view.script.player.stage.channels ≡ channels_in view.script.player

-- the lines of the bytes were played, up to one that stopped the run if there is one
abbrev pub HasPlayed : Bool → Playout → List ℕ → ViewState → Type 0
HasPlayed false playout bytes view = GoesOn playout bytes view
HasPlayed true playout bytes view = HasStopped playout bytes view

-- these frames are those of the last tick of some events, on this setup: transparent and silent if the events have no tick
abbrev pub AreLastFrames : ServerSetup → List Event → List FrameView → Type 0
AreLastFrames setup events frames = Represents (setup_of (playout_of setup false)) events setup.media frames

-- frames are those of the last tick of some events, if they are fresh
abbrev pub AreFresh : Bool → List FrameView → ServerSetup → List Event → Type 0
AreFresh fresh frames setup events = fresh ≡ true → AreLastFrames setup events frames

-- the view has the history of these bytes, and if its frames are fresh they are those of the last tick
pub record IsViewOf (playout : Playout) (bytes : List ℕ) (view : ViewState) : Type 0 where
  pub played : HasPlayed view.stopped playout bytes view
  pub frames : AreFresh view.fresh view.frames view.script.player.setup (events_of view)
  pub workers : (1 ≤ view.workers) × (view.workers ≤ 64)

-- the view has the history of some bytes
abbrev pub IsView : ViewState → Type 0
IsView view = (playout : Playout) × (bytes : List ℕ) × IsViewOf playout bytes view

-- what the pages of a view of these bytes are made of
abbrev pub source_of : Playout → List ℕ → ViewState → PageSource
source_of playout bytes view = record {
  playout = playout;
  events = history_of playout bytes;
  pictures = view.pictures;
  fresh = view.fresh;
}
