-- A property of producers that all commands give to a place.
use Rattle.std.proofs.Common.{ℕ, zero, suc, ◌+◌, ◌-◌, Bool, true, false, List, [], ◌∷◌, if◌then◌else◌}
use Rattle.std.specs.Prelude.{Option, Some, None, option_map, nat_lt}
use Rattle.play_types.specs.Place.{PlaceView}
use Rattle.play_types.specs.Take.{TakeView, played}
use Rattle.play_types.specs.declared.transition.Kind.{Kind}
use Rattle.play_types.specs.declared.transition.Kind.TheVariants.{Cut, Mix, Push, Slide, Wipe}
use Rattle.play_types.specs.declared.take.Spec.{Spec}
use Rattle.play_types.specs.declared.command.Cmd.{Cmd}
use Rattle.play_types.specs.declared.command.Cmd.TheVariants.{Load, LoadBg, Play, PlayTake, Pause, Resume, StopLayer, ClearLayer, ClearChannel, SwapLayers, SwapChannels, Set, CommitMixer, ResetLayer, ResetChannel, AddFile, RemoveFile, Value, Info}
use Rattle.history_model.specs.stage.Act.{Act}
use Rattle.history_model.specs.stage.Trail.{acts_on_content, content_origin, trail}
use Rattle.history_model.specs.stage.Life.{Foreground, Life, Outgoing, after_delay, after_play, delay, effect, life, outgoing, ready, ready_by, run_for, shown_for, start, start_of, with_mark}
use Rattle.history_model.specs.stage.Live.{state}

module _ (P : Spec → Type 0) where
  -- the producers of a place have it: those of its foreground, of the content that this replaces, and of its background
  abbrev pub OfOutgoing : Option Outgoing → Type 0
  OfOutgoing None = Unit {0}
  OfOutgoing (Some old) = P old.take.spec

  abbrev pub OfForeground : Option Foreground → Type 0
  OfForeground None = Unit {0}
  OfForeground (Some foreground) = P foreground.take.spec × OfOutgoing foreground.old

  abbrev pub OfBackground : Option TakeView → Type 0
  OfBackground None = Unit {0}
  OfBackground (Some take) = P take.spec

  pub record OfPlace (s : Life) : Type 0 where
    pub foreground : OfForeground s.foreground
    pub background : OfBackground s.background

  -- so do the takes of a command
  abbrev pub OfCommand : Cmd → Type 0
  OfCommand (Load at take) = P take.spec
  OfCommand (LoadBg at take) = P take.spec
  OfCommand (Play at) = Unit {0}
  OfCommand (PlayTake at take) = P take.spec
  OfCommand (Pause at) = Unit {0}
  OfCommand (Resume at) = Unit {0}
  OfCommand (StopLayer at) = Unit {0}
  OfCommand (ClearLayer at) = Unit {0}
  OfCommand (ClearChannel channel) = Unit {0}
  OfCommand (SwapLayers a b transforms) = Unit {0}
  OfCommand (SwapChannels a b transforms) = Unit {0}
  OfCommand (Set setting) = Unit {0}
  OfCommand (CommitMixer channel) = Unit {0}
  OfCommand (ResetLayer at) = Unit {0}
  OfCommand (ResetChannel channel) = Unit {0}
  OfCommand (AddFile marked name) = Unit {0}
  OfCommand (RemoveFile marked) = Unit {0}
  OfCommand (Value at prop) = Unit {0}
  OfCommand Info = Unit {0}

  abbrev pub OfActs : List Act → Type 0
  OfActs [] = Unit {0}
  OfActs (act ∷ before) = OfCommand act.cmd × OfActs before

  -- a start
  OfOutgoing-start : (kind : Kind) (foreground : Option Foreground) → OfForeground foreground → OfOutgoing (outgoing kind foreground)
  OfOutgoing-start Cut foreground h = tt
  OfOutgoing-start Mix None h = tt
  OfOutgoing-start Mix (Some f) h = h.0
  OfOutgoing-start Push None h = tt
  OfOutgoing-start Push (Some f) h = h.0
  OfOutgoing-start Slide None h = tt
  OfOutgoing-start Slide (Some f) h = h.0
  OfOutgoing-start Wipe None h = tt
  OfOutgoing-start Wipe (Some f) h = h.0

  OfPlace-start_of : (background : Option TakeView) (s : Life) → OfBackground background → OfPlace s → OfPlace (start_of background s)
  OfPlace-start_of None s b h = h
  OfPlace-start_of (Some take) s b h =
      record { foreground = (b, OfOutgoing-start take.trans.kind s.foreground h.foreground); background = tt }

  pub OfPlace-start : (s : Life) → OfPlace s → OfPlace (start s)
  OfPlace-start s h = OfPlace-start_of s.background s h.background h

  -- time that passes
  OfForeground-shown : (ticks : ℕ) (foreground : Option Foreground) → OfForeground foreground → OfForeground (option_map (shown_for ticks) foreground)
  OfForeground-shown ticks None h = tt
  OfForeground-shown ticks (Some f) h = marked f.paused
    where
      marked : (paused : Bool) → OfForeground (Some (if paused then f else record f { shown = f.shown + ticks }))
      marked true = h
      marked false = h

  OfPlace-run : (ticks : ℕ) (s : Life) → OfPlace s → OfPlace (run_for ticks s)
  OfPlace-run ticks s h = record { foreground = OfForeground-shown ticks s.foreground h.foreground; background = h.background }

  OfPlace-after_delay : (wait : Option ℕ) (s : Life) (ticks : ℕ) → OfPlace s → OfPlace (after_delay wait s ticks)
  OfPlace-after_delay None s ticks h = OfPlace-run ticks s h
  OfPlace-after_delay (Some wait) s ticks h = over (nat_lt wait ticks)
    where
      over : (b : Bool) → OfPlace (if b then run_for (ticks - wait) (start (run_for wait s)) else run_for ticks s)
      over true = OfPlace-run (ticks - wait) (start (run_for wait s)) (OfPlace-start (run_for wait s) (OfPlace-run wait s h))
      over false = OfPlace-run ticks s h

  OfPlace-ready_by : (wait : Option ℕ) (s : Life) → OfPlace s → OfPlace (ready_by wait s)
  OfPlace-ready_by None s h = h
  OfPlace-ready_by (Some zero) s h = OfPlace-start s h
  OfPlace-ready_by (Some (suc wait)) s h = h

  pub OfPlace-ready : (s : Life) → OfPlace s → OfPlace (ready s)
  OfPlace-ready s h = OfPlace-ready_by (delay s) s h

  -- a command
  OfForeground-mark : (paused : Bool) (foreground : Option Foreground) → OfForeground foreground → OfForeground (option_map (with_mark paused) foreground)
  OfForeground-mark paused None h = tt
  OfForeground-mark paused (Some f) h = h

  OfPlace-play : (background : Option TakeView) (s : Life) → OfPlace s → OfPlace (after_play background s)
  OfPlace-play None s h = record { foreground = OfForeground-mark false s.foreground h.foreground; background = h.background }
  OfPlace-play (Some take) s h = OfPlace-start s h

  OfPlace-effect : (cmd : Cmd) (s : Life) → OfCommand cmd → OfPlace s → OfPlace (effect cmd s)
  OfPlace-effect (Load at take) s c h = record { foreground = (c, tt); background = tt }
  OfPlace-effect (LoadBg at take) s c h = record { foreground = h.foreground; background = c }
  OfPlace-effect (Play at) s c h = OfPlace-play s.background s h
  OfPlace-effect (PlayTake at take) s c h =
      OfPlace-start (record s { background = Some (played take) }) (record { foreground = h.foreground; background = c })
  OfPlace-effect (Pause at) s c h = record { foreground = OfForeground-mark true s.foreground h.foreground; background = h.background }
  OfPlace-effect (Resume at) s c h = record { foreground = OfForeground-mark false s.foreground h.foreground; background = h.background }
  OfPlace-effect (StopLayer at) s c h = record { foreground = tt; background = h.background }
  OfPlace-effect (ClearLayer at) s c h = record { foreground = tt; background = tt }
  OfPlace-effect (ClearChannel channel) s c h = record { foreground = tt; background = tt }
  OfPlace-effect (SwapLayers a b transforms) s c h = h
  OfPlace-effect (SwapChannels a b transforms) s c h = h
  OfPlace-effect (Set setting) s c h = h
  OfPlace-effect (CommitMixer channel) s c h = h
  OfPlace-effect (ResetLayer at) s c h = h
  OfPlace-effect (ResetChannel channel) s c h = h
  OfPlace-effect (AddFile marked name) s c h = h
  OfPlace-effect (RemoveFile marked) s c h = h
  OfPlace-effect (Value at prop) s c h = h
  OfPlace-effect Info s c h = h

  -- the life of a place
  OfPlace-life : (acts : List Act) (t : ℕ) → OfActs acts → OfPlace (life acts t)
  OfPlace-life [] t h = record { foreground = tt; background = tt }
  OfPlace-life (act ∷ before) t h =
      let s : Life = effect act.cmd (life before act.ticks) in
      OfPlace-after_delay (delay s) s (t - act.ticks) (OfPlace-effect act.cmd (life before act.ticks) h.0 (OfPlace-life before act.ticks h.1))

  -- the acts of the content of a place are among the acts
  OfActs-chosen : (chosen : Bool) (act : Act) (earlier : List Act) → OfCommand act.cmd → OfActs earlier → OfActs (if chosen then act ∷ earlier else earlier)
  OfActs-chosen true act earlier c h = (c, h)
  OfActs-chosen false act earlier c h = h

  OfActs-trail : (acts : List Act) (place : PlaceView) → OfActs acts → OfActs (trail acts place)
  OfActs-trail [] place h = tt
  OfActs-trail (act ∷ before) place h =
      OfActs-chosen (acts_on_content act.cmd place) act (trail before (content_origin act.cmd place)) h.0
      (OfActs-trail before (content_origin act.cmd place) h.1)

  pub OfPlace-state : (acts : List Act) (t : ℕ) (place : PlaceView) → OfActs acts → OfPlace (state acts t place)
  OfPlace-state acts t place h = OfPlace-life (trail acts place) t (OfActs-trail acts place h)
