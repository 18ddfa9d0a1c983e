use Rattle.std.proofs.Common.{◌≡◌, ◌+◌, ◌≤◌, [], length}
use Rattle.play_types.specs.History.{ticks}
use Rattle.play_types.specs.declared.event.TheConstants.{MAX_TICKS}
use Rattle.history_model.specs.scripts.Memory.{AreLines}
use Rattle.play_schedule.specs.Unfolding.{ticks_in}
use Rattle.script_player.specs.Display.{IsShownBy}
use Rattle.script_player.specs.Shown.{Frames}
use Rattle.script_player.specs.Script.{Run}
use Rattle.cue_player.specs.inner.Planned.{HasPlayedLines, HasPlayedUpTo}
use Rattle.script_player.specs.Player.{IsReady, events_in}
use Rattle.cue_player.proofs.planning.SheetPlayer.play_steps.Given as goal

-- the steps before those that are left were played
abbrev pub invariant-loop-step : goal.invariant-loop-step
invariant-loop-step g l = record {
  ready : IsReady l.self.player;
  frames : g.D.Display.shown l.self.display ≡ Frames;
  shown : IsShownBy (g.D.Display.shows l.self.display) (g.D.Display.waiting l.self.display) l.self.player;
  time : ticks (events_in l.self.player) + ticks_in l.steps ≤ MAX_TICKS;
  lines : AreLines l.steps;
  plays : (run : Run) → HasPlayedLines run [] l.initial.self.player (g.K.Sink.state l.initial.out)
      → HasPlayedUpTo run l.initial.steps l.steps l.self.player (g.K.Sink.state l.out);
}

abbrev pub decreases-loop-step : goal.decreases-loop-step
decreases-loop-step g l = length l.steps
