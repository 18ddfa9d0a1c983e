use Rattle.std.proofs.Common.{◌≡◌, ◌*◌, ◌≤◌}
use Rattle.play_types.specs.History.{ticks}
use Rattle.history_model.specs.scripts.Generator.{step_lines}
use Rattle.made_script.proofs.MadeScripts.{step_state}
use Rattle.made_script.specs.inner.Made.{HasMade}
use Rattle.script_player.specs.Display.{IsShownBy}
use Rattle.script_player.specs.Shown.{Frames}
use Rattle.script_player.specs.Player.{IsReady, events_in}
use Rattle.script_player.specs.Ticks.{ticks_per_byte}
use Rattle.made_script.proofs.generating.play.Given as goal

-- the lines of the steps before this one were played
abbrev pub invariant-loop-step : goal.invariant-loop-step
invariant-loop-step g l = record {
  ready : IsReady l.run.player;
  frames : g.D.Display.shown l.display ≡ Frames;
  shown : IsShownBy (g.D.Display.shows l.display) (g.D.Display.waiting l.display) l.run.player;
  ticks : ticks (events_in l.run.player) ≤ ticks_per_byte * 65 * l._step;
  few : l.run.refused ≤ l._step;
  made : HasMade (step_lines l._step l.fn.seed) l.run;
  state : l.generator.state ≡ step_state l._step l.fn.seed;
}
