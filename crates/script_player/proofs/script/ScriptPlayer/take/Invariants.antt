use Rattle.std.proofs.Common.{◌≡◌, ◌≤◌, ◌+◌, ◌*◌, ◌++◌, ℕ, List, take}
use Rattle.script_player.specs.Script.{Run}
use Rattle.script_player.specs.Display.{IsShownBy}
use Rattle.script_player.specs.Player.{IsReady}
use Rattle.script_player.specs.Taken.{HasTaken}
use Rattle.script_player.specs.Ticks.{ticks_due, ticks_per_byte}
use Rattle.script_player.proofs.script.ScriptPlayer.take.Given as goal

-- the bytes before this one were taken
abbrev pub invariant-loop-byte : goal.invariant-loop-byte
invariant-loop-byte g l = record {
  ready : IsReady l.self.script.player;
  told : g.D.Display.shown l.self.display ≡ g.D.Display.shown l.initial.self.display;
  shown : IsShownBy (g.D.Display.shows l.self.display) (g.D.Display.waiting l.self.display) l.self.script.player;
  setup : l.self.script.player.setup ≡ l.initial.self.script.player.setup;
  ticks : ticks_due l.self.script ≤ ticks_due l.initial.self.script + ticks_per_byte * l.byte-index;
  lines : l.self.script.lines ≤ l.initial.self.script.lines + l.byte-index;
  taken : (run : Run) (bytes : List ℕ) → run.shown ≡ g.D.Display.shown l.initial.self.display → HasTaken run l.initial.self.script bytes (g.K.Sink.state l.initial.out)
      → HasTaken run l.self.script (bytes ++ take l.byte-index l.piece) (g.K.Sink.state l.out);
}
