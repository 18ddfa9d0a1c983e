use Rattle.std.proofs.Common.{◌≡◌, length}
use Rattle.script_player.specs.declared.running.TheConstants.{PIECE_BYTES}
use Rattle.script_player.specs.Player.{playout_in}
use Rattle.script_player.specs.Display.{IsShownBy}
use Rattle.script_player.proofs.Progress.{HasRead}
use Rattle.script_player.proofs.script.ScriptPlayer.play.Given as goal

-- what was read so far was taken
abbrev pub invariant-pieces : goal.invariant-pieces
invariant-pieces g l = record {
  buffer : length l.buffer ≡ PIECE_BYTES;
  told : g.D.Display.shown l.self.display ≡ g.D.Display.shown l.initial.self.display;
  shown : IsShownBy (g.D.Display.shows l.self.display) (g.D.Display.waiting l.self.display) l.self.script.player;
  progress : HasRead (g.D.Display.shown l.initial.self.display) (playout_in l.initial.self.script.player) l.self.script l.left
      (record { input = g.I.Source.state l.initial.input; out = g.K.Sink.state l.initial.out })
      (record { input = g.I.Source.state l.input; out = g.K.Sink.state l.out });
}

-- each turn that goes on takes at least one of the bytes that are allowed
abbrev pub decreases-pieces : goal.decreases-pieces
decreases-pieces g l = l.left
