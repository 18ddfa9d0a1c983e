use Rattle.std.proofs.Common.{◌≡◌, length}
use Rattle.script_player.specs.Player.{playout_in}
use Rattle.history_reader.specs.inner.PlayedText.{IsPlayedUpTo}
use Rattle.history_reader.proofs.text.play_lines.Given as goal

-- the lines before the rest were played, and the setup is as it was
abbrev pub invariant-loop-line : goal.invariant-loop-line
invariant-loop-line g l =
    IsPlayedUpTo (playout_in l.initial.player) l.text l.rest l.player l.lines
    × (l.player.setup ≡ l.initial.player.setup)

abbrev pub decreases-loop-line : goal.decreases-loop-line
decreases-loop-line g l = length l.rest
