-- How many ticks the bytes of a script can make.
use Rattle.std.specs.Prelude.{ℕ, ◌+◌, ◌*◌, length}
use Rattle.play_types.specs.History.{ticks}
use Rattle.script_player.specs.declared.script.Script.{Script}
use Rattle.script_player.specs.Player.{events_in}

-- the most ticks that a byte of a script makes: a line of ticks has two bytes with its end, and makes 100,000 ticks at most
abbrev pub ticks_per_byte : ℕ
ticks_per_byte = 50000

-- the ticks so far, and the most that the bytes which wait for the end of their line can make
abbrev pub ticks_due : Script → ℕ
ticks_due script = ticks (events_in script.player) + ticks_per_byte * length script.waiting.items
