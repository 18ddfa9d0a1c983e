-- Lines of a history that a player has played.
use Rattle.std.specs.Prelude.{◌≡◌, ℕ, ◌+◌, ◌*◌, ◌≤◌, true, false, Some, None, is_some, Result, Ok, Err, List, [], ◌∷◌, ◌++◌, length}
use Rattle.play_types.specs.History.{stop_at, ticks}
use Rattle.history_model.specs.scripts.History.{Playout, PlayedLine, goes_on, script_events}
use Rattle.history_model.specs.scripts.Memory.{AreLines, HasMemory}
use Rattle.script_player.specs.declared.player.Player.{Player}
use Rattle.script_player.specs.Player.{IsReady, Represents, events_in, playout_in}
use Rattle.script_player.specs.Script.{meanings, played_meanings}
use Rattle.script_player.specs.Shown.{Replies}
use Rattle.script_player.specs.Ticks.{ticks_per_byte}
use Rattle.history_reader.specs.HistoryText.{events_before_stop, fault_after, with_memory_for}
use Rattle.history_reader.specs.declared.line_player.LineTaken.{LineTaken}
use Rattle.history_reader.specs.declared.line_player.LineTaken.TheVariants.{Played, Stop, Kill}
use Rattle.history_reader.specs.declared.line_player.LineFault.{LineFault}
use Rattle.history_reader.specs.declared.line_player.LineFault.TheVariants.{Refused, OutOfMemory}

-- the player has played these lines, each of which is one of a history, and goes on. No reply to them reports out of memory, so they are
-- played as with memory
pub record HasPlayed (playout : Playout) (player : Player) (lines : List (List ℕ)) : Type 0 where
  pub played : List PlayedLine
  pub said : played_meanings played ≡ meanings lines
  pub whole : AreLines (meanings lines)
  pub memory : HasMemory playout played
  pub runs_on : goes_on playout played ≡ true
  pub goes : goes_on playout (with_memory_for lines) ≡ true
  pub right : fault_after playout [] (with_memory_for lines) ≡ None
  pub represents : Represents Replies playout player played

-- the player has played some lines and goes on
pub record IsPlaying (player : Player) : Type 0 where
  pub playout : Playout
  pub lines : List (List ℕ)
  pub played : HasPlayed playout player lines
  pub ready : IsReady player

-- the line is a stop after these lines: it is one of a history, which ends with it, and the other events are those of the lines before it
pub record IsStopLine (playout : Playout) (lines : List (List ℕ)) (line : List ℕ) : Type 0 where
  pub right : fault_after playout [] (with_memory_for (lines ++ line ∷ [])) ≡ None
  pub over : goes_on playout (with_memory_for (lines ++ line ∷ [])) ≡ false
  pub stop : is_some (stop_at (script_events playout (with_memory_for (lines ++ line ∷ [])))) ≡ true
  pub events : events_before_stop (script_events playout (with_memory_for (lines ++ line ∷ []))) ≡ script_events playout (with_memory_for lines)

-- what became of a line after these lines: it was played; or it is the server's own stop, and was not played; or it is a kill; or it is
-- none of a history; or memory ran out
abbrev pub TakesLine : Playout → List (List ℕ) → List ℕ → Result LineTaken LineFault → Player → Type 0
TakesLine playout lines line (Ok Played) player = HasPlayed playout player (lines ++ line ∷ [])
TakesLine playout lines line (Ok Stop) player = IsStopLine playout lines line × HasPlayed playout player lines
TakesLine playout lines line (Ok Kill) player = IsStopLine playout lines line × (playout_in player ≡ playout)
TakesLine playout lines line (Err Refused) player =
    fault_after playout [] (with_memory_for (lines ++ line ∷ [])) ≡ Some (length lines + 1)
TakesLine playout lines line (Err OutOfMemory) player = Unit {0}

-- the player goes on, unless the line is a kill, and a line makes at most `ticks_per_byte` ticks for each of its bytes
abbrev pub IsReadyAfter : Player → List ℕ → LineTaken → Player → Type 0
IsReadyAfter old line Played player =
    IsReady player × (ticks (events_in player) ≤ ticks (events_in old) + ticks_per_byte * (length line + 1))
IsReadyAfter old line Stop player = IsReady player
IsReadyAfter old line Kill player = Unit {0}
