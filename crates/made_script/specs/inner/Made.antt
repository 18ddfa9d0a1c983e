-- A run of a generated script, line by line.
use Rattle.std.specs.Prelude.{◌≡◌, ℕ, ◌+◌, true, Option, Some, None, Result, Ok, Err, List, [], ◌∷◌, ◌++◌, length, map, filter}
use Rattle.sha2.specs.Hashers.{Holds256}
use Rattle.play_types.specs.declared.reply.Reply.{Reply}
use Rattle.play_outside.specs.SinkState.{SinkState}
use Rattle.play_outside.specs.Sink.{Sends}
use Rattle.play_outside.specs.declared.sink.Sent.{Sent}
use Rattle.history_model.specs.scripts.Generator.{generator_playout, summary}
use Rattle.history_model.specs.scripts.History.{PlayedLine, goes_on, script_events}
use Rattle.history_model.specs.scripts.Line.{meaning}
use Rattle.history_model.specs.scripts.Memory.{AreLines, HasMemory, HadMemory, lines_played, with_memory}
use Rattle.history_model.specs.scripts.Output.{script_output}
use Rattle.history_model.specs.scripts.Replies.{is_refusal, script_replies}
use Rattle.server_setup.specs.declared.fault.RunFault.{RunFault}
use Rattle.server_setup.specs.declared.fault.RunFault.TheVariants as faults
use Rattle.script_player.specs.Script.{meanings}
use Rattle.script_player.specs.declared.ending.Halt.{Halt}
use Rattle.script_player.specs.declared.ending.Halt.TheVariants as halt
use Rattle.made_script.specs.declared.made_run.MadeRun.{MadeRun}
use Rattle.script_player.specs.Player.{Represents, events_in}
use Rattle.script_player.specs.Shown.{Frames}

-- the number of replies that refuse their line
abbrev pub refusals : List Reply → ℕ
refusals replies = length (filter is_refusal replies)

-- these lines were played and hashed, no reply to them reports out of memory, and the run goes on after them
pub record HasMade (lines : List (List ℕ)) (run : MadeRun) : Type 0 where
  pub played : List PlayedLine
  pub said : lines_played played ≡ meanings lines
  pub memory : HasMemory generator_playout played
  pub runs_on : goes_on generator_playout played ≡ true
  pub represents : Represents Frames generator_playout run.player played
  pub hashed : Holds256 run.hasher (script_output generator_playout played)
  pub refused : run.refused ≡ refusals (script_replies generator_playout played)

-- the history, the output and the replies are those of these lines
pub record HasPlayed (lines : List PlayedLine) (run : MadeRun) : Type 0 where
  pub history : events_in run.player ≡ script_events generator_playout lines
  pub hashed : Holds256 run.hasher (script_output generator_playout lines)
  pub refused : run.refused ≡ refusals (script_replies generator_playout lines)

-- the lines, played with memory for each of them
abbrev pub in_memory : List (List ℕ) → List PlayedLine
in_memory lines = map (λ line. with_memory (meaning line)) lines

-- a line after others was played, and the run goes on; or it ends at the line, whatever follows; or memory ran out
abbrev pub TakesLine : List (List ℕ) → List ℕ → Result (Unit {0}) Halt → MadeRun → Type 0
TakesLine lines line (Ok done) run = HasMade (lines ++ line ∷ []) run
TakesLine lines line (Err halt.Stop) run =
    (rest : List (List ℕ)) → AreLines (meanings (lines ++ line ∷ rest)) → HasPlayed (in_memory (lines ++ line ∷ rest)) run
TakesLine lines line (Err halt.Write) run = Unit {0}
TakesLine lines line (Err halt.Memory) run = Unit {0}
TakesLine lines line (Err halt.Rejected) run = ⊥

-- all of the lines were played, or those up to the one at which the run ends; or memory ran out
abbrev pub PlaysAll : List (List ℕ) → Result (Unit {0}) Halt → MadeRun → Type 0
PlaysAll lines (Ok done) run = HasPlayed (in_memory lines) run
PlaysAll lines (Err halt.Stop) run = HasPlayed (in_memory lines) run
PlaysAll lines (Err halt.Write) run = Unit {0}
PlaysAll lines (Err halt.Memory) run = Unit {0}
PlaysAll lines (Err halt.Rejected) run = ⊥

-- a run of all of the lines ends well if they were played, or those up to a stop; otherwise the fault is out of memory
abbrev pub EndsMade : Result (Unit {0}) Halt → Option RunFault → Type 0
EndsMade (Ok done) fault = fault ≡ None
EndsMade (Err halt.Stop) fault = fault ≡ None
EndsMade (Err halt.Write) fault = fault ≡ Some faults.OutOfMemory
EndsMade (Err halt.Memory) fault = fault ≡ Some faults.OutOfMemory
EndsMade (Err halt.Rejected) fault = ⊥

-- a reply was counted if it refuses its line; one that reports out of memory stops the run and was not counted
abbrev pub CountsReply : Reply → Result (Unit {0}) Halt → ℕ → ℕ → Type 0
CountsReply answer (Ok done) before after = HadMemory answer × (after ≡ before + refusals (answer ∷ []))
CountsReply answer (Err halt.Memory) before after = after ≡ before
CountsReply answer (Err halt.Stop) before after = ⊥
CountsReply answer (Err halt.Write) before after = ⊥
CountsReply answer (Err halt.Rejected) before after = ⊥

-- the summary of these lines was written, or a write of it failed
abbrev pub SendsSummary : List PlayedLine → Sent → SinkState → SinkState → Type 0
SendsSummary lines sent before after = Sends sent (summary generator_playout lines) before after
