-- Which logs are taken, and why one is not.
use Rattle.std.specs.Prelude.{◌≡◌, ◌≢◌, ◌⊎◌, ℕ, ◌+◌, ◌<◌, ◌≤◌, true, false, List, [], ◌∷◌, ◌++◌, length}
use Rattle.history_model.specs.declared.limits.TheConstants.{MAX_INPUT_BYTES}
use Rattle.history_model.specs.scripts.History.{Playout, PlayedLine, ends_at, goes_on}
use Rattle.history_model.specs.scripts.Input.{ended_lines}
use Rattle.history_model.specs.scripts.Line.{Rejected}
use Rattle.history_model.specs.scripts.Memory.{HasMemory}
use Rattle.server_setup.specs.declared.fault.RunFault.{RunFault}
use Rattle.server_setup.specs.declared.fault.RunFault.TheVariants as faults
use Rattle.script_player.specs.Script.{IsAtLast, meanings, played_meanings}

-- all lines of the bytes that have ended are played, with memory for each, and the run goes on after them
pub record PlaysOn (playout : Playout) (bytes : List ℕ) : Type 0 where
  pub played : List PlayedLine
  pub said : played_meanings played ≡ meanings (ended_lines bytes)
  pub memory : HasMemory playout played
  pub runs_on : goes_on playout played ≡ true
  pub few : length bytes ≤ MAX_INPUT_BYTES

-- the last line of a part of the bytes ends the run, and what follows it counts for nothing
pub record EndsRun (playout : Playout) (bytes : List ℕ) : Type 0 where
  pub part : List ℕ
  pub rest : List ℕ
  pub parts : bytes ≡ part ++ rest
  pub at : IsAtLast playout (record { bytes = part; ended = false })
  pub accepted : at.last.line ≢ Rejected
  pub ends : ends_at playout at.before at.last at.last.line ≡ true
  pub memory : HasMemory playout (at.before ++ at.last ∷ [])

-- the bytes are those of a log so far
abbrev pub TakesLog : Playout → List ℕ → Type 0
TakesLog playout bytes = PlaysOn playout bytes ⊎ EndsRun playout bytes

-- the last line of a part of the bytes, which has this number, is rejected, and the run goes on before it
pub record RejectsLine (playout : Playout) (bytes : List ℕ) (number : ℕ) : Type 0 where
  pub part : List ℕ
  pub rest : List ℕ
  pub parts : bytes ≡ part ++ rest
  pub at : IsAtLast playout (record { bytes = part; ended = false })
  pub rejected : at.last.line ≡ Rejected
  pub place : number ≡ length at.before + 1
  pub memory : HasMemory playout at.before

-- why these bytes are not taken: a line is rejected, there are too many, or memory ran out
abbrev pub RefusesLog : Playout → List ℕ → RunFault → Type 0
RefusesLog playout bytes (faults.BadLine number) = RejectsLine playout bytes number
RefusesLog playout bytes faults.InputTooLong = MAX_INPUT_BYTES < length bytes
RefusesLog playout bytes faults.OutOfMemory = Unit {0}
RefusesLog playout bytes faults.Usage = ⊥
RefusesLog playout bytes faults.ConfigText = ⊥
RefusesLog playout bytes (faults.ConfigKey key) = ⊥
RefusesLog playout bytes (faults.Plan number) = ⊥
RefusesLog playout bytes faults.PlanEnd = ⊥
RefusesLog playout bytes (faults.Record name) = ⊥
RefusesLog playout bytes (faults.Resume number) = ⊥
RefusesLog playout bytes (faults.Clip fault) = ⊥
RefusesLog playout bytes (faults.MediaTwice name) = ⊥
RefusesLog playout bytes (faults.MediaTotal sum) = ⊥
RefusesLog playout bytes faults.Device = ⊥
