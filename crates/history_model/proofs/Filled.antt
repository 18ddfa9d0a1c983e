-- A batch that a stream of lines asks the stage for has a command.
use Rattle.std.proofs.Common.{ℕ, List, [], ◌∷◌, arith}
use Rattle.std.specs.Prelude.{IfSome, All}
use Rattle.play_types.specs.Config.{ConfigView}
use Rattle.play_types.specs.Media.{MediaNameView}
use Rattle.play_types.specs.declared.command.Cmd.{Cmd}
use Rattle.play_types.specs.declared.event.Tag.{Tag}
use Rattle.history_model.specs.sessions.Session.{IsFilledStep, batch, step_commit, steps}
use Rattle.history_model.specs.scripts.History.{PlayedLine, Playout, said_step}
use Rattle.history_model.proofs.EachStep.{said-each, steps-each}

-- a COMMIT asks for no empty batch
pub commit-filled : (commands : List Cmd) → IsFilledStep (step_commit commands)
commit-filled [] = tt
commit-filled (command ∷ commands) = omega arith

-- no batch of a stream is empty
pub steps_are_filled : (config : ConfigView) (media : List MediaNameView) (given_up stream : List ℕ) → All IsFilledStep (steps config media given_up stream)
steps_are_filled config media =
    steps-each config media (λ asked. Unit {0}) IsFilledStep (λ words asked is. tt)
    (record { replied = λ answer. tt; kill = tt; ended = tt; skip = tt; ask = λ command any. tt; commit = λ before any. commit-filled (batch before) })

-- no batch of a connection's line in a script is empty
pub said_is_filled : (playout : Playout) (before : List PlayedLine) (line : PlayedLine) (tag : Tag) → IfSome (said_step playout before line tag) IsFilledStep
said_is_filled playout = said-each playout IsFilledStep (steps_are_filled playout.config playout.names)
