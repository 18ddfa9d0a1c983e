-- What a stream of lines asks the stage for names configured channels alone.
use Rattle.std.proofs.Common.{ℕ, List, [], ◌∷◌}
use Rattle.std.specs.Prelude.{All}
use Rattle.play_types.specs.Config.{ConfigView}
use Rattle.play_types.specs.Media.{MediaNameView}
use Rattle.play_types.specs.declared.command.Cmd.{Cmd}
use Rattle.history_model.specs.commands.Channels.{IsAimed, AreAimed}
use Rattle.history_model.specs.sessions.Session.{IsAimedStep, batch, step_commit, steps}
use Rattle.history_model.proofs.Aiming.{IsAimedParsed, parsed_is_aimed}
use Rattle.history_model.proofs.EachStep.{HoldsOfLines, batch-each, steps-each}

commit-aimed : (config : ConfigView) (commands : List Cmd) → AreAimed config commands → IsAimedStep config (step_commit commands)
commit-aimed config [] aimed = tt
commit-aimed config (command ∷ commands) aimed = aimed

lines-aimed : (config : ConfigView) → HoldsOfLines (IsAimedParsed config) (IsAimedStep config)
lines-aimed config = record {
  replied = λ answer. tt;
  kill = tt;
  ended = tt;
  skip = tt;
  ask = λ command aimed. aimed;
  commit = λ before earlier.
      commit-aimed config (batch before) (batch-each (IsAimedParsed config) (IsAimed config) (λ command aimed acts. aimed) before earlier);
}

-- the channels of all that a stream asks the stage for are configured ones
pub steps_are_aimed : (config : ConfigView) (media : List MediaNameView) (given_up stream : List ℕ) → All (IsAimedStep config) (steps config media given_up stream)
steps_are_aimed config media = steps-each config media (IsAimedParsed config) (IsAimedStep config) (parsed_is_aimed config media) (lines-aimed config)
