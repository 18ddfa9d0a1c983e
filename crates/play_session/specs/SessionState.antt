-- What contracts see of a session.
use Rattle.std.specs.Prelude.{ℕ, Bool, Option, List}
use Rattle.amcp_text.specs.ReaderState.{ReaderState}
use Rattle.play_types.specs.declared.command.Cmd.{Cmd}

-- the reader of the unfinished line, whether a batch is open, the commands of the open batch or of the last one, whether the
-- connection has ended, and the token of the line whose step was returned last
pub record SessionState : Type 0 where
  pub reader : ReaderState
  pub batch_open : Bool
  pub batch : List Cmd
  pub ended : Bool
  pub token : Option (List ℕ)
