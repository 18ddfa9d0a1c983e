-- The command of `playd` that is handed to `clap`.
use Rattle.std.specs.Prelude.{◌≡◌, true, is_some, codes}
use Rattle.clap.specs.Words.{app_of, first_value, found_of, IsParsedFrom}
use Rattle.clap.specs.declared.builder.command.Command.{Command}
use Rattle.clap.specs.declared.parser.matches.ArgMatches.{ArgMatches}
use Rattle.play_server.specs.ServerWords.{playd_app}

-- a command has the arguments of `playd`, and each command line that it accepts has a configuration
pub record IsServerCommand (command : Command) : Type 0 where
  pub shape : app_of command ≡ playd_app
  pub config_given : (m : ArgMatches) → IsParsedFrom command m → is_some (first_value (found_of m) (codes "config")) ≡ true
