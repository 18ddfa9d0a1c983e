-- The command of `playview` that is handed to `clap`.
use Rattle.std.specs.Prelude.{◌≡◌, true, is_some, codes}
use Rattle.clap.specs.Words.{app_of, first_value, found_of, IsParsedFrom}
use Rattle.clap.specs.declared.builder.command.Command.{Command}
use Rattle.clap.specs.declared.parser.matches.ArgMatches.{ArgMatches}
use Rattle.play_viewer.specs.ViewerWords.{playview_app}

-- the matches have a configuration and a log
pub record HasRequired (matches : ArgMatches) : Type 0 where
  pub config : is_some (first_value (found_of matches) (codes "config")) ≡ true
  pub log : is_some (first_value (found_of matches) (codes "log")) ≡ true

-- a command has the arguments of `playview`, and each command line that it accepts has a configuration and a log
pub record IsViewerCommand (command : Command) : Type 0 where
  pub shape : app_of command ≡ playview_app
  pub given : (m : ArgMatches) → IsParsedFrom command m → HasRequired m
