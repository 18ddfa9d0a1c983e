-- The command line of `playview`, as `clap` reads it.
use Rattle.std.specs.Prelude.{◌≡◌, ◌≢◌, ◌⊎◌, Bool, true, false, not, ℕ, nat_lt, List, [], length, map, Some, Result, MatchResult, codes, pos, min, max, option_map, string_bytes, unwrap_or}
use Rattle.std.specs.Option.{option_map_or}
use Rattle.std.specs.Str.{bytes_eq}
use Rattle.clap.specs.Words.{App, Rule, all_of, fault_of, first_of, matches_of, new_app, new_rule, with_rule}
use Rattle.clap.specs.Simple.{on_top}
use Rattle.clap.specs.Walk.{Row, byte_or_zero}
use Rattle.clap.specs.declared.builder.action.ArgAction.TheVariants.{Set, SetTrue, Append}
use Rattle.clap.specs.declared.builder.value_parser.ValueParser.TheVariants as value
use Rattle.play_viewer.specs.declared.words.TheConstants.{MAX_RECEIVERS}
use Rattle.play_viewer.specs.declared.words.ViewerWords.{ViewerWords}
use Rattle.play_viewer.specs.declared.words.ViewerWordsFault.{ViewerWordsFault}
use Rattle.play_viewer.specs.declared.words.ViewerWordsFault.TheVariants.{Usage, OutOfMemory}

-- `--config FILE` is required
abbrev pub config_rule : Rule
config_rule = record (new_rule (codes "config")) { long = Some (codes "config"); action = Some Set; required = true }

-- `--log FILE` is required
abbrev pub log_rule : Rule
log_rule = record (new_rule (codes "log")) { long = Some (codes "log"); action = Some Set; required = true }

-- `--listen HOST:PORT`
abbrev pub listen_rule : Rule
listen_rule = record (new_rule (codes "listen")) { long = Some (codes "listen"); action = Some Set }

-- `--workers N` is a number from 1 to 64
abbrev pub workers_rule : Rule
workers_rule =
    record (new_rule (codes "workers")) {
      long = Some (codes "workers");
      action = Some Set;
      parser = Some (value.Signed (pos 1) (pos 64));
    }

-- `--no-pictures`
abbrev pub no_pictures_rule : Rule
no_pictures_rule = record (new_rule (codes "no-pictures")) { long = Some (codes "no-pictures"); action = Some SetTrue }

-- `--osc HOST:PORT`, which may come again
abbrev pub osc_rule : Rule
osc_rule = record (new_rule (codes "osc")) { long = Some (codes "osc"); action = Some Append }

-- `playview` without arguments, and without the options for help and for the version
abbrev pub bare_app : App
bare_app = on_top (λ settings. record settings { disable_help_flag = true; disable_version_flag = true }) (new_app (codes "playview"))

-- `playview` takes a configuration and a log, and may take an address, a number of workers, that it makes no pictures, and receivers
abbrev pub playview_app : App
playview_app =
    with_rule (with_rule (with_rule (with_rule (with_rule (with_rule bare_app config_rule) log_rule) listen_rule) workers_rule) no_pictures_rule) osc_rule

-- the number of workers, from 1 to 64; 1 if none was given
abbrev pub workers_in : List Row → ℕ
workers_in rows = option_map_or (λ text. max 1 (min (byte_or_zero text) 64)) (first_of (codes "workers") rows) 1

-- whether pictures are wanted
abbrev pub pictures_in : List Row → Bool
pictures_in rows = option_map_or (λ text. not (bytes_eq text (codes "true"))) (first_of (codes "no-pictures") rows) true

-- the addresses of the receivers
abbrev pub receivers_in : List Row → List (List ℕ)
receivers_in rows = unwrap_or (all_of (codes "osc") rows) []

-- whether there are more receivers than eight
abbrev pub has_too_many : List Row → Bool
has_too_many rows = nat_lt MAX_RECEIVERS (length (receivers_in rows))

-- the address at which browsers are answered: 127.0.0.1:5280 if none was given
abbrev pub address_of : ViewerWords → List ℕ
address_of words = unwrap_or (option_map string_bytes words.listen) (codes "127.0.0.1:5280")

-- the words have the values of the arguments
pub record Names (rows : List Row) (words : ViewerWords) : Type 0 where
  pub config : first_of (codes "config") rows ≡ Some (string_bytes words.config)
  pub log : first_of (codes "log") rows ≡ Some (string_bytes words.log)
  pub listen : first_of (codes "listen") rows ≡ option_map string_bytes words.listen
  pub workers : words.workers ≡ workers_in rows
  pub pictures : words.pictures ≡ pictures_in rows
  pub receivers : map string_bytes words.receivers.items ≡ receivers_in rows

-- the command line is refused: by `clap`, or since it has too many receivers
abbrev pub IsRefusedLine : List (List ℕ) → Type 0
IsRefusedLine line = (fault_of playview_app line ≢ []) ⊎ (has_too_many (matches_of playview_app line) ≡ true)

-- the command line is accepted, and the words have its values
pub record Accepts (line : List (List ℕ)) (words : ViewerWords) : Type 0 where
  pub accepted : fault_of playview_app line ≡ []
  pub few : has_too_many (matches_of playview_app line) ≡ false
  pub names : Names (matches_of playview_app line) words

-- the command line is refused, or memory ran out
abbrev pub Refuses : List (List ℕ) → ViewerWordsFault → Type 0
Refuses line Usage = IsRefusedLine line
Refuses line OutOfMemory = Unit {0}

-- the result of parsing a command line, whose first word is the program's name
abbrev pub ReadsWords : List (List ℕ) → Result ViewerWords ViewerWordsFault → Type 0
ReadsWords line result = MatchResult result (Accepts line) (Refuses line)
