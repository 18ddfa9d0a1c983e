-- The command line of `playd`, as `clap` reads it.
use Rattle.std.specs.Prelude.{◌≡◌, ◌≢◌, ◌⊎◌, ◌||◌, ◌++◌, Bool, true, false, ℕ, List, [], Option, Some, None, Result, MatchResult, codes, pos, min, max, option_map, string_bytes}
use Rattle.std.specs.Option.{option_map_or}
use Rattle.std.specs.Str.{bytes_eq}
use Rattle.clap.specs.Words.{App, Rule, fault_of, first_of, matches_of, new_app, new_rule, with_rule}
use Rattle.clap.specs.Simple.{on_top}
use Rattle.clap.specs.Walk.{Row, byte_or_zero}
use Rattle.clap.specs.declared.builder.action.ArgAction.TheVariants.{Set}
use Rattle.clap.specs.declared.builder.value_parser.ValueParser.TheVariants as value
use Rattle.play_server.specs.declared.words.ServerWords.{ServerWords}
use Rattle.play_server.specs.declared.words.ServerWordsFault.{ServerWordsFault}
use Rattle.play_server.specs.declared.words.ServerWordsFault.TheVariants.{Usage, OutOfMemory}

-- `--config FILE` is required
abbrev pub config_rule : Rule
config_rule = record (new_rule (codes "config")) { long = Some (codes "config"); action = Some Set; required = true }

-- `--workers N` is a number from 1 to 64
abbrev pub workers_rule : Rule
workers_rule =
    record (new_rule (codes "workers")) {
      long = Some (codes "workers");
      action = Some Set;
      parser = Some (value.Signed (pos 1) (pos 64));
    }

-- `--journal FILE`
abbrev pub journal_rule : Rule
journal_rule = record (new_rule (codes "journal")) { long = Some (codes "journal"); action = Some Set }

-- `--resume FILE`
abbrev pub resume_rule : Rule
resume_rule = record (new_rule (codes "resume")) { long = Some (codes "resume"); action = Some Set }

-- `playd` without arguments, and without the options for help and for the version
abbrev pub bare_app : App
bare_app = on_top (λ settings. record settings { disable_help_flag = true; disable_version_flag = true }) (new_app (codes "playd"))

-- `playd` takes a configuration, and may take a number of workers, a journal, and a history to go on from
abbrev pub playd_app : App
playd_app = with_rule (with_rule (with_rule (with_rule bare_app config_rule) workers_rule) journal_rule) resume_rule

-- the number of workers, from 1 to 64; 1 if none was given
abbrev pub workers_in : List Row → ℕ
workers_in rows = option_map_or (λ text. max 1 (min (byte_or_zero text) 64)) (first_of (codes "workers") rows) 1

-- whether the history to go on from has the path of the history's file, or that path with `.log` after it, which is that of its log
abbrev pub is_one_file : Option (List ℕ) → Option (List ℕ) → Bool
is_one_file None journal = false
is_one_file (Some resume) None = false
is_one_file (Some resume) (Some journal) = bytes_eq resume journal || bytes_eq resume (journal ++ codes ".log")

-- whether the arguments name one file as the history to go on from and as the file of the history, or its log
abbrev pub names_twice : List Row → Bool
names_twice rows = is_one_file (first_of (codes "resume") rows) (first_of (codes "journal") rows)

-- the words have the values of the arguments
pub record Names (rows : List Row) (words : ServerWords) : Type 0 where
  pub config : first_of (codes "config") rows ≡ Some (string_bytes words.config)
  pub workers : words.workers ≡ workers_in rows
  pub journal : first_of (codes "journal") rows ≡ option_map string_bytes words.journal
  pub resume : first_of (codes "resume") rows ≡ option_map string_bytes words.resume

-- the command line is refused: by `clap`, or since it names one file twice
abbrev pub IsRefusedLine : List (List ℕ) → Type 0
IsRefusedLine line = (fault_of playd_app line ≢ []) ⊎ (names_twice (matches_of playd_app line) ≡ true)

-- the command line is accepted, and the words have its values
pub record Accepts (line : List (List ℕ)) (words : ServerWords) : Type 0 where
  pub accepted : fault_of playd_app line ≡ []
  pub once : names_twice (matches_of playd_app line) ≡ false
  pub names : Names (matches_of playd_app line) words

-- the command line is refused, or memory ran out
abbrev pub Refuses : List (List ℕ) → ServerWordsFault → Type 0
Refuses line Usage = IsRefusedLine line
Refuses line OutOfMemory = Unit {0}

-- the result of parsing a command line, whose first word is the program's name
abbrev pub ReadsWords : List (List ℕ) → Result ServerWords ServerWordsFault → Type 0
ReadsWords line result = MatchResult result (Accepts line) (Refuses line)
