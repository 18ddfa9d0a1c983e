-- Abbreviations for the worked command lines.
use Rattle.std.specs.Prelude.{ℕ, Bool, Option, List, ◌∷◌, map, codes}
use Prim.Native.String.{String}
use Rattle.clap.specs.Words.{Kinds, fault_of, first_of, matches_of}
use Rattle.play_server.specs.ServerWords.{names_twice, playd_app, workers_in}

-- the command line: the program's name, and then the words
abbrev pub line : List String → List (List ℕ)
line words = codes "playd" ∷ map codes words

-- the kinds of error of a command line; none if it is accepted
abbrev pub faults : List String → Kinds
faults words = fault_of playd_app (line words)

-- the path of the configuration
abbrev pub config : List String → Option (List ℕ)
config words = first_of (codes "config") (matches_of playd_app (line words))

-- the number of workers
abbrev pub workers : List String → ℕ
workers words = workers_in (matches_of playd_app (line words))

-- the path of the history's file
abbrev pub journal : List String → Option (List ℕ)
journal words = first_of (codes "journal") (matches_of playd_app (line words))

-- the path of the history to go on from
abbrev pub resume : List String → Option (List ℕ)
resume words = first_of (codes "resume") (matches_of playd_app (line words))

-- whether the words name one file twice
abbrev pub one_file : List String → Bool
one_file words = names_twice (matches_of playd_app (line words))
