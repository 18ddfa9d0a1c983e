-- Abbreviations for the worked command lines.
use Rattle.std.specs.Prelude.{ℕ, Bool, Option, List, ◌∷◌, map, codes}
use Prim.Native.String.{String}
use Rattle.clap.specs.Words.{Kinds, fault_of, first_of, matches_of}
use Rattle.clap.specs.Walk.{Row}
use Rattle.play_viewer.specs.ViewerWords.{has_too_many, pictures_in, playview_app, receivers_in}

-- the command line: the program's name, and then the words
abbrev pub line : List String → List (List ℕ)
line words = codes "playview" ∷ map codes words

-- the kinds of error of a command line; none if it is accepted
abbrev pub faults : List String → Kinds
faults words = fault_of playview_app (line words)

-- what was found on a command line
abbrev pub rows : List String → List Row
rows words = matches_of playview_app (line words)

-- the path of the log
abbrev pub log : List String → Option (List ℕ)
log words = first_of (codes "log") (rows words)

-- whether pictures are wanted
abbrev pub pictures : List String → Bool
pictures words = pictures_in (rows words)

-- the addresses of the receivers
abbrev pub receivers : List String → List (List ℕ)
receivers words = receivers_in (rows words)

-- whether there are too many receivers
abbrev pub too_many : List String → Bool
too_many words = has_too_many (rows words)
