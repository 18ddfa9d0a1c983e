-- The words of the command line.
use Rattle.std.specs.Prelude.{ℕ, ◌≤◌, unwrap_or, Bool, true, false, if◌then◌else◌, Option, Some, None, option_map, option_and_then, List, [], ◌∷◌, codes}
use Rattle.std.specs.Str.{bytes_eq, chars}
use Rattle.amcp_text.specs.Numbers.{number_within}
use Rattle.play_types.specs.declared.geometry.Geometry.{Geometry}
use Rattle.play_types.specs.declared.geometry.TheConstants.{MAX_SIDE}
use Rattle.play_types.specs.Geometry.{IsSize}
use Rattle.play_types.specs.RecNames.{rec_name_of}
use Rattle.run_script.specs.declared.command_line.CommandLine as declared
use Rattle.run_script.specs.declared.command_line.CommandLine.TheVariants as line
use Rattle.run_script.specs.declared.command_line.TheConstants.{MAX_SEED, MAX_WORKERS}
use Rattle.made_script.specs.declared.generating.TheConstants.{MAX_STEPS}
use Rattle.script_player.specs.Playouts.{geometry}
use Rattle.script_player.specs.Shown.{Shown, Frames}
use Rattle.status_display.specs.Status.{Status}

-- a command line
pub data CommandLine : Type 0 where
  -- one channel of a size, without sound and without clips
  Plain : Geometry → CommandLine
  -- how ticks are shown, the configuration at a path, given by its bytes, and whether frames are written as digests
  Configured : Shown → List ℕ → Bool → CommandLine
  -- a script that is generated from a seed and a number of steps
  Generated : ℕ → ℕ → CommandLine
  -- a clip that is converted
  Converted : CommandLine
  -- a cue sheet on the configuration at a path, given by its bytes, and whether frames are written as digests
  Planned : List ℕ → Bool → CommandLine
  -- the film of a script on the configuration at a path, given by its bytes, that was recorded under a name in capitals
  Recorded : List ℕ → List ℕ → CommandLine

-- a width or a height
abbrev pub side : List ℕ → Option ℕ
side word = number_within 1 MAX_SIDE word

-- the size of the words `W H`
abbrev pub size_of : List (List ℕ) → Option Geometry
size_of (width ∷ height ∷ []) =
    option_and_then (λ (w : ℕ). option_map (geometry w) (side height)) (side width)
size_of other = None

-- a number of workers
abbrev pub workers : List ℕ → Option ℕ
workers word = number_within 1 MAX_WORKERS word

-- whether the last words ask for digests, none if they are anything else
abbrev pub digests_of : List (List ℕ) → Option Bool
digests_of [] = Some false
digests_of (word ∷ []) = if bytes_eq word (codes "--digest") then Some true else None
digests_of (word ∷ next ∷ rest) = None

-- whether the words after a path ask for digests: `--workers N` may come before; none if they are anything else
abbrev pub options_of : List (List ℕ) → Option Bool
options_of (option ∷ number ∷ rest) =
    if bytes_eq option (codes "--workers") then option_and_then (λ (n : ℕ). digests_of rest) (workers number) else None
options_of other = digests_of other

-- the number of workers in the words after a path, one if they have none
abbrev pub workers_of : List (List ℕ) → ℕ
workers_of (option ∷ number ∷ rest) = if bytes_eq option (codes "--workers") then unwrap_or (workers number) 1 else 1
workers_of other = 1

-- the command line of the words after `run`: a size, or `--config`, a path and options
abbrev pub run_of : List (List ℕ) → Option CommandLine
run_of (word ∷ next ∷ rest) =
    if bytes_eq word (codes "--config") then option_map (Configured Frames next) (options_of rest)
    else option_map Plain (size_of (word ∷ next ∷ rest))
run_of other = None

-- the command line of the words after `gen`: a seed of 64 bits, and 1 to 100,000 steps
abbrev pub generated_of : List (List ℕ) → Option CommandLine
generated_of (seed ∷ steps ∷ []) =
    option_and_then
    (λ (s : ℕ). option_map (Generated s) (number_within 1 MAX_STEPS steps))
    (number_within 0 MAX_SEED seed)
generated_of other = None

-- the command line of the words after `convert`, of which there may be none
abbrev pub converted_of : List (List ℕ) → Option CommandLine
converted_of [] = Some Converted
converted_of (word ∷ rest) = None

-- the command line of the words after `plan`: `--config`, a path and options
abbrev pub planned_of : List (List ℕ) → Option CommandLine
planned_of (word ∷ path ∷ rest) =
    if bytes_eq word (codes "--config") then option_map (Planned path) (options_of rest) else None
planned_of other = None

-- the command line of the words after `osc`: `--config` and a path; the status of the channels is written in place of frames
abbrev pub reported_of : List (List ℕ) → Option CommandLine
reported_of (word ∷ path ∷ []) = if bytes_eq word (codes "--config") then Some (Configured Status path false) else None
reported_of other = None

-- the number of workers in the last words: one if there are none, that of `--workers N`, and none for anything else
abbrev pub last_workers : List (List ℕ) → Option ℕ
last_workers [] = Some 1
last_workers (option ∷ number ∷ []) = if bytes_eq option (codes "--workers") then workers number else None
last_workers other = None

-- the command line of the words after `record`: `--config`, a path and the name of a recording, after which `--workers N` may follow
abbrev pub recorded_of : List (List ℕ) → Option CommandLine
recorded_of (word ∷ path ∷ name ∷ rest) =
    if bytes_eq word (codes "--config")
    then option_and_then (λ (kept : List ℕ). option_map (λ (n : ℕ). Recorded path kept) (last_workers rest)) (rec_name_of (chars name))
    else None
recorded_of other = None

-- the command line of words, by the first of them
abbrev pub command_line_of : List (List ℕ) → Option CommandLine
command_line_of [] = None
command_line_of (word ∷ rest) =
    if bytes_eq word (codes "run") then run_of rest
    else if bytes_eq word (codes "gen") then generated_of rest
    else if bytes_eq word (codes "convert") then converted_of rest
    else if bytes_eq word (codes "plan") then planned_of rest
    else if bytes_eq word (codes "osc") then reported_of rest
    else if bytes_eq word (codes "record") then recorded_of rest
    else None

-- the command line of the code, with its path as bytes and without its number of workers
abbrev pub command_line_view : declared.CommandLine → CommandLine
command_line_view (line.Plain size) = Plain size
command_line_view (line.Configured path digests workers) = Configured Frames path.now digests
command_line_view (line.Generated seed steps) = Generated seed steps
command_line_view line.Converted = Converted
command_line_view (line.Planned path digests workers) = Planned path.now digests
command_line_view (line.Reported path) = Configured Status path.now false
command_line_view (line.Recorded path name workers) = Recorded path.now name

-- the numbers of a command line are in range: the sides of its size, its workers or its steps
abbrev pub IsInRange : declared.CommandLine → Type 0
IsInRange (line.Plain size) = IsSize size.width size.height 0
IsInRange (line.Configured path digests workers) = (1 ≤ workers) × (workers ≤ MAX_WORKERS)
IsInRange (line.Generated seed steps) = steps ≤ MAX_STEPS
IsInRange line.Converted = Unit {0}
IsInRange (line.Planned path digests workers) = (1 ≤ workers) × (workers ≤ MAX_WORKERS)
IsInRange (line.Reported path) = Unit {0}
IsInRange (line.Recorded path name workers) = (1 ≤ workers) × (workers ≤ MAX_WORKERS)
