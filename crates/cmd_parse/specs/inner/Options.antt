-- How the options of a line are read, one after another.
use Rattle.std.specs.Prelude.{ℕ, ◌+◌, ◌&&◌, ◌||◌, not, Bool, true, false, if◌then◌else◌, Option, Some, None, is_some, option_and_then, unwrap_or, Result, Ok, Err, slice_get, codes}
use Rattle.amcp_text.specs.Numbers.{whole_number}
use Rattle.play_types.specs.Transition.{TransView, cut, trans_of}
use Rattle.play_types.specs.declared.transition.Kind.{Kind}
use Rattle.play_types.specs.declared.transition.Curve.{Curve}
use Rattle.play_types.specs.declared.transition.Curve.TheVariants.{Linear}
use Rattle.play_types.specs.declared.transition.TheConstants.{MAX_DURATION}
use Rattle.play_types.specs.declared.clip.TheConstants.{MAX_FRAMES}
use Rattle.play_types.specs.declared.parsed.Refusal.{Refusal}
use Rattle.play_types.specs.declared.parsed.Refusal.TheVariants.{Illegal}
use Rattle.history_model.specs.commands.Line.{Line, ◌>>=◌, curve_at, number_at, stands_at}
use Rattle.history_model.specs.commands.Options as meant
use Rattle.cmd_parse.specs.inner.Keyword.{keyword_of, is_cut}
use Rattle.cmd_parse.specs.declared.keyword.Keyword.{Keyword}
use Rattle.cmd_parse.specs.declared.keyword.Keyword.TheVariants.{Loop, Seek, Length, Auto, Transition}
use Rattle.cmd_parse.specs.declared.options.Given.{Given}
use Rattle.cmd_parse.specs.declared.options.Manner.{Manner}

-- the options with their defaults: a cut without a transition, and 0 without a seek
abbrev pub view : Given → meant.Options
view options = record {
  looped = options.looped;
  transition = unwrap_or options.transition cut;
  seek = unwrap_or options.seek 0;
  length = options.length;
  auto = options.auto;
}

abbrev pub result_view : Result Given Refusal → Result meant.Options Refusal
result_view (Ok options) = Ok (view options)
result_view (Err refusal) = Err refusal

-- no option was given
abbrev pub no_options : Given
no_options = record { looped = false; transition = None; seek = None; length = None; auto = false }

-- an option was given
abbrev pub has_option : Given → Keyword → Bool
has_option options Loop = options.looped
has_option options Seek = is_some options.seek
has_option options Length = is_some options.length
has_option options Auto = options.auto
has_option options (Transition kind) = is_some options.transition

abbrev pub is_leftward_at : Line → ℕ → Bool
is_leftward_at line at = stands_at line at (codes "LEFT") || stands_at line at (codes "FROMRIGHT")

abbrev pub is_direction_at : Line → ℕ → Bool
is_direction_at line at =
    is_leftward_at line at || (stands_at line at (codes "RIGHT") || stands_at line at (codes "FROMLEFT"))

-- the word at a position is a whole number of any size
abbrev pub is_number_at : Line → ℕ → Bool
is_number_at line at = is_some (option_and_then whole_number (slice_get line.words at))

-- the curve and the direction if the word at a position is this curve: a direction may follow it
abbrev pub curve_first : Line → ℕ → Curve → Manner
curve_first line at curve =
    if is_direction_at line (at + 1) then record { words = 2; curve = curve; leftward = is_leftward_at line (at + 1) }
    else record { words = 1; curve = curve; leftward = false }

-- the curve and the direction if the word at a position is no curve: a direction, with this curve after it or none; or neither
abbrev pub direction_first : Line → ℕ → Option Curve → Manner
direction_first line at curve =
    if is_direction_at line at then
    record { words = if is_some curve then 2 else 1; curve = unwrap_or curve Linear; leftward = is_leftward_at line at }
    else record { words = 0; curve = Linear; leftward = false }

-- the curve and the direction read from a position on, in either order, and the number of their words
unfoldable pub manner_at : Line → ℕ → Manner
manner_at line at = elim (curve_at line at) [
  | Some curve ↦ curve_first line at curve
  | None ↦ direction_first line at (curve_at line (at + 1))
]

-- the duration of a transition, and the number of its words: 0 for a cut without a number
unfoldable pub duration_at : Line → ℕ → Kind → Result (ℕ × ℕ) Refusal
duration_at line at kind =
    if is_cut kind && not (is_number_at line at) then Ok (0, 0)
    else (do
      duration ← number_at line at 0 MAX_DURATION
      Ok (duration, 1))

-- a transition whose duration, curve and direction are read from a position on, and the number of their words
unfoldable pub transition_at : Line → ℕ → Kind → Result (TransView × ℕ) Refusal
transition_at line at kind = do
  duration ← duration_at line at kind
  let manner = manner_at line (at + duration.1)
  Ok (trans_of kind duration.0 manner.curve manner.leftward, duration.1 + manner.words)

-- the options with the one that begins at a position, which was not given before, and the number of its words after
-- the first
abbrev pub with_given : Line → ℕ → Given → Keyword → Result (Given × ℕ) Refusal
with_given line at options Loop = Ok (record options { looped = true }, 0)
with_given line at options Auto = Ok (record options { auto = true }, 0)
with_given line at options Seek = do
  frames ← number_at line (at + 1) 0 MAX_FRAMES
  Ok (record options { seek = Some frames }, 1)
with_given line at options Length = do
  frames ← number_at line (at + 1) 1 MAX_FRAMES
  Ok (record options { length = Some frames }, 1)
with_given line at options (Transition kind) = do
  read ← transition_at line (at + 1) kind
  Ok (record options { transition = Some read.0 }, read.1)

-- the options with the one that begins at a position: refused as Illegal if it was given before
unfoldable pub with_keyword : Line → ℕ → Given → Keyword → Result (Given × ℕ) Refusal
with_keyword line at options keyword =
    if has_option options keyword then Err (Illegal line.name at) else with_given line at options keyword

-- the options with the one that the word at a position begins: a word that begins none is refused as Illegal
abbrev pub with_word : Line → ℕ → Given → Option Keyword → Result (Given × ℕ) Refusal
with_word line at options None = Err (Illegal line.name at)
with_word line at options (Some keyword) = with_keyword line at options keyword

-- the options with the one that begins at a position, and the number of words after its first that belong to it
unfoldable pub with_option : Line → ℕ → Given → Result (Given × ℕ) Refusal
with_option line at options = with_word line at options (option_and_then keyword_of (slice_get line.words at))
