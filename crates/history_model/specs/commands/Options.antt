-- The options of LOADBG, LOAD and PLAY.
use Rattle.std.specs.Prelude.{ℕ, suc, zero, ◌+◌, ◌==◌, Bool, false, ◌&&◌, ◌||◌, if◌then◌else◌, Option, Some, None, Result, Ok, Err, List, [], ◌∷◌, ◌++◌, take, drop, slice_get, is_some, is_none, unwrap_or, option_map, option_and_then, filter_map, codes}
use Rattle.std.specs.Option.{option_map_or}
use Rattle.std.specs.List.{list_any, find}
use Rattle.amcp_text.specs.Numbers.{whole_number, number_within}
use Rattle.play_types.specs.Transition.{TransView, cut, trans_of}
use Rattle.play_types.specs.declared.transition.Kind.TheVariants.{Cut}
use Rattle.play_types.specs.declared.transition.Curve.{Curve}
use Rattle.play_types.specs.declared.transition.Curve.TheVariants.{Linear}
use Rattle.play_types.specs.declared.transition.TheConstants.{MAX_DURATION}
use Rattle.play_types.specs.declared.clip.TheConstants.{MAX_FRAMES}
use Rattle.play_types.specs.declared.reply.Name.{Name}
use Rattle.play_types.specs.declared.parsed.Refusal.{Refusal}
use Rattle.play_types.specs.declared.parsed.Refusal.TheVariants.{Missing, Illegal}
use Rattle.play_types.specs.Words.{curve_of, is_word, kind_of}
use Rattle.history_model.specs.commands.Line.{Line}

-- the options, each of which may be given once. CUT and the other transitions are one option
pub data OptionName : Type 0 where
  Loop : OptionName
  Transition : OptionName
  Seek : OptionName
  Length : OptionName
  Auto : OptionName

-- the option that begins with this word
abbrev pub option_of : List ℕ → Option OptionName
option_of word =
    if is_word (codes "LOOP") word then Some Loop
    else if is_word (codes "SEEK") word then Some Seek
    else if is_word (codes "LENGTH") word then Some Length
    else if is_word (codes "AUTO") word then Some Auto
    else if is_some (kind_of word) then Some Transition
    else None

abbrev pub is_curve : List ℕ → Bool
is_curve word = is_some (curve_of word)

abbrev pub is_leftward : List ℕ → Bool
is_leftward word = is_word (codes "LEFT") word || is_word (codes "FROMRIGHT") word

abbrev pub is_direction : List ℕ → Bool
is_direction word = is_leftward word || (is_word (codes "RIGHT") word || is_word (codes "FROMLEFT") word)

-- how many of the first words are a curve and a direction: in either order, each at most once
abbrev pub manner_len : List (List ℕ) → ℕ
manner_len [] = 0
manner_len (one ∷ []) = if is_curve one || is_direction one then 1 else 0
manner_len (one ∷ two ∷ rest) =
    if is_curve one then (if is_direction two then 2 else 1)
    else if is_direction one then (if is_curve two then 2 else 1)
    else 0

-- how many words the number of an option takes that begins with this word: 0 or 1. After CUT it may be left out
abbrev pub number_len : List ℕ → OptionName → List (List ℕ) → ℕ
number_len word Loop rest = 0
number_len word Auto rest = 0
number_len word Seek rest = 1
number_len word Length rest = 1
number_len word Transition rest =
    if is_word (codes "CUT") word && is_none (option_and_then whole_number (slice_get rest 0)) then 0 else 1

-- how many of the words after this one belong to the option that begins with it
abbrev pub option_len : List ℕ → Option OptionName → List (List ℕ) → ℕ
option_len word (Some Loop) rest = number_len word Loop rest
option_len word (Some Transition) rest =
    let number = number_len word Transition rest in number + manner_len (drop number rest)
option_len word (Some Seek) rest = number_len word Seek rest
option_len word (Some Length) rest = number_len word Length rest
option_len word (Some Auto) rest = number_len word Auto rest
option_len word None rest = 0

-- an option as it is written: the position of its first word, that word, and the words after it that belong to it
pub record Written : Type 0 where
  pub at : ℕ
  pub word : List ℕ
  pub more : List (List ℕ)

-- the options that are written from a position on, each with the words that belong to it. The first `passed` words belong to
-- the option before, and are skipped
abbrev pub options_after : ℕ → ℕ → List (List ℕ) → List Written
options_after passed at [] = []
options_after (suc passed) at (word ∷ words) = options_after passed (at + 1) words
options_after zero at (word ∷ words) =
    let len = option_len word (option_of word) words in
    record { at = at; word = word; more = take len words } ∷ options_after len (at + 1) words

-- the options that are written from a position on
abbrev pub options_from : ℕ → List (List ℕ) → List Written
options_from at words = options_after 0 at words

-- the index of an option, by which options are compared
abbrev pub option_number : OptionName → ℕ
option_number Loop = 0
option_number Transition = 1
option_number Seek = 2
option_number Length = 3
option_number Auto = 4

-- whether two options are equal
abbrev pub is_same_option : OptionName → OptionName → Bool
is_same_option one other = option_number one == option_number other

-- whether a written option is this one
abbrev pub is_option : OptionName → Written → Bool
is_option option written = option_map_or (is_same_option option) (option_of written.word) false

-- the first written option of this name, if there is one
abbrev pub given : OptionName → List Written → Option Written
given option all = find (is_option option) all

-- the least number that an option may have. A length is at least 1
abbrev pub least_number : OptionName → ℕ
least_number Loop = 0
least_number Transition = 0
least_number Seek = 0
least_number Length = 1
least_number Auto = 0

-- the greatest number that an option may have: a duration in ticks, or a count of frames
abbrev pub most_number : OptionName → ℕ
most_number Loop = 0
most_number Transition = MAX_DURATION
most_number Seek = MAX_FRAMES
most_number Length = MAX_FRAMES
most_number Auto = 0

-- the value of a word as the number of an option, none if it is no number in its range
abbrev pub option_value : OptionName → List ℕ → Option ℕ
option_value option word = number_within (least_number option) (most_number option) word

-- the number of a written option, 0 if it has none
abbrev pub written_number : OptionName → Written → ℕ
written_number option written = unwrap_or (option_and_then (option_value option) (slice_get written.more 0)) 0

-- the refusal of an option's number: Missing if there is none, Illegal if it is out of range or no number
abbrev pub number_refusal : Name → ℕ → OptionName → Option (List ℕ) → Option Refusal
number_refusal name at option None = Some (Missing name)
number_refusal name at option (Some number) =
    if is_some (option_value option number) then None else Some (Illegal name (at + 1))

-- the refusal of a word after other options: it begins no option, it repeats one, or its number is refused
abbrev pub option_refusal : Name → List Written → Written → Option OptionName → Option Refusal
option_refusal name before written None = Some (Illegal name written.at)
option_refusal name before written (Some option) =
    if is_some (given option before) then Some (Illegal name written.at)
    else if number_len written.word option written.more == 0 then None
    else number_refusal name written.at option (slice_get written.more 0)

-- the first refusal of options, from the left, after options that are not refused
abbrev pub options_refusal : Name → List Written → List Written → Option Refusal
options_refusal name before [] = None
options_refusal name before (written ∷ rest) =
    if is_some (option_refusal name before written (option_of written.word))
    then option_refusal name before written (option_of written.word)
    else options_refusal name (before ++ written ∷ []) rest

-- the values of the options. Without a length a clip is played to its end
pub record Options : Type 0 where
  pub looped : Bool
  pub transition : TransView
  pub seek : ℕ
  pub length : Option ℕ
  pub auto : Bool

-- the curve among words: the linear one if none of them is a curve
abbrev pub curve_among : List (List ℕ) → Curve
curve_among words = unwrap_or (slice_get (filter_map curve_of words) 0) Linear

-- the transition that an option writes: without a direction it goes rightward
abbrev pub transition_of : Written → TransView
transition_of written =
    let manner = drop (number_len written.word Transition written.more) written.more in
    trans_of (unwrap_or (kind_of written.word) Cut) (written_number Transition written) (curve_among manner) (list_any is_leftward manner)

-- the values of the written options, and the defaults of the others
abbrev pub options_of : List Written → Options
options_of all = record {
  looped = is_some (given Loop all);
  transition = unwrap_or (option_map transition_of (given Transition all)) cut;
  seek = unwrap_or (option_map (written_number Seek) (given Seek all)) 0;
  length = option_map (written_number Length) (given Length all);
  auto = is_some (given Auto all);
}

-- the options, unless there is a refusal
abbrev pub unless_refused : Option Refusal → Options → Result Options Refusal
unless_refused None options = Ok options
unless_refused (Some refusal) options = Err refusal

-- the options of a line from a position on, or their first refusal
unfoldable pub options_at : Line → ℕ → Result Options Refusal
options_at line at =
    let all = options_from at (drop at line.words) in
    unless_refused (options_refusal line.name [] all) (options_of all)
