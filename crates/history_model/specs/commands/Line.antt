-- A client's line whose command is known, and the words at its positions. Position 0 is the command's name.
use Rattle.std.specs.Prelude.{ℕ, ◌+◌, nat_lt, Bool, true, false, if◌then◌else◌, Option, Result, Ok, Err, List, length, slice_get, ok_or, option_and_then}
use Rattle.std.specs.Option.{option_map_or}
use Rattle.amcp_text.specs.Numbers.{number_within}
use Rattle.play_types.specs.Config.{ConfigView}
use Rattle.play_types.specs.Media.{MediaNameView}
use Rattle.play_types.specs.Words.{curve_of, is_word}
use Rattle.play_types.specs.declared.transition.Curve.{Curve}
use Rattle.play_types.specs.declared.reply.Name.{Name}
use Rattle.play_types.specs.declared.parsed.Refusal.{Refusal}
use Rattle.play_types.specs.declared.parsed.Refusal.TheVariants.{Missing, Illegal}

-- the command, all words of the line, and the channels and the clips that its words can name
pub record Line : Type 0 where
  pub name : Name
  pub words : List (List ℕ)
  pub config : ConfigView
  pub media : List MediaNameView

-- what follows from the value of a step, or the refusal of that step
infixl 10 ◌>>=◌
abbrev pub ◌>>=◌ : {A B : Type 0} → Result A Refusal → (A → Result B Refusal) → Result B Refusal
(Ok value) >>= next = next value
(Err refusal) >>= next = Err refusal

-- the value of the word at a position, refused as Illegal if it has none
abbrev pub legal : {A : Type 0} → Line → ℕ → Option A → Result A Refusal
legal line at value = ok_or value (Illegal line.name at)

-- the word at a position, refused as Missing if the line ends before it
abbrev pub word_at : Line → ℕ → Result (List ℕ) Refusal
word_at line at = ok_or (slice_get line.words at) (Missing line.name)

-- the whole number at a position, from `least` to `most`
abbrev pub number_at : Line → ℕ → ℕ → ℕ → Result ℕ Refusal
number_at line at least most = do
  word ← word_at line at
  legal line at (number_within least most word)

-- the value, if the line ends before a position: a word there is refused as Illegal
abbrev pub ended : {A : Type 0} → Line → ℕ → A → Result A Refusal
ended line at value = if nat_lt at (length line.words) then Err (Illegal line.name at) else Ok value

-- whether the word at a position is this fixed word
abbrev pub stands_at : Line → ℕ → List ℕ → Bool
stands_at line at fixed = option_map_or (is_word fixed) (slice_get line.words at) false

-- the curve that the word at a position names, if it names one
abbrev pub curve_at : Line → ℕ → Option Curve
curve_at line at = option_and_then curve_of (slice_get line.words at)

-- whether the word at a position is this fixed word: another word there, or a word after it, is refused as Illegal
abbrev pub flag_at : Line → ℕ → List ℕ → Result Bool Refusal
flag_at line at fixed =
    if stands_at line at fixed then ended line (at + 1) true else ended line at false
