-- The word of a line for which the line is refused.
use Rattle.std.specs.Prelude.{ℕ, ◌+◌, ◌-◌, nat_lt, if◌then◌else◌, Option, Some, None, Result, Ok, Err, List, [], ◌∷◌, length, option_and_then}
use Rattle.amcp_text.specs.declared.token.TokenFault.{TokenFault}
use Rattle.amcp_text.specs.Lines.{Line, Text, TooLong, NotUtf8}
use Rattle.amcp_text.specs.Tokens.{words_of}
use Rattle.play_types.specs.Config.{ConfigView}
use Rattle.play_types.specs.Media.{MediaNameView}
use Rattle.play_types.specs.declared.parsed.Parsed.{Parsed}
use Rattle.play_types.specs.declared.parsed.Refusal.{Refusal}
use Rattle.play_types.specs.declared.parsed.Refusal.TheVariants as refusal
use Rattle.history_model.specs.sessions.Request.{requested, without_token}

-- the position that a refusal names
abbrev pub named_by : Refusal → Option ℕ
named_by refusal.Unknown = None
named_by (refusal.Channel name) = None
named_by (refusal.Missing name) = None
named_by (refusal.Illegal name at) = Some at
named_by (refusal.NotFound name) = None
named_by (refusal.Unreadable name) = None

-- the position of the illegal word, if a line was refused for a word
abbrev pub wrong_in : Result Parsed Refusal → Option ℕ
wrong_in (Ok asked) = None
wrong_in (Err reason) = named_by reason

-- the position in a line of the word at position `at` of the line's command, if the command has such a word: the words before
-- the command are counted too. If REQ was refused, `at` is already the position in the line
abbrev pub place_in_line : List (List ℕ) → Result (List (List ℕ)) Refusal → ℕ → Option ℕ
place_in_line words (Ok command) at = if nat_lt at (length command) then Some (length words - length command + at) else None
place_in_line words (Err reason) at = Some at

-- the position of the word for which a line of these words is refused with 403, counted from 0 over all words of the line
abbrev pub wrong_word : ConfigView → List MediaNameView → List (List ℕ) → Option ℕ
wrong_word config media words = option_and_then (place_in_line words (without_token words)) (wrong_in (requested config media words))

-- the position of that word for the words of a line: a line with an open quote or a bad escape, or without words, has none
abbrev pub wrong_word_of : ConfigView → List MediaNameView → Result (List (List ℕ)) TokenFault → Option ℕ
wrong_word_of config media (Err fault) = None
wrong_word_of config media (Ok []) = None
wrong_word_of config media (Ok (word ∷ words)) = wrong_word config media (word ∷ words)

-- the position of that word for a line: one that is too long, or is not UTF-8, has none
abbrev pub illegal_word : ConfigView → List MediaNameView → Line → Option ℕ
illegal_word config media (Text line) = wrong_word_of config media (words_of line)
illegal_word config media TooLong = None
illegal_word config media NotUtf8 = None
