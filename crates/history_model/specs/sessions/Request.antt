-- REQ and a token before a command.
use Rattle.std.specs.Prelude.{ℕ, Bool, if◌then◌else◌, Option, None, Result, Ok, Err, List, [], ◌∷◌, drop, map, ok_or, slice_get}
use Rattle.amcp_text.specs.declared.token.TokenFault.{TokenFault}
use Rattle.amcp_text.specs.Lines.{Line, Text, TooLong, NotUtf8, line_of_text, lines_of}
use Rattle.amcp_text.specs.ReqTokens.{token_of}
use Rattle.amcp_text.specs.Tokens.{words_of}
use Rattle.play_types.specs.Config.{ConfigView}
use Rattle.play_types.specs.Media.{MediaNameView}
use Rattle.play_types.specs.Words.{is_word, name_text}
use Rattle.play_types.specs.declared.reply.Name.TheVariants.{Req}
use Rattle.play_types.specs.declared.parsed.Parsed.{Parsed}
use Rattle.play_types.specs.declared.parsed.Refusal.{Refusal}
use Rattle.play_types.specs.declared.parsed.Refusal.TheVariants.{Missing, Illegal}
use Rattle.history_model.specs.commands.Command.{parsed}
use Rattle.history_model.specs.commands.Line.{◌>>=◌}

-- the word REQ, in any case of its letters
abbrev pub is_req : List ℕ → Bool
is_req word = is_word (name_text Req) word

-- the words of a command, by all words after REQ, or the refusal: there is no word, the first is no token, or no word follows it
abbrev pub behind_token : List (List ℕ) → Result (List (List ℕ)) Refusal
behind_token words = do
  word ← ok_or (slice_get words 0) (Missing Req)
  token ← ok_or (token_of word) (Illegal Req 1)
  command ← ok_or (slice_get words 1) (Missing Req)
  Ok (drop 1 words)

-- the words of a line's command: all words, or those after REQ and a token
abbrev pub without_token : List (List ℕ) → Result (List (List ℕ)) Refusal
without_token [] = Ok []
without_token (word ∷ words) = if is_req word then behind_token words else Ok (word ∷ words)

-- what the words of a line ask for, or the first refusal: that of REQ and its token comes before that of the command, in which
-- REQ is no name
abbrev pub requested : ConfigView → List MediaNameView → List (List ℕ) → Result Parsed Refusal
requested config media words = do
  command ← without_token words
  parsed config media command

-- the first of these words as a token, if it is one
abbrev pub first_token : List (List ℕ) → Option (List ℕ)
first_token [] = None
first_token (word ∷ words) = token_of word

-- the token of a line's words: the second word, if the first is REQ and the second is a token
abbrev pub token_among : List (List ℕ) → Option (List ℕ)
token_among [] = None
token_among (word ∷ words) = if is_req word then first_token words else None

-- the token of a line, by its words; a line with an open quote or a bad escape has none
abbrev pub token_of_words : Result (List (List ℕ)) TokenFault → Option (List ℕ)
token_of_words (Err fault) = None
token_of_words (Ok words) = token_among words

-- the token of a line, if it has one: one that is too long, or is not UTF-8, has none
unfoldable pub line_token : Line → Option (List ℕ)
line_token (Text line) = token_of_words (words_of line)
line_token TooLong = None
line_token NotUtf8 = None

-- the token of each line of a stream
unfoldable pub tokens : List ℕ → List (Option (List ℕ))
tokens stream = map line_token (lines_of stream)

-- the token of the line with this text
abbrev pub text_token : List ℕ → Option (List ℕ)
text_token text = line_token (line_of_text text)
