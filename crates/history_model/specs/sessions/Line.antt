-- What a connection's line means.
use Rattle.std.specs.Prelude.{ℕ, Option, Some, None, Result, Ok, Err, List, [], ◌∷◌}
use Rattle.amcp_text.specs.declared.token.TokenFault.{TokenFault}
use Rattle.amcp_text.specs.Lines.{Line, Text, TooLong, NotUtf8}
use Rattle.amcp_text.specs.Tokens.{words_of}
use Rattle.play_types.specs.Config.{ConfigView}
use Rattle.play_types.specs.Media.{MediaNameView}
use Rattle.play_types.specs.declared.reply.Reply.{Reply}
use Rattle.play_types.specs.declared.reply.Reply.TheVariants.{Unknown, Refused}
use Rattle.play_types.specs.declared.parsed.Parsed.{Parsed}
use Rattle.play_types.specs.declared.parsed.Refusal.{Refusal}
use Rattle.play_types.specs.declared.parsed.Refusal.TheVariants as refusal
use Rattle.history_model.specs.sessions.Request.{requested}

-- the meaning of a line: blank without a word, wrong with the reply that refuses it, or what its words ask for
pub data LineMeaning : Type 0 where
  Blank : LineMeaning
  Wrong : Reply → LineMeaning
  Asks : Parsed → LineMeaning

-- the reply to a line that is refused for this reason
abbrev pub refusal_reply : List ℕ → Refusal → Reply
refusal_reply line refusal.Unknown = Unknown line
refusal_reply line (refusal.Channel name) = Refused 401 name
refusal_reply line (refusal.Missing name) = Refused 402 name
refusal_reply line (refusal.Illegal name at) = Refused 403 name
refusal_reply line (refusal.NotFound name) = Refused 404 name
refusal_reply line (refusal.Unreadable name) = Refused 502 name

abbrev pub meaning_of_parsed : List ℕ → Result Parsed Refusal → LineMeaning
meaning_of_parsed line (Ok asked) = Asks asked
meaning_of_parsed line (Err reason) = Wrong (refusal_reply line reason)

-- the meaning of a line, by its words: a line with an open quote or a bad escape has none, and is unknown
abbrev pub meaning_of_words : ConfigView → List MediaNameView → List ℕ → Result (List (List ℕ)) TokenFault → LineMeaning
meaning_of_words config media line (Err fault) = Wrong (Unknown line)
meaning_of_words config media line (Ok []) = Blank
meaning_of_words config media line (Ok (word ∷ words)) = meaning_of_parsed line (requested config media (word ∷ words))

-- the meaning of a line: one that is too long, or is not UTF-8, is refused without its text
unfoldable pub line_meaning : ConfigView → List MediaNameView → Line → LineMeaning
line_meaning config media (Text line) = meaning_of_words config media line (words_of line)
line_meaning config media TooLong = Wrong (Unknown [])
line_meaning config media NotUtf8 = Wrong (Unknown [])

-- what the words ask for, if they ask for anything
abbrev pub asked_by : LineMeaning → Option Parsed
asked_by Blank = None
asked_by (Wrong reply) = None
asked_by (Asks asked) = Some asked
