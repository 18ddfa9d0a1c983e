-- Replies as lines, and as the bytes that are sent.
use Rattle.std.specs.Prelude.{◌≡◌, length, ◌⊎◌, ℕ, ◌≤◌, nat_lt, if◌then◌else◌, Option, Some, None, List, [], ◌∷◌, ◌++◌, map, take, flat_map, codes, decimal, encode_utf8_all}
use Rattle.std.specs.List.{join_by, zip, enumerate_from}
use Rattle.play_types.specs.Answer.{MicrosView}
use Rattle.play_types.specs.Words.{name_text, status_text}
use Rattle.play_types.specs.Config.{ChannelView, ConfigView}
use Rattle.play_types.specs.Media.{MediaNameView}
use Rattle.play_types.specs.declared.answer.Status.{Status}
use Rattle.play_types.specs.declared.reply.Name.{Name}
use Rattle.play_types.specs.declared.reply.Reply.{Reply}
use Rattle.play_types.specs.declared.reply.Reply.TheVariants as reply
use Rattle.amcp_text.specs.Escapes.{quoted}
use Rattle.amcp_text.specs.Micros.{printed_micro}

-- a code, the name of a command, and a word for the outcome
unfoldable pub code_line : ℕ → Name → List ℕ → List ℕ
code_line code command word = decimal code ++ 32 ∷ name_text command ++ 32 ∷ word

-- the word of a refusal: below 500 the client is at fault, from 500 on the server
abbrev pub refusal_word : ℕ → List ℕ
refusal_word code = if nat_lt code 500 then codes "ERROR" else codes "FAILED"

-- the codes of the refusals that name a command
abbrev pub IsRefusalCode : ℕ → Type 0
IsRefusalCode code = ((401 ≤ code) × (code ≤ 404)) ⊎ ((501 ≤ code) × (code ≤ 503))

-- mixer values in printed form, separated by one space
unfoldable pub values_line : MicrosView → List ℕ
values_line micros = join_by printed_micro (codes " ") (take micros.count micros.values)

-- width and height in pixels
unfoldable pub size_text : ℕ → ℕ → List ℕ
size_text width height = decimal width ++ codes "x" ++ decimal height

-- the line of a channel: its number, its size and its status
unfoldable pub channel_line : ℕ → ChannelView → Status → List ℕ
channel_line number channel state =
    decimal number ++ codes " " ++ size_text channel.width channel.height ++ codes " " ++ status_text state

-- a line for each channel with its status, numbered from 1
abbrev pub channel_lines : List ChannelView → List Status → List (List ℕ)
channel_lines channels states = map (λ at. channel_line at.0 at.1.0 at.1.1) (enumerate_from 1 (zip channels states))

-- the size, the frames and the stereo pairs of a clip
unfoldable pub numbers_text : MediaNameView → List ℕ
numbers_text clip = size_text clip.width clip.height ++ codes " " ++ decimal clip.frames ++ codes " " ++ decimal clip.pairs

-- the rest of the line of a clip, after its name
abbrev pub clip_text : MediaNameView → List ℕ
clip_text clip = if clip.readable then numbers_text clip else codes "UNREADABLE"

-- the line of a name of the media table
unfoldable pub media_line : MediaNameView → List ℕ
media_line clip = encode_utf8_all (quoted clip.name) ++ codes " " ++ clip_text clip

-- the lines of a reply, without their ends
abbrev pub reply_lines : ConfigView → List MediaNameView → Reply → List (List ℕ)
reply_lines config media (reply.Done command) = code_line 202 command (codes "OK") ∷ []
reply_lines config media (reply.Value micros) = codes "201 MIXER OK" ∷ values_line micros ∷ []
reply_lines config media (reply.Info statuses) =
    codes "200 INFO OK" ∷ channel_lines config.channels (take statuses.count statuses.channels) ++ [] ∷ []
reply_lines config media reply.Cls = codes "200 CLS OK" ∷ map media_line media ++ [] ∷ []
reply_lines config media reply.Version = codes "201 VERSION OK" ∷ codes "2.0 PLAYD" ∷ []
reply_lines config media (reply.Unknown line) = codes "400 ERROR" ∷ encode_utf8_all line ∷ []
reply_lines config media (reply.Refused code command) = code_line code command (refusal_word code) ∷ []
reply_lines config media reply.NoMemory = codes "500 FAILED" ∷ []

-- the prefix of the first line of a reply: RES and the token, if there is one
abbrev pub token_text : Option (List ℕ) → List ℕ
token_text None = []
token_text (Some token) = codes "RES " ++ token ++ 32 ∷ []

-- these lines, with the token, if there is one, before the first
abbrev pub with_token : Option (List ℕ) → List (List ℕ) → List (List ℕ)
with_token token [] = []
with_token token (line ∷ lines) = (token_text token ++ line) ∷ lines

-- the token that a reply has, by the token of the line that it replies to: a 500 has none
abbrev pub reply_token : Option (List ℕ) → Reply → Option (List ℕ)
reply_token token (reply.Done command) = token
reply_token token (reply.Value micros) = token
reply_token token (reply.Info statuses) = token
reply_token token reply.Cls = token
reply_token token reply.Version = token
reply_token token (reply.Unknown line) = token
reply_token token (reply.Refused code command) = token
reply_token token reply.NoMemory = None

-- the lines of the reply to a line with this token, or without one
abbrev pub answer_lines : ConfigView → List MediaNameView → Option (List ℕ) → Reply → List (List ℕ)
answer_lines config media token answer = with_token (reply_token token answer) (reply_lines config media answer)

-- a line with these bytes before it and after it
abbrev pub wrapped : List ℕ → List ℕ → List ℕ → List ℕ
wrapped before after line = before ++ line ++ after

-- a line with its end, CR LF
unfoldable pub ended : List ℕ → List ℕ
ended line = line ++ 13 ∷ 10 ∷ []

-- the bytes of the reply to a line with this token, or without one
unfoldable pub reply_bytes : ConfigView → List MediaNameView → Option (List ℕ) → Reply → List ℕ
reply_bytes config media token answer = flat_map ended (answer_lines config media token answer)

-- a reply that a server of this configuration gives: an Info has a status for each channel, and a Refused one of its codes
abbrev pub IsReplyTo : ConfigView → Reply → Type 0
IsReplyTo config (reply.Done command) = Unit {0}
IsReplyTo config (reply.Value micros) = Unit {0}
IsReplyTo config (reply.Info statuses) = statuses.count ≡ length config.channels
IsReplyTo config reply.Cls = Unit {0}
IsReplyTo config reply.Version = Unit {0}
IsReplyTo config (reply.Unknown line) = Unit {0}
IsReplyTo config (reply.Refused code command) = IsRefusalCode code
IsReplyTo config reply.NoMemory = Unit {0}
