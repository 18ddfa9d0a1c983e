-- Words for the worked examples: replies of a server of two channels, with two clips.
use Rattle.std.specs.Prelude.{ℕ, Option, Some, None, List, [], ◌∷◌, ◌++◌, codes}
use Rattle.play_types.specs.Config.{ChannelView, ConfigView}
use Rattle.play_types.specs.Media.{MediaNameView, clip_name, unreadable_name}
use Rattle.play_types.specs.declared.reply.Reply.{Reply}
use Rattle.history_model.specs.text.Replies.{answer_lines, reply_bytes, reply_lines}

abbrev channel : ℕ → ℕ → ChannelView
channel width height = record { width = width; height = height; pairs = 2; output = codes "out.raw" }

-- a configuration of two channels
abbrev two : ConfigView
two = record { listen = codes "here"; media = codes "media"; rate = 25; connections = 4; journal_limit = 1000; channels = channel 1280 720 ∷ channel 1 4096 ∷ [] }

-- an unreadable clip, and one with each character that is escaped, and one beyond ASCII, in its name
abbrev media : List MediaNameView
media =
    unreadable_name (codes "BAD")
    ∷ clip_name (201 ∷ codes " \"B\\C" ++ 10 ∷ codes "D") (record { width = 320; height = 180; pairs = 4096 }) 1000000 ∷ []

-- the lines of a reply, without their ends
abbrev pub lines : Reply → List (List ℕ)
lines answer = reply_lines two media answer

-- the lines of the reply to a line with this token
abbrev pub token_lines : List ℕ → Reply → List (List ℕ)
token_lines token answer = answer_lines two media (Some token) answer

-- the bytes of a reply
abbrev pub bytes : Reply → List ℕ
bytes answer = reply_bytes two media None answer
