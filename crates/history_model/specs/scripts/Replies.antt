-- The replies to the lines of a script.
use Rattle.std.specs.Prelude.{ℕ, nat_le, if◌then◌else◌, Bool, Option, Some, None, List, [], ◌∷◌, ◌++◌}
use Rattle.play_types.specs.declared.reply.Reply.{Reply}
use Rattle.play_types.specs.Replies.{reply_code}
use Rattle.history_model.specs.scripts.History.{Playout, PlayedLine, ends_at}
use Rattle.history_model.specs.scripts.Memory.{reply_at}

-- whether a reply refuses something: its code is 400 or more
abbrev pub is_refusal : Reply → Bool
is_refusal answer = nat_le 400 (reply_code answer)

abbrev pub reply_list : Option Reply → List Reply
reply_list None = []
reply_list (Some answer) = answer ∷ []

-- the replies to lines that follow others, up to the line at which the run ends
unfoldable pub replies_after : Playout → List PlayedLine → List PlayedLine → List Reply
replies_after playout before [] = []
replies_after playout before (line ∷ lines) =
    reply_list (reply_at playout before line line.line)
    ++ (if ends_at playout before line line.line then [] else replies_after playout (before ++ line ∷ []) lines)

-- the replies to the lines of a script
unfoldable pub script_replies : Playout → List PlayedLine → List Reply
script_replies playout lines = replies_after playout [] lines
