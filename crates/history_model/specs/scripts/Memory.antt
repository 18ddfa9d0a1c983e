-- Runs in which memory did not run out, and lines whose texts have no line end.
use Rattle.std.specs.Prelude.{◌≡◌, ℕ, Bool, true, false, Option, Some, None, List, [], ◌∷◌, ◌++◌, map}
use Rattle.std.specs.List.{list_any}
use Rattle.amcp_text.specs.Lines.{is_line_end}
use Rattle.play_types.specs.declared.reply.Reply.{Reply}
use Rattle.play_types.specs.Replies.{is_out_of_memory}
use Rattle.history_model.specs.scripts.Line.{ScriptLine, Comment, Ticks, Said, Stop, Rejected, meaning}
use Rattle.history_model.specs.scripts.Input.{received}
use Rattle.history_model.specs.scripts.History.{Playout, PlayedLine, ends_at, said_step, script_events, turn_of}
use Rattle.history_model.specs.scripts.Output.{step_reply}

-- a reply that does not say that memory ran out: neither a 500, of a session, nor a 501, of the stage
abbrev pub HadMemory : Reply → Type 0
HadMemory answer = is_out_of_memory answer ≡ false

-- no reply, or one that does not say that memory ran out
abbrev pub HadMemoryIfAny : Option Reply → Type 0
HadMemoryIfAny None = Unit {0}
HadMemoryIfAny (Some answer) = HadMemory answer

-- the reply to a line after those before it, if there is one
abbrev pub reply_at : Playout → List PlayedLine → PlayedLine → ScriptLine → Option Reply
reply_at playout before line Comment = None
reply_at playout before line (Ticks count) = None
reply_at playout before line (Said tag text) =
    step_reply (turn_of playout (script_events playout before) line tag) (said_step playout before line tag)
reply_at playout before line Stop = None
reply_at playout before line Rejected = None

-- a claim about the lines after one, which is required only if the run goes on
abbrev pub UnlessEnded : Bool → Type 0 → Type 0
UnlessEnded true Later = Unit {0}
UnlessEnded false Later = Later

-- no reply to lines that follow others says that memory ran out, up to the line at which the run ends
abbrev pub HasMemoryAfter : Playout → List PlayedLine → List PlayedLine → Type 0
HasMemoryAfter playout before [] = Unit {0}
HasMemoryAfter playout before (line ∷ lines) =
    HadMemoryIfAny (reply_at playout before line line.line)
    × UnlessEnded (ends_at playout before line line.line) (HasMemoryAfter playout (before ++ line ∷ []) lines)

-- no reply of a run says that memory ran out
abbrev pub HasMemory : Playout → List PlayedLine → Type 0
HasMemory playout lines = HasMemoryAfter playout [] lines

-- the lines of a run, without whether there was memory for them
abbrev pub lines_played : List PlayedLine → List ScriptLine
lines_played played = map (λ (one : PlayedLine). one.line) played

-- a line that is played with memory for what it asks
abbrev pub with_memory : ScriptLine → PlayedLine
with_memory said = record { line = said; given_up = false; no_memory = false }

-- the text of a connection's line has no line end
abbrev pub IsOneLine : ScriptLine → Type 0
IsOneLine Comment = Unit {0}
IsOneLine (Ticks count) = Unit {0}
IsOneLine (Said tag text) = list_any is_line_end text ≡ false
IsOneLine Stop = Unit {0}
IsOneLine Rejected = Unit {0}

-- no text of these lines has a line end
abbrev pub AreLines : List ScriptLine → Type 0
AreLines [] = Unit {0}
AreLines (line ∷ lines) = IsOneLine line × AreLines lines

-- the meanings of the lines that are received once these bytes were read, and the end of the input too or not
abbrev pub input_lines : List ℕ → Bool → List ScriptLine
input_lines bytes ended = map meaning (received bytes ended)
