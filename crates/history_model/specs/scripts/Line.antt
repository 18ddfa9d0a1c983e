-- Scripts: lines of connections and of ticks, in the order in which they happen.
use Rattle.std.specs.Prelude.{ℕ, ◌==◌, nat_lt, if◌then◌else◌, Option, Some, None, option_map, option_and_then, List, [], ◌∷◌, length}
use Rattle.play_types.specs.declared.event.Tag.{Tag}
use Rattle.history_model.specs.declared.limits.TheConstants.{MAX_SCRIPT_LINE_BYTES, MAX_SESSION, MAX_TICKS_PER_LINE, MAX_WORKER}
use Rattle.history_model.specs.text.Parts.{parts_at}
use Rattle.amcp_text.specs.Numbers.{number_within, plain_number_within}

-- the meaning of a line of a script
pub data ScriptLine : Type 0 where
  -- an empty line, or a comment
  Comment : ScriptLine
  -- ticks of all channels, one after another
  Ticks : ℕ → ScriptLine
  -- a connection's line
  Said : Tag → List ℕ → ScriptLine
  -- the server's own stop, with which the run ends
  Stop : ScriptLine
  -- a line that a script may not have
  Rejected : ScriptLine

-- `w.s text`: the digits of the worker, of the session, and the text
abbrev pub addressed_parts : List ℕ → Option (List ℕ × (List ℕ × List ℕ))
addressed_parts line =
    option_and_then (λ (p : List ℕ × List ℕ). option_map (λ (q : List ℕ × List ℕ). (p.0, q)) (parts_at 32 p.1)) (parts_at 46 line)

-- the tag that these digits name: worker 1 to 65,535, session 1 to 4,294,967,295, without leading zeros
abbrev pub tag_of : List ℕ → List ℕ → Option Tag
tag_of worker session =
    option_and_then
    (λ (w : ℕ). option_map (λ (s : ℕ). record { worker = w; session = s }) (plain_number_within 1 MAX_SESSION session))
    (plain_number_within 1 MAX_WORKER worker)

-- a connection's line, rejected if it has no tag
abbrev pub said_by : List ℕ → Option Tag → ScriptLine
said_by text None = Rejected
said_by text (Some tag) = Said tag text

abbrev pub said_line : Option (List ℕ × (List ℕ × List ℕ)) → ScriptLine
said_line None = Rejected
said_line (Some parts) = said_by parts.1.1 (tag_of parts.0 parts.1.0)

-- ticks, rejected if there is no number
abbrev pub ticks_line : Option ℕ → ScriptLine
ticks_line None = Rejected
ticks_line (Some count) = Ticks count

abbrev pub after_t : List ℕ → ScriptLine
after_t [] = Ticks 1
after_t (c ∷ digits) = if c == 32 then ticks_line (number_within 1 MAX_TICKS_PER_LINE digits) else Rejected

abbrev pub after_x : List ℕ → ScriptLine
after_x [] = Stop
after_x (c ∷ more) = Rejected

-- the meaning of a line that is not too long: a comment if it is empty or begins with `#`, ticks if it begins with `T`, a stop
-- if it is `X`, else a connection's line
abbrev pub short_meaning : List ℕ → ScriptLine
short_meaning [] = Comment
short_meaning (c ∷ more) =
    if c == 35 then Comment
    else if c == 84 then after_t more
    else if c == 88 then after_x more
    else said_line (addressed_parts (c ∷ more))

-- the meaning of a line: one that is too long is rejected
abbrev pub meaning : List ℕ → ScriptLine
meaning line = if nat_lt MAX_SCRIPT_LINE_BYTES (length line) then Rejected else short_meaning line

-- the lines up to the first stop, and that stop
abbrev pub until_stop : List ScriptLine → List ScriptLine
until_stop [] = []
until_stop (Comment ∷ more) = Comment ∷ until_stop more
until_stop (Ticks count ∷ more) = Ticks count ∷ until_stop more
until_stop (Said tag text ∷ more) = Said tag text ∷ until_stop more
until_stop (Stop ∷ more) = Stop ∷ []
until_stop (Rejected ∷ more) = Rejected ∷ until_stop more
