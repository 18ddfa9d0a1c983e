-- What the server does for each line of a connection, by looking back over the lines before it.
use Rattle.std.specs.Prelude.{ℕ, ◌+◌, ◌<◌, ◌==◌, nat_lt, Bool, true, false, if◌then◌else◌, Option, Some, None, List, [], ◌∷◌, length, map, take, filter_map}
use Rattle.std.specs.List.{list_any, after_first, after_last, enumerate_from, position_or_len}
use Rattle.amcp_text.specs.Lines.{Line, lines_of}
use Rattle.play_types.specs.Config.{ConfigView}
use Rattle.play_types.specs.Media.{MediaNameView}
use Rattle.play_types.specs.declared.command.Cmd.{Cmd}
use Rattle.play_types.specs.declared.command.TheConstants.{MAX_BATCH_COMMANDS}
use Rattle.play_types.specs.Commands.{command_name, is_query}
use Rattle.play_types.specs.declared.reply.Name.TheVariants as name
use Rattle.play_types.specs.declared.reply.Reply.{Reply}
use Rattle.play_types.specs.declared.reply.Reply.TheVariants as reply
use Rattle.play_types.specs.declared.parsed.Parsed.{Parsed}
use Rattle.play_types.specs.declared.parsed.Parsed.TheVariants.{Stage, Begin, Commit, Discard, Cls, Version, Bye, Kill}
use Rattle.history_model.specs.commands.Channels.{IsAimed, AreAimed}
use Rattle.history_model.specs.sessions.Line.{LineMeaning, Blank, Wrong, Asks, line_meaning, asked_by}

-- what is done for a line: a reply without the stage, a command or a batch that the stage is asked for, the server's end,
-- the connection's end, or nothing
pub data Step : Type 0 where
  Local : Reply → Step
  Ask : Cmd → Step
  AskBatch : List Cmd → Step
  KillServer : Step
  EndConnection : Step
  Skip : Step

-- whether this opens a batch
abbrev pub is_begin : Parsed → Bool
is_begin (Stage command) = false
is_begin Begin = true
is_begin Commit = false
is_begin Discard = false
is_begin Cls = false
is_begin Version = false
is_begin Bye = false
is_begin Kill = false

-- whether this closes a batch
abbrev pub is_closing : Parsed → Bool
is_closing (Stage command) = false
is_closing Begin = false
is_closing Commit = true
is_closing Discard = true
is_closing Cls = false
is_closing Version = false
is_closing Bye = false
is_closing Kill = false

-- what was asked for since the last COMMIT or DISCARD
abbrev pub since_closing : List Parsed → List Parsed
since_closing asked = after_last is_closing asked

-- whether a batch is open after all that was asked for: there was a BEGIN since the last COMMIT or DISCARD
abbrev pub is_open : List Parsed → Bool
is_open asked = list_any is_begin (since_closing asked)

-- the command, if it may be part of a batch
abbrev pub batched : Parsed → Option Cmd
batched (Stage command) = if is_query command then None else Some command
batched Begin = None
batched Commit = None
batched Discard = None
batched Cls = None
batched Version = None
batched Bye = None
batched Kill = None

-- the open batch after all that was asked for: the first commands since the BEGIN that opened it, as many as a batch may have
abbrev pub batch : List Parsed → List Cmd
batch asked = take MAX_BATCH_COMMANDS (filter_map batched (after_first is_begin (since_closing asked)))

-- what is done while no batch is open
abbrev pub step_outside : Parsed → Step
step_outside (Stage command) = Ask command
step_outside Begin = Local (reply.Done name.Begin)
step_outside Commit = Local (reply.Refused 403 name.Commit)
step_outside Discard = Local (reply.Refused 403 name.Discard)
step_outside Cls = Local reply.Cls
step_outside Version = Local reply.Version
step_outside Bye = EndConnection
step_outside Kill = KillServer

-- what is done for a command while this batch is open: it is added if it is no query and there is room
abbrev pub step_waiting : List Cmd → Cmd → Step
step_waiting commands command =
    if is_query command then Local (reply.Refused 403 (command_name command))
    else if nat_lt (length commands) MAX_BATCH_COMMANDS then Local (reply.Done (command_name command))
    else Local (reply.Refused 403 (command_name command))

-- what is done for COMMIT while this batch is open: the stage is asked for it, unless it is empty
abbrev pub step_commit : List Cmd → Step
step_commit [] = Local (reply.Done name.Commit)
step_commit (command ∷ commands) = AskBatch (command ∷ commands)

-- what is done while this batch is open
abbrev pub step_inside : List Cmd → Parsed → Step
step_inside commands (Stage command) = step_waiting commands command
step_inside commands Begin = Local (reply.Refused 403 name.Begin)
step_inside commands Commit = step_commit commands
step_inside commands Discard = Local (reply.Done name.Discard)
step_inside commands Cls = Local (reply.Refused 403 name.Cls)
step_inside commands Version = Local (reply.Refused 403 name.Version)
step_inside commands Bye = Local (reply.Refused 403 name.Bye)
step_inside commands Kill = Local (reply.Refused 403 name.Kill)

-- what is done for what a line asks for, after all that was asked for before
abbrev pub step_after : List Parsed → Parsed → Step
step_after before asked = if is_open before then step_inside (batch before) asked else step_outside asked

-- what is done for a line of this meaning
abbrev pub step_of_meaning : List Parsed → LineMeaning → Step
step_of_meaning before Blank = Skip
step_of_meaning before (Wrong answer) = Local answer
step_of_meaning before (Asks asked) = step_after before asked

-- whether the line of this number, from 0, was given up because memory ran out
abbrev pub is_given_up : List ℕ → ℕ → Bool
is_given_up given_up number = list_any (λ k. k == number) given_up

-- what a line with its number asks for: nothing if it was given up
abbrev pub asked_by_line : ConfigView → List MediaNameView → List ℕ → ℕ × Line → Option Parsed
asked_by_line config media given_up line =
    if is_given_up given_up line.0 then None else asked_by (line_meaning config media line.1)

-- what the lines ask for
unfoldable pub asks : ConfigView → List MediaNameView → List ℕ → List Line → List Parsed
asks config media given_up lines = filter_map (asked_by_line config media given_up) (enumerate_from 0 lines)

-- what is done for one of these lines, with its number
abbrev pub step_of_line : ConfigView → List MediaNameView → List ℕ → List Line → ℕ × Line → Step
step_of_line config media given_up lines line =
    if is_given_up given_up line.0 then Local reply.NoMemory
    else step_of_meaning (asks config media given_up (take line.0 lines)) (line_meaning config media line.1)

-- whether nothing more is done for the connection
abbrev pub is_end : Step → Bool
is_end (Local answer) = false
is_end (Ask command) = false
is_end (AskBatch commands) = false
is_end KillServer = true
is_end EndConnection = true
is_end Skip = false

-- the steps up to and with the first end
abbrev pub until_end : List Step → List Step
until_end all = take (position_or_len is_end all + 1) all

-- a step for each line, as if no line ended the connection
unfoldable pub line_steps : ConfigView → List MediaNameView → List ℕ → List Line → List Step
line_steps config media given_up lines = map (step_of_line config media given_up lines) (enumerate_from 0 lines)

-- the steps of a whole stream, of which the lines of these numbers were given up because memory ran out
unfoldable pub steps : ConfigView → List MediaNameView → List ℕ → List ℕ → List Step
steps config media given_up stream = until_end (line_steps config media given_up (lines_of stream))

-- every channel that the command of a step, or a command of its batch, names is a configured one
abbrev pub IsAimedStep : ConfigView → Step → Type 0
IsAimedStep config (Local answer) = Unit {0}
IsAimedStep config (Ask command) = IsAimed config command
IsAimedStep config (AskBatch commands) = AreAimed config commands
IsAimedStep config KillServer = Unit {0}
IsAimedStep config EndConnection = Unit {0}
IsAimedStep config Skip = Unit {0}

-- a step that is no empty batch
abbrev pub IsFilledStep : Step → Type 0
IsFilledStep (Local answer) = Unit {0}
IsFilledStep (Ask command) = Unit {0}
IsFilledStep (AskBatch commands) = 0 < length commands
IsFilledStep KillServer = Unit {0}
IsFilledStep EndConnection = Unit {0}
IsFilledStep Skip = Unit {0}
