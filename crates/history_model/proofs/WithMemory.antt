-- A run whose lines are played with memory has no reply that says that memory ran out.
use Rattle.std.proofs.Common.{◌≡◌, ℕ, Bool, true, false, List, [], ◌∷◌, ◌++◌, map, take, length, refl, sym, ap, ◌∙◌, subst, arith, if◌then◌else◌}
use Rattle.std.specs.Prelude.{Option, Some, None, Result, Ok, Err, IfSome, All, get_or, slice_get}
use Rattle.std.specs.List.{enumerate_from}
use Rattle.std.proofs.lemmas.Bool.{false≢true}
use Rattle.std.proofs.lemmas.List.Elements.{All-map, All-take}
use Rattle.amcp_text.specs.Lines.{Line, Text, TooLong, NotUtf8, lines_of}
use Rattle.amcp_text.specs.Tokens.{words_of}
use Rattle.amcp_text.specs.declared.token.TokenFault.{TokenFault}
use Rattle.play_types.specs.Commands.{answer_reply, command_name}
use Rattle.play_types.specs.Config.{ConfigView}
use Rattle.play_types.specs.Media.{MediaNameView}
use Rattle.play_types.specs.declared.answer.Answer.{Answer}
use Rattle.play_types.specs.declared.answer.Answer.TheVariants as answer
use Rattle.play_types.specs.declared.command.Cmd.{Cmd}
use Rattle.play_types.specs.declared.parsed.Parsed.{Parsed}
use Rattle.play_types.specs.declared.parsed.Refusal.{Refusal}
use Rattle.play_types.specs.declared.parsed.Refusal.TheVariants as refusal
use Rattle.play_types.specs.declared.event.Event.TheVariants as event
use Rattle.play_types.specs.declared.event.Tag.{Tag}
use Rattle.play_types.specs.declared.reply.Name.{Name}
use Rattle.play_types.specs.declared.reply.Name.TheVariants as name
use Rattle.history_model.specs.sessions.Request.{requested}
use Rattle.history_model.specs.sessions.Line.{LineMeaning, Blank, Wrong, Asks, line_meaning, meaning_of_parsed, meaning_of_words, refusal_reply}
use Rattle.history_model.specs.sessions.Session.{Step, Local, Ask, AskBatch, KillServer, EndConnection, Skip, asks, batch, is_open, line_steps, step_commit, step_of_line, step_of_meaning, steps}
use Rattle.history_model.specs.stage.Acts.{is_refused}
use Rattle.history_model.specs.stage.Answer.{command_answer, outcome_of}
use Rattle.history_model.specs.scripts.Line.{ScriptLine, Comment, Ticks, Said, Stop, Rejected}
use Rattle.history_model.specs.scripts.History.{Playout, PlayedLine, Turn, JournalFull, OutOfMemory, Taken, ends_at, given_up_of, is_full, said_step, script_events, setup_of, stream_of, texts_of, turn_of}
use Rattle.history_model.specs.scripts.Output.{step_reply, verdict_reply}
use Rattle.history_model.specs.scripts.Memory.{HasMemory, HasMemoryAfter, HadMemoryIfAny, HadMemory, UnlessEnded, reply_at, with_memory}
use Rattle.history_model.proofs.EachAsk.{asked-holds}
use Rattle.history_model.proofs.EachStep.{one_of_all}
use Rattle.history_model.proofs.Unmarked.{given_up-unmarked, unmarked, unmarked-append}

-- a step's reply without the stage does not say that memory ran out
abbrev RepliesOfMemory : Step → Type 0
RepliesOfMemory (Local answer) = HadMemory answer
RepliesOfMemory (Ask command) = Unit {0}
RepliesOfMemory (AskBatch commands) = Unit {0}
RepliesOfMemory KillServer = Unit {0}
RepliesOfMemory EndConnection = Unit {0}
RepliesOfMemory Skip = Unit {0}

refusal_of_memory : (line : List ℕ) (reason : Refusal) → HadMemory (refusal_reply line reason)
refusal_of_memory line refusal.Unknown = refl
refusal_of_memory line (refusal.Channel name) = refl
refusal_of_memory line (refusal.Missing name) = refl
refusal_of_memory line (refusal.Illegal name at) = refl
refusal_of_memory line (refusal.NotFound name) = refl
refusal_of_memory line (refusal.Unreadable name) = refl

commit_of_memory : (commands : List Cmd) → RepliesOfMemory (step_commit commands)
commit_of_memory [] = refl
commit_of_memory (command ∷ commands) = tt

-- a line that is refused has a reply that does not say that memory ran out
abbrev RefusesOfMemory : LineMeaning → Type 0
RefusesOfMemory Blank = Unit {0}
RefusesOfMemory (Wrong answer) = HadMemory answer
RefusesOfMemory (Asks asked) = Unit {0}

parsed_of_memory : (line : List ℕ) (found : Result Parsed Refusal) → RefusesOfMemory (meaning_of_parsed line found)
parsed_of_memory line (Ok asked) = tt
parsed_of_memory line (Err reason) = refusal_of_memory line reason

words_of_memory : (config : ConfigView) (media : List MediaNameView) (line : List ℕ) (found : Result (List (List ℕ)) TokenFault) →
    RefusesOfMemory (meaning_of_words config media line found)
words_of_memory config media line (Err fault) = refl
words_of_memory config media line (Ok []) = tt
words_of_memory config media line (Ok (word ∷ words)) = parsed_of_memory line (requested config media (word ∷ words))

meaning_of_memory : (config : ConfigView) (media : List MediaNameView) (line : Line) → RefusesOfMemory (line_meaning config media line)
unfolding line_meaning
meaning_of_memory config media (Text line) = words_of_memory config media line (words_of line)
meaning_of_memory config media TooLong = refl
meaning_of_memory config media NotUtf8 = refl

step_of_memory : (before : List Parsed) (meaning : LineMeaning) → RefusesOfMemory meaning → RepliesOfMemory (step_of_meaning before meaning)
step_of_memory before Blank refuses = tt
step_of_memory before (Wrong answer) refuses = refuses
step_of_memory before (Asks asked) refuses =
    asked-holds RepliesOfMemory
    (record {
      done = λ command. refl;
      refused = λ command. refl;
      cls = refl;
      version = refl;
      kill = tt;
      ended = tt;
    })
    (is_open before) (batch before) asked (commit_of_memory (batch before)) (λ command same. tt)

-- no step of a stream of which no line was given up has a reply that says so
line_of_memory : (config : ConfigView) (media : List MediaNameView) (lines : List Line) (line : ℕ × Line) →
    RepliesOfMemory (step_of_line config media [] lines line)
line_of_memory config media lines line =
    step_of_memory (asks config media [] (take line.0 lines)) (line_meaning config media line.1) (meaning_of_memory config media line.1)

steps_of_memory : (config : ConfigView) (media : List MediaNameView) (stream : List ℕ) → All RepliesOfMemory (steps config media [] stream)
unfolding steps line_steps
steps_of_memory config media stream =
    let lines : List Line = lines_of stream in
    All-take RepliesOfMemory _ (line_steps config media [] lines)
    (All-map RepliesOfMemory (step_of_line config media [] lines) (enumerate_from 0 lines)
    (λ k line inside. line_of_memory config media lines (get_or (enumerate_from 0 lines) k line)))

said_of_memory : (playout : Playout) (before : List PlayedLine) (line : PlayedLine) (tag : Tag) →
    IfSome (said_step playout (map unmarked before) (unmarked line) tag) RepliesOfMemory
unfolding said_step
said_of_memory playout before line tag =
    let all : List PlayedLine = map unmarked before ++ unmarked line ∷ [] in
    let none : given_up_of tag all ≡ [] =
    ap (given_up_of tag) (unmarked-append before line) ∙ given_up-unmarked tag (before ++ line ∷ []) in
    subst
    (λ (given_up : List ℕ). IfSome (slice_get (steps playout.config playout.names given_up (stream_of tag all)) (length (texts_of tag (map unmarked before)))) RepliesOfMemory)
    (sym none)
    (one_of_all RepliesOfMemory (steps playout.config playout.names [] (stream_of tag all)) (length (texts_of tag (map unmarked before)))
    (steps_of_memory playout.config playout.names (stream_of tag all)))

-- no reply of a stage that has memory says so
answer_of_memory : (asked : Name) (found : Answer) → HadMemory (answer_reply asked found)
answer_of_memory asked answer.Done = refl
answer_of_memory asked (answer.Value micros) = refl
answer_of_memory asked (answer.Info statuses) = refl
answer_of_memory asked answer.Refused = refl

verdict_of_memory : (asked : Name) (found : Answer) (full no_memory : Bool) → no_memory ≡ false →
    HadMemory (verdict_reply asked found (if full then JournalFull else if no_memory then OutOfMemory else Taken))
verdict_of_memory asked found true no_memory has = refl
verdict_of_memory asked found false true has = absurd (false≢true (sym has))
verdict_of_memory asked found false false has = answer_of_memory asked found

reply_of_memory : (turn : Turn) (found : Option Step) → turn.no_memory ≡ false → IfSome found RepliesOfMemory → HadMemoryIfAny (step_reply turn found)
reply_of_memory turn None has of = tt
reply_of_memory turn (Some (Local answer)) has of = of
reply_of_memory turn (Some (Ask command)) has of =
    verdict_of_memory (command_name command)
    (command_answer (setup_of turn.playout) turn.events (is_refused turn.events (event.Do turn.tag command)) command)
    (is_full turn.playout turn.events 1) turn.no_memory has
reply_of_memory turn (Some (AskBatch commands)) has of =
    verdict_of_memory name.Commit (outcome_of (is_refused turn.events (event.Batch turn.tag commands)))
    (is_full turn.playout turn.events (length commands)) turn.no_memory has
reply_of_memory turn (Some KillServer) has of = refl
reply_of_memory turn (Some EndConnection) has of = tt
reply_of_memory turn (Some Skip) has of = tt

line_replied : (playout : Playout) (before : List PlayedLine) (line : ScriptLine) →
    HadMemoryIfAny (reply_at playout (map unmarked before) (with_memory line) line)
line_replied playout before Comment = tt
line_replied playout before (Ticks count) = tt
line_replied playout before (Said tag text) =
    let line : PlayedLine = with_memory (Said tag text) in
    let plain : List PlayedLine = map unmarked before in
    reply_of_memory (turn_of playout (script_events playout plain) line tag) (said_step playout plain line tag) refl
    (said_of_memory playout before line tag)
line_replied playout before Stop = tt
line_replied playout before Rejected = tt

unless_ended : (ends : Bool) (Later : Type 0) → Later → UnlessEnded ends Later
unless_ended true Later later = tt
unless_ended false Later later = later

lines_replied : (playout : Playout) (before : List PlayedLine) (lines : List ScriptLine) →
    HasMemoryAfter playout (map unmarked before) (map with_memory lines)
lines_replied playout before [] = tt
lines_replied playout before (line ∷ lines) =
    let plain : List PlayedLine = map unmarked before in (
      line_replied playout before line,
      unless_ended (ends_at playout plain (with_memory line) line) (HasMemoryAfter playout (plain ++ with_memory line ∷ []) (map with_memory lines))
          (subst (λ (all : List PlayedLine). HasMemoryAfter playout all (map with_memory lines)) (sym (unmarked-append before (with_memory line)))
          (lines_replied playout (before ++ with_memory line ∷ []) lines)),
    )

pub HasMemory-with_memory : (playout : Playout) (lines : List ScriptLine) → HasMemory playout (map with_memory lines)
HasMemory-with_memory playout lines = lines_replied playout [] lines
