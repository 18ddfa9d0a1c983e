-- What connections ask for can be asked for again: the history of a script can be played again from its text.
use Rattle.std.proofs.Common.{◌≡◌, ℕ, ◌≤◌, Bool, true, false, inl, inr, List, [], ◌∷◌, ◌++◌, length, refl, arith, if◌then◌else◌}
use Rattle.std.specs.Prelude.{Option, Some, None, Ok, IfSome, All, filter_map}
use Rattle.std.specs.List.{after_first}
use Rattle.std.proofs.lemmas.List.{length-take}
use Rattle.std.proofs.lemmas.List.Elements.{All-append, All-cons, All-head, All-nil, All-replicate, All-tail}
use Rattle.play_types.specs.declared.command.Cmd.{Cmd}
use Rattle.play_types.specs.declared.command.TheConstants.{MAX_BATCH_COMMANDS}
use Rattle.play_types.specs.declared.event.Event.{Event}
use Rattle.play_types.specs.declared.event.Event.TheVariants as event
use Rattle.play_types.specs.declared.event.Tag.{Tag}
use Rattle.play_types.specs.declared.parsed.Parsed.{Parsed}
use Rattle.play_types.specs.declared.parsed.Parsed.TheVariants.{Stage, Begin, Commit, Discard, Cls, Version, Bye, Kill}
use Rattle.history_model.specs.commands.Command.{parsed}
use Rattle.history_model.specs.sessions.Session.{Step, Local, Ask, AskBatch, KillServer, EndConnection, Skip, batch, batched, is_begin, since_closing, step_commit, steps}
use Rattle.history_model.specs.scripts.Line.{ScriptLine, Comment, Ticks, Said, Rejected}
use Rattle.history_model.specs.scripts.Line as line
use Rattle.history_model.specs.scripts.History.{Past, PlayedLine, Playout, Turn, Verdict, JournalFull, OutOfMemory, Taken, ends_at, events_after, events_at, said_step, script_events, server, step_events, turn_of, verdict, verdict_events}
use Rattle.history_model.specs.scripts.Memory.{lines_played}
use Rattle.history_model.proofs.EachStep.{HoldsOfLines, batch-each, said-each, steps-each}
use Rattle.history_replay.specs.Replay.{IsAskedFor, IsBatchedCommand, IsConnection, IsWritten, IsWrittenStep, NamesConnection}

-- what words ask for
abbrev IsAskedParsed : Playout → Parsed → Type 0
IsAskedParsed playout (Stage command) = IsAskedFor playout command
IsAskedParsed playout Begin = Unit {0}
IsAskedParsed playout Commit = Unit {0}
IsAskedParsed playout Discard = Unit {0}
IsAskedParsed playout Cls = Unit {0}
IsAskedParsed playout Version = Unit {0}
IsAskedParsed playout Bye = Unit {0}
IsAskedParsed playout Kill = Unit {0}

by_words : (playout : Playout) (words : List (List ℕ)) (asked : Parsed) → parsed playout.config playout.names words ≡ Ok asked → IsAskedParsed playout asked
by_words playout words (Stage command) is = record { words = words; ask = is }
by_words playout words Begin is = tt
by_words playout words Commit is = tt
by_words playout words Discard is = tt
by_words playout words Cls is = tt
by_words playout words Version is = tt
by_words playout words Bye is = tt
by_words playout words Kill is = tt

module _ (playout : Playout) where
  batch-few : (asked : List Parsed) → length (batch asked) ≤ MAX_BATCH_COMMANDS
  batch-few asked = omega (arith, length-take MAX_BATCH_COMMANDS (filter_map batched (after_first is_begin (since_closing asked))))

  -- what a COMMIT asks for
  commit-written : (commands : List Cmd) → length commands ≤ MAX_BATCH_COMMANDS → All (IsBatchedCommand playout) commands → IsWrittenStep playout (step_commit commands)
  commit-written [] few each = tt
  commit-written (command ∷ commands) few each = (few, each)

  lines-written : HoldsOfLines (IsAskedParsed playout) (IsWrittenStep playout)
  lines-written = record {
    replied = λ answer. tt;
    kill = tt;
    ended = tt;
    skip = tt;
    ask = λ command asked. asked;
    commit = λ before earlier.
        commit-written (batch before) (batch-few before)
        (batch-each (IsAskedParsed playout) (IsBatchedCommand playout) (λ command asked acts. record { asked = asked; acts = acts }) before earlier);
  }

  -- what a stream asks the stage for
  pub steps_are_written : (given_up stream : List ℕ) → All (IsWrittenStep playout) (steps playout.config playout.names given_up stream)
  steps_are_written = steps-each playout.config playout.names (IsAskedParsed playout) (IsWrittenStep playout) (by_words playout) lines-written

  -- the events of a step
  verdict-written : (one : Event) (what : Verdict) → IsWritten playout one → All (IsWritten playout) (verdict_events one what)
  verdict-written one JournalFull is = All-nil (IsWritten playout)
  verdict-written one OutOfMemory is = All-nil (IsWritten playout)
  verdict-written one Taken is = All-cons (IsWritten playout) one [] is (All-nil (IsWritten playout))

  pub step-written : (turn : Turn) (step : Step) → IsConnection turn.tag → IsWrittenStep playout step → All (IsWritten playout) (step_events turn (Some step))
  step-written turn (Local answer) named is = All-nil (IsWritten playout)
  step-written turn (Ask command) named is = verdict-written (event.Do turn.tag command) (verdict turn 1) (named, is)
  step-written turn (AskBatch commands) named is = verdict-written (event.Batch turn.tag commands) (verdict turn (length commands)) (named, is.0, is.1)
  step-written turn KillServer named is = All-cons (IsWritten playout) (event.Stop turn.tag) [] (inr named) (All-nil (IsWritten playout))
  step-written turn EndConnection named is = All-nil (IsWritten playout)
  step-written turn Skip named is = All-nil (IsWritten playout)

  found-written : (turn : Turn) (found : Option Step) → IsConnection turn.tag → IfSome found (IsWrittenStep playout) → All (IsWritten playout) (step_events turn found)
  found-written turn None named is = All-nil (IsWritten playout)
  found-written turn (Some step) named is = step-written turn step named is

  said-written : (turn : Turn) (before : List PlayedLine) (line : PlayedLine) (tag : Tag) → IsConnection turn.tag
      → All (IsWritten playout) (step_events turn (said_step playout before line tag))
  said-written turn before line tag named =
      found-written turn (said_step playout before line tag) named (said-each playout (IsWrittenStep playout) steps_are_written before line tag)

  -- the events of a line
  events_at-written : (past : Past) (one : PlayedLine) (says : ScriptLine) → NamesConnection says → All (IsWritten playout) (events_at playout past one says)
  events_at-written past one Comment named = All-nil (IsWritten playout)
  events_at-written past one (Ticks count) named = All-replicate (IsWritten playout) count event.Tick tt
  events_at-written past one (Said tag text) named = said-written (turn_of playout past.events one tag) past.lines one tag named
  events_at-written past one line.Stop named = All-cons (IsWritten playout) (event.Stop server) [] (inl refl) (All-nil (IsWritten playout))
  events_at-written past one Rejected named = All-nil (IsWritten playout)

  events_after-written : (past : Past) (lines : List PlayedLine) → All (IsWritten playout) past.events → All NamesConnection (lines_played lines)
      → All (IsWritten playout) (events_after playout past lines)
  unfolding events_after
  events_after-written past [] earlier named = earlier
  events_after-written past (one ∷ lines) earlier named =
      let now = past.events ++ events_at playout past one one.line in
      let here = All-append (IsWritten playout) past.events (events_at playout past one one.line) earlier
      (events_at-written past one one.line (All-head NamesConnection one.line (lines_played lines) named)) in
      by_end (ends_at playout past.lines one one.line) now
      (events_after playout (record { lines = past.lines ++ one ∷ []; events = now }) lines) here
      (events_after-written (record { lines = past.lines ++ one ∷ []; events = now }) lines here (All-tail NamesConnection one.line (lines_played lines) named))
    where
      by_end : (ends : Bool) (now all : List Event) → All (IsWritten playout) now → All (IsWritten playout) all → All (IsWritten playout) (if ends then now else all)
      by_end true now all here later = here
      by_end false now all here later = later

  pub script_events-written : (lines : List PlayedLine) → All NamesConnection (lines_played lines) → All (IsWritten playout) (script_events playout lines)
  unfolding script_events
  script_events-written lines named = events_after-written (record { lines = []; events = [] }) lines (All-nil (IsWritten playout)) named
