-- The history that a script makes.
use Rattle.std.proofs.Common.{◌≡◌, ℕ, zero, suc, ◌+◌, ◌≤◌, Bool, true, false, List, [], ◌∷◌, ◌++◌, length, refl, sym, ap, ap₂, ◌∙◌, arith, replicate}
use Rattle.std.specs.Prelude.{Option, Some, None, IfSome, option_map, nat_lt, if◌then◌else◌}
use Rattle.std.proofs.lemmas.Bool.Decides.{nat_tests}
use Rattle.play_types.specs.History.{held, held_by, stop_at, IsHistory}
use Rattle.play_types.specs.declared.event.Event.{Event}
use Rattle.play_types.specs.declared.event.Event.TheVariants as event
use Rattle.play_types.specs.declared.event.Tag.{Tag}
use Rattle.play_types.proofs.Histories.{held-append, stop_at-append, IsHistory-append}
use Rattle.history_model.specs.scripts.Line.{ScriptLine, Comment, Ticks, Said, Stop, Rejected}
use Rattle.history_model.specs.scripts.History.{Playout, PlayedLine, Past, Turn, Verdict, JournalFull, OutOfMemory, Taken, is_full, verdict, verdict_events, step_events, is_kill, turn_of, said_step, server, ends_at, events_at, events_after, script_events, goes_on_after, goes_on}
use Rattle.history_model.specs.sessions.Session.{Step, Local, Ask, AskBatch, KillServer, EndConnection, Skip, IsFilledStep}
use Rattle.history_model.proofs.Filled.{said_is_filled}

-- an event has a place in the journal
taken_by : (full none : Bool) → (if full then JournalFull else if none then OutOfMemory else Taken) ≡ Taken → (full ≡ false) × (none ≡ false)
taken_by true none is = cc
taken_by false true is = cc
taken_by false false is = (refl, refl)

pub taken_is : (turn : Turn) (commands : ℕ) → verdict turn commands ≡ Taken → (is_full turn.playout turn.events commands ≡ false) × (turn.no_memory ≡ false)
taken_is turn commands is = taken_by (is_full turn.playout turn.events commands) turn.no_memory is

-- a history of a script: no batch is empty, nothing follows a stop, and the journal is within its limit
pub record IsKept (playout : Playout) (events : List Event) : Type 0 where
  pub history : IsHistory events
  pub within : held events ≤ playout.config.journal_limit

none_kept : (playout : Playout) → IsKept playout []
none_kept playout = record { history = tt; within = omega arith }

-- more events that are such a history, if the limit allows their commands
more_kept : (playout : Playout) (events more : List Event) → IsKept playout events → stop_at events ≡ None → IsHistory more
    → held events + held more ≤ playout.config.journal_limit → IsKept playout (events ++ more)
more_kept playout events more kept running history within = record {
  history = IsHistory-append events more kept.history running history;
  within = omega (arith, held-append events more, within);
}

still_running : (events more : List Event) → stop_at events ≡ None → stop_at more ≡ None → stop_at (events ++ more) ≡ None
still_running events more running none = stop_at-append events more running ∙ ap (option_map (λ n. length events + n)) none

-- ticks are a history, and have no stop
history_ticks : (count : ℕ) → IsHistory (replicate count event.Tick)
history_ticks zero = tt
history_ticks (suc count) = history_ticks count

held_ticks : (count : ℕ) → held (replicate count event.Tick) ≡ 0
held_ticks zero = refl
held_ticks (suc count) = omega (arith, held_ticks count)

running_ticks : (count : ℕ) → stop_at (replicate count event.Tick) ≡ None
running_ticks zero = refl
running_ticks (suc count) = stop_at-append (event.Tick ∷ []) (replicate count event.Tick) refl ∙ ap (option_map (λ n. 1 + n)) (running_ticks count)

-- the events of a part of a script after such a history, and whether the history then has a stop
record KeepsOn (playout : Playout) (events more : List Event) (ends : Bool) : Type 0 where
  kept : IsKept playout (events ++ more)
  running : ends ≡ false → stop_at (events ++ more) ≡ None

module _ (playout : Playout) (events : List Event) (kept : IsKept playout events) (running : stop_at events ≡ None) where
  nothing_more : (ends : Bool) → KeepsOn playout events [] ends
  nothing_more ends = record {
    kept = more_kept playout events [] kept running tt (let within = kept.within in omega (arith, within));
    running = λ goes. still_running events [] running refl;
  }

  stop_more : (tag : Tag) → KeepsOn playout events (event.Stop tag ∷ []) true
  stop_more tag = record {
    kept = more_kept playout events (event.Stop tag ∷ []) kept running refl (let within = kept.within in omega (arith, within));
    running = λ goes. cc;
  }

  ticks_more : (count : ℕ) → KeepsOn playout events (replicate count event.Tick) false
  ticks_more count = record {
    kept = more_kept playout events (replicate count event.Tick) kept running (history_ticks count)
        (let within = kept.within in omega (arith, within, held_ticks count));
    running = λ goes. still_running events (replicate count event.Tick) running (running_ticks count);
  }

  -- an event that is no stop, if the journal has room for its commands
  event_more : (turn : Turn) (one : Event) → turn.playout ≡ playout → turn.events ≡ events → IsHistory (one ∷ []) → stop_at (one ∷ []) ≡ None
      → (found : Verdict) → verdict turn (held_by one) ≡ found → KeepsOn playout events (verdict_events one found) false
  event_more turn one on after history running' JournalFull is = nothing_more false
  event_more turn one on after history running' OutOfMemory is = nothing_more false
  event_more turn one on after history running' Taken is =
      let room : is_full playout events (held_by one) ≡ false =
      ap₂ (λ p es. is_full p es (held_by one)) (sym on) (sym after) ∙ (taken_is turn (held_by one) is).0 in
      record {
        kept = more_kept playout events (one ∷ []) kept running history (under (held_by one) room);
        running = λ goes. still_running events (one ∷ []) running running';
      }
    where
      under : (commands : ℕ) → nat_lt playout.config.journal_limit (held events + commands) ≡ false → held events + (commands + 0) ≤ playout.config.journal_limit
      under commands room = grind (arith, nat_tests)

  step_more : (turn : Turn) → turn.playout ≡ playout → turn.events ≡ events → (step : Option Step) → IfSome step IsFilledStep →
      KeepsOn playout events (step_events turn step) (is_kill step)
  step_more turn on after None filled = nothing_more false
  step_more turn on after (Some (Local answer)) filled = nothing_more false
  step_more turn on after (Some (Ask command)) filled = event_more turn (event.Do turn.tag command) on after tt refl (verdict turn 1) refl
  step_more turn on after (Some (AskBatch commands)) filled =
      event_more turn (event.Batch turn.tag commands) on after (filled, tt) refl (verdict turn (length commands)) refl
  step_more turn on after (Some KillServer) filled = stop_more turn.tag
  step_more turn on after (Some EndConnection) filled = nothing_more false
  step_more turn on after (Some Skip) filled = nothing_more false

  line_more : (before : List PlayedLine) (line : PlayedLine) (said : ScriptLine)
      → KeepsOn playout events (events_at playout (record { lines = before; events = events }) line said) (ends_at playout before line said)
  line_more before line Comment = nothing_more false
  line_more before line (Ticks count) = ticks_more count
  line_more before line (Said tag text) = step_more (turn_of playout events line tag) refl refl (said_step playout before line tag) (said_is_filled playout before line tag)
  line_more before line Stop = stop_more server
  line_more before line Rejected = nothing_more true

-- the history after a line, and what was played up to it
abbrev history_with : Playout → Past → PlayedLine → List Event
history_with playout past line = past.events ++ events_at playout past line line.line

abbrev past_with : Playout → Past → PlayedLine → Past
past_with playout past line = record { lines = past.lines ++ line ∷ []; events = history_with playout past line }

-- the events of lines after such a history
kept_after : (playout : Playout) (past : Past) (lines : List PlayedLine) → IsKept playout past.events → stop_at past.events ≡ None → IsKept playout (events_after playout past lines)
unfolding events_after
kept_after playout past [] kept running = kept
kept_after playout past (line ∷ lines) kept running =
    let step = line_more playout past.events kept running past.lines line line.line in
    by_end (ends_at playout past.lines line line.line) refl step.kept
    (λ goes. kept_after playout (past_with playout past line) lines step.kept (step.running goes))
  where
    by_end : (b : Bool) → ends_at playout past.lines line line.line ≡ b → IsKept playout (history_with playout past line)
        → (ends_at playout past.lines line line.line ≡ false → IsKept playout (events_after playout (past_with playout past line) lines))
        → IsKept playout (if b then history_with playout past line else events_after playout (past_with playout past line) lines)
    by_end true is here later = here
    by_end false is here later = later is

pub script_kept : (playout : Playout) (lines : List PlayedLine) → IsKept playout (script_events playout lines)
unfolding script_events
script_kept playout lines = kept_after playout (record { lines = []; events = [] }) lines (none_kept playout) refl

-- while the run goes on there is no stop
running_after : (playout : Playout) (past : Past) (lines : List PlayedLine) → IsKept playout past.events → stop_at past.events ≡ None
    → goes_on_after playout past.lines lines ≡ true → stop_at (events_after playout past lines) ≡ None
unfolding events_after goes_on_after
running_after playout past [] kept running on = running
running_after playout past (line ∷ lines) kept running on =
    let step = line_more playout past.events kept running past.lines line line.line in
    by_end (ends_at playout past.lines line line.line) refl
    (λ goes. running_after playout (past_with playout past line) lines step.kept (step.running goes)) on
  where
    by_end : (b : Bool) → ends_at playout past.lines line line.line ≡ b
        → (ends_at playout past.lines line line.line ≡ false → goes_on_after playout (past.lines ++ line ∷ []) lines ≡ true
        → stop_at (events_after playout (past_with playout past line) lines) ≡ None)
        → (if b then false else goes_on_after playout (past.lines ++ line ∷ []) lines) ≡ true
        → stop_at (if b then history_with playout past line else events_after playout (past_with playout past line) lines) ≡ None
    by_end true is later on = cc
    by_end false is later on = later is on

pub script_running : (playout : Playout) (lines : List PlayedLine) → goes_on playout lines ≡ true → stop_at (script_events playout lines) ≡ None
unfolding script_events goes_on
script_running playout lines on = running_after playout (record { lines = []; events = [] }) lines (none_kept playout) refl on
