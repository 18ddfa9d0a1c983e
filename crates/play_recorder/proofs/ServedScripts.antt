-- The events of a script name only configured channels.
use Rattle.std.proofs.Common.{ℕ, zero, suc, Bool, true, false, List, [], ◌∷◌, ◌++◌, length, replicate}
use Rattle.std.specs.Prelude.{Option, Some, None, IfSome, if◌then◌else◌}
use Rattle.play_types.specs.declared.event.Event.{Event}
use Rattle.play_types.specs.declared.event.Event.TheVariants as event
use Rattle.play_recorder.specs.Recording.{AreServedEvents, IsServedEvent}
use Rattle.history_model.specs.scripts.Line.{ScriptLine, Comment, Ticks, Said, Stop, Rejected}
use Rattle.history_model.specs.scripts.History.{Playout, PlayedLine, Past, Turn, Verdict, JournalFull, OutOfMemory, Taken, verdict, verdict_events, step_events, turn_of, said_step, ends_at, events_at, events_after, script_events}
use Rattle.history_model.specs.sessions.Session.{Step, Local, Ask, AskBatch, KillServer, EndConnection, Skip, IsAimedStep}
use Rattle.history_model.proofs.AimedSteps.{steps_are_aimed}
use Rattle.history_model.proofs.EachStep.{said-each}

-- the number of channels of a playout
abbrev channels_of : Playout → ℕ
channels_of playout = length playout.config.channels

AreServedEvents-append : (channels : ℕ) (first last : List Event) → AreServedEvents channels first → AreServedEvents channels last
    → AreServedEvents channels (first ++ last)
AreServedEvents-append channels [] last one other = other
AreServedEvents-append channels (event ∷ first) last one other = (one.0, AreServedEvents-append channels first last one.1 other)

served_ticks : (channels count : ℕ) → AreServedEvents channels (replicate count event.Tick)
served_ticks channels zero = tt
served_ticks channels (suc count) = (tt, served_ticks channels count)

served_verdict : (channels : ℕ) (one : Event) → IsServedEvent channels one → (found : Verdict) → AreServedEvents channels (verdict_events one found)
served_verdict channels one served JournalFull = tt
served_verdict channels one served OutOfMemory = tt
served_verdict channels one served Taken = (served, tt)

served_step : (playout : Playout) (turn : Turn) (step : Option Step) → IfSome step (IsAimedStep playout.config) → AreServedEvents (channels_of playout) (step_events turn step)
served_step playout turn None aimed = tt
served_step playout turn (Some (Local answer)) aimed = tt
served_step playout turn (Some (Ask command)) aimed = served_verdict (channels_of playout) (event.Do turn.tag command) aimed (verdict turn 1)
served_step playout turn (Some (AskBatch commands)) aimed =
    served_verdict (channels_of playout) (event.Batch turn.tag commands) aimed (verdict turn (length commands))
served_step playout turn (Some KillServer) aimed = (tt, tt)
served_step playout turn (Some EndConnection) aimed = tt
served_step playout turn (Some Skip) aimed = tt

served_line : (playout : Playout) (past : Past) (line : PlayedLine) (said : ScriptLine) → AreServedEvents (channels_of playout) (events_at playout past line said)
served_line playout past line Comment = tt
served_line playout past line (Ticks count) = served_ticks (channels_of playout) count
served_line playout past line (Said tag text) =
    served_step playout (turn_of playout past.events line tag) (said_step playout past.lines line tag)
    (said-each playout (IsAimedStep playout.config) (steps_are_aimed playout.config playout.names) past.lines line tag)
served_line playout past line Stop = (tt, tt)
served_line playout past line Rejected = tt

served_after : (playout : Playout) (past : Past) (lines : List PlayedLine) → AreServedEvents (channels_of playout) past.events
    → AreServedEvents (channels_of playout) (events_after playout past lines)
unfolding events_after
served_after playout past [] served = served
served_after playout past (line ∷ lines) served =
    let here : AreServedEvents (channels_of playout) (past.events ++ events_at playout past line line.line) =
    AreServedEvents-append (channels_of playout) past.events (events_at playout past line line.line) served (served_line playout past line line.line) in
    let next : Past = record { lines = past.lines ++ line ∷ []; events = past.events ++ events_at playout past line line.line } in
    by_end (ends_at playout past.lines line line.line) next.events (events_after playout next lines) here (served_after playout next lines here)
  where
    by_end : (b : Bool) (one other : List Event) → AreServedEvents (channels_of playout) one → AreServedEvents (channels_of playout) other
        → AreServedEvents (channels_of playout) (if b then one else other)
    by_end true one other here later = here
    by_end false one other here later = later

pub served_script : (playout : Playout) (lines : List PlayedLine) → AreServedEvents (channels_of playout) (script_events playout lines)
unfolding script_events
served_script playout lines = served_after playout (record { lines = []; events = [] }) lines tt
