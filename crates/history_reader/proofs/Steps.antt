-- Lines at which a run ends: they make a stop.
use Rattle.std.proofs.Common.{◌≡◌, ◌≢◌, ℕ, zero, suc, true, false, List, [], ◌∷◌, length, replicate, refl}
use Rattle.std.specs.Prelude.{Option, Some, None}
use Rattle.play_types.specs.History.{is_stop}
use Rattle.play_types.specs.declared.event.Event.{Event}
use Rattle.play_types.specs.declared.event.Event.TheVariants as event
use Rattle.play_types.specs.declared.event.Tag.{Tag}
use Rattle.history_model.specs.scripts.Line.{ScriptLine, Comment, Ticks, Said, Stop, Rejected}
use Rattle.history_model.specs.scripts.History.{Playout, PlayedLine, Past, Turn, Verdict, JournalFull, OutOfMemory, Taken, ends_at, events_at, is_kill, said_step, server, step_events, turn_of, verdict, verdict_events}
use Rattle.history_model.specs.sessions.Session.{Step, Local, Ask, AskBatch, KillServer, EndConnection, Skip}

-- these events are a stop
pub record IsStopEvent (events : List Event) : Type 0 where
  pub tag : Tag
  pub is : events ≡ event.Stop tag ∷ []

-- a kill makes a stop
kill_stops : (turn : Turn) (found : Option Step) → is_kill found ≡ true → IsStopEvent (step_events turn found)
kill_stops turn None kills = absurd (cc)
kill_stops turn (Some (Local answer)) kills = absurd (cc)
kill_stops turn (Some (Ask command)) kills = absurd (cc)
kill_stops turn (Some (AskBatch commands)) kills = absurd (cc)
kill_stops turn (Some KillServer) kills = record { tag = turn.tag; is = refl }
kill_stops turn (Some EndConnection) kills = absurd (cc)
kill_stops turn (Some Skip) kills = absurd (cc)

-- a line at which the run ends makes a stop, unless it is rejected
pub end_stops : (playout : Playout) (past : Past) (line : PlayedLine) (said : ScriptLine) → said ≢ Rejected → ends_at playout past.lines line said ≡ true
    → IsStopEvent (events_at playout past line said)
end_stops playout past line Comment accepted ends = absurd (cc)
end_stops playout past line (Ticks count) accepted ends = absurd (cc)
end_stops playout past line (Said tag text) accepted ends =
    kill_stops (turn_of playout past.events line tag) (said_step playout past.lines line tag) ends
end_stops playout past line Stop accepted ends = record { tag = server; is = refl }
end_stops playout past line Rejected accepted ends = absurd (accepted refl)

-- a command or a batch makes no stop
not_stopped : (one : Event) (tag : Tag) → is_stop one ≡ false → (found : Verdict) → verdict_events one found ≡ event.Stop tag ∷ [] → ⊥
not_stopped one tag other JournalFull is = cc
not_stopped one tag other OutOfMemory is = cc
not_stopped (event.Do by cmd) tag other Taken is = cc
not_stopped (event.Batch by cmds) tag other Taken is = cc
not_stopped event.Tick tag other Taken is = cc
not_stopped (event.Stop by) tag other Taken is = cc

stop_kills : (turn : Turn) (found : Option Step) (tag : Tag) → step_events turn found ≡ event.Stop tag ∷ [] → is_kill found ≡ true
stop_kills turn None tag is = absurd (cc)
stop_kills turn (Some (Local answer)) tag is = absurd (cc)
stop_kills turn (Some (Ask command)) tag is = absurd (not_stopped (event.Do turn.tag command) tag refl (verdict turn 1) is)
stop_kills turn (Some (AskBatch commands)) tag is = absurd (not_stopped (event.Batch turn.tag commands) tag refl (verdict turn (length commands)) is)
stop_kills turn (Some KillServer) tag is = refl
stop_kills turn (Some EndConnection) tag is = absurd (cc)
stop_kills turn (Some Skip) tag is = absurd (cc)

ticks_only : (count : ℕ) (tag : Tag) → replicate count event.Tick ≡ event.Stop tag ∷ [] → ⊥
ticks_only zero tag is = cc
ticks_only (suc count) tag is = cc

-- the run ends at a line that makes a stop
pub stop_ends : (playout : Playout) (past : Past) (line : PlayedLine) (said : ScriptLine) (tag : Tag) → events_at playout past line said ≡ event.Stop tag ∷ []
    → ends_at playout past.lines line said ≡ true
stop_ends playout past line Comment tag is = absurd (cc)
stop_ends playout past line (Ticks count) tag is = absurd (ticks_only count tag is)
stop_ends playout past line (Said by text) tag is =
    stop_kills (turn_of playout past.events line by) (said_step playout past.lines line by) tag is
stop_ends playout past line Stop tag is = refl
stop_ends playout past line Rejected tag is = absurd (cc)
