use Rattle.std.proofs.Common.{◌≡◌, List, [], ◌∷◌, ◌++◌, false, refl, ap, ◌∙◌, codes}
use Rattle.std.specs.Prelude.{None, is_some}
use Rattle.play_types.specs.History.{stop_at}
use Rattle.play_types.specs.declared.event.Event.TheVariants.{Stop, Tick}
use Rattle.play_types.specs.declared.event.Tag.{Tag}
use Rattle.play_types.specs.declared.parsed.Parsed.TheVariants.{Kill}
use Rattle.history_model.specs.Worked.{one_pixel, played}
use Rattle.history_model.specs.sessions.Line.{Asks}
use Rattle.history_model.specs.scripts.History.{PlayedLine, events_after, goes_on, goes_on_after, script_events}
use Rattle.history_model.specs.scripts.Input.{ended_lines}
use Rattle.history_model.specs.scripts.Output.{ticks_output}
use Rattle.history_model.proofs.OnLiterals.{text_on_literals}
use Rattle.history_model.proofs.Played.{HasRun, Progress, nothing, run_none, run_ticks}
use Rattle.history_reader.specs.HistoryText.{events_before_stop, fault_after}
use Rattle.history_reader.proofs.FaultyLines.{fault-snoc}
use Rattle.history_reader.proofs.Plain.{goes_on-ended}
use Rattle.history_reader.proofs.PlayedUpTo.{over_now}
use Rattle.history_reader.proofs.Spoken.{said_ends, said_events, said_fault}
use Rattle.history_reader.proofs.examples.texts_with_a_kill.Goals as goal

abbrev session : Tag
session = record { worker = 1; session = 1 }

-- the lines up to one
abbrev to_tick : List PlayedLine
to_tick = played (codes "T 1") ∷ []

abbrev to_kill : List PlayedLine
to_kill = to_tick ++ played (codes "1.1 KILL") ∷ []

-- what was asked for, done and written up to the tick
abbrev at_tick : Progress
at_tick = record { asked = []; events = Tick ∷ []; output = ticks_output one_pixel [] 1 }

after_tick : HasRun one_pixel session to_tick at_tick
after_tick = run_ticks one_pixel session [] nothing (run_none one_pixel session) (played (codes "T 1")) 1 refl

tick_right : fault_after one_pixel [] to_tick ≡ None
unfolding events_after goes_on goes_on_after script_events fault_after
tick_right = refl

kill_right : fault_after one_pixel [] to_kill ≡ None
unfolding text_on_literals
kill_right =
    said_fault one_pixel session to_tick at_tick after_tick (played (codes "1.1 KILL")) (codes "KILL") (Asks Kill) refl refl refl refl tick_right

kill_events : script_events one_pixel to_kill ≡ Tick ∷ Stop session ∷ []
unfolding text_on_literals
kill_events =
    said_events one_pixel session to_tick at_tick after_tick (played (codes "1.1 KILL")) (codes "KILL") (Asks Kill) refl refl refl refl

kill_over : goes_on one_pixel to_kill ≡ false
unfolding text_on_literals
kill_over =
    goes_on-ended one_pixel to_tick (played (codes "1.1 KILL")) after_tick.goes
    (said_ends one_pixel session to_tick at_tick after_tick (played (codes "1.1 KILL")) (codes "KILL") (Asks Kill) refl refl refl refl)

pub returns-clause-last : goal.returns-clause-last
unfolding ended_lines
returns-clause-last c = kill_right

pub returns-clause-stop : goal.returns-clause-stop
unfolding ended_lines
returns-clause-stop c = ap (λ events. is_some (stop_at events)) kill_events

pub returns-clause-events : goal.returns-clause-events
unfolding ended_lines
returns-clause-events c = ap events_before_stop kill_events

pub returns-clause-followed : goal.returns-clause-followed
unfolding ended_lines
returns-clause-followed c = fault-snoc one_pixel to_kill (played (codes "T 1")) kill_right ∙ over_now one_pixel to_kill (played (codes "T 1")) kill_over
