use Rattle.std.proofs.Common.{◌≡◌, List, [], ◌∷◌, ◌++◌, refl, ap, codes}
use Rattle.std.specs.Prelude.{None}
use Rattle.play_types.specs.declared.command.Cmd.TheVariants.{Pause}
use Rattle.play_types.specs.declared.event.Event.TheVariants.{Tick}
use Rattle.play_types.specs.declared.event.Tag.{Tag}
use Rattle.play_types.specs.declared.parsed.Parsed.TheVariants.{Begin, Stage}
use Rattle.history_model.specs.Worked.{at, one_pixel, played}
use Rattle.history_model.specs.sessions.Line.{Asks}
use Rattle.history_model.specs.scripts.History.{PlayedLine, events_after, goes_on, goes_on_after, script_events}
use Rattle.history_model.specs.scripts.Input.{ended_lines}
use Rattle.history_model.specs.scripts.Output.{ticks_output}
use Rattle.history_model.proofs.OnLiterals.{text_on_literals}
use Rattle.history_model.proofs.Played.{HasRun, Progress, nothing, progress_said, run_none, run_said, run_ticks, turn_then}
use Rattle.history_reader.specs.HistoryText.{events_before_stop, fault_after}
use Rattle.history_reader.proofs.Spoken.{said_events, said_fault}
use Rattle.history_reader.proofs.examples.texts_with_an_open_batch.Goals as goal

abbrev session : Tag
session = record { worker = 1; session = 1 }

-- the lines up to one
abbrev to_ticks : List PlayedLine
to_ticks = played (codes "T 2") ∷ []

abbrev to_begin : List PlayedLine
to_begin = to_ticks ++ played (codes "1.1 BEGIN") ∷ []

abbrev to_pause : List PlayedLine
to_pause = to_begin ++ played (codes "1.1 PAUSE 1-0") ∷ []

-- what was asked for, done and written up to a line
abbrev at_ticks : Progress
at_ticks = record { asked = []; events = Tick ∷ Tick ∷ []; output = ticks_output one_pixel [] 2 }

abbrev at_begin : Progress
at_begin = progress_said (turn_then one_pixel session (played (codes "1.1 BEGIN")) at_ticks) at_ticks (codes "BEGIN") (Asks Begin)

after_ticks : HasRun one_pixel session to_ticks at_ticks
after_ticks = run_ticks one_pixel session [] nothing (run_none one_pixel session) (played (codes "T 2")) 2 refl

after_begin : HasRun one_pixel session to_begin at_begin
unfolding text_on_literals
after_begin =
    run_said one_pixel session to_ticks at_ticks after_ticks (played (codes "1.1 BEGIN")) (codes "BEGIN") (Asks Begin)
    refl refl refl refl refl

ticks_right : fault_after one_pixel [] to_ticks ≡ None
unfolding events_after goes_on goes_on_after script_events fault_after
ticks_right = refl

begin_right : fault_after one_pixel [] to_begin ≡ None
unfolding text_on_literals
begin_right =
    said_fault one_pixel session to_ticks at_ticks after_ticks (played (codes "1.1 BEGIN")) (codes "BEGIN") (Asks Begin)
    refl refl refl refl ticks_right

pause_right : fault_after one_pixel [] to_pause ≡ None
unfolding text_on_literals
pause_right =
    said_fault one_pixel session to_begin at_begin after_begin (played (codes "1.1 PAUSE 1-0")) (codes "PAUSE 1-0") (Asks (Stage (Pause (at 1 0))))
    refl refl refl refl begin_right

pause_events : script_events one_pixel to_pause ≡ Tick ∷ Tick ∷ []
unfolding text_on_literals
pause_events =
    said_events one_pixel session to_begin at_begin after_begin (played (codes "1.1 PAUSE 1-0")) (codes "PAUSE 1-0") (Asks (Stage (Pause (at 1 0))))
    refl refl refl refl

pub returns-clause-right : goal.returns-clause-right
unfolding ended_lines
returns-clause-right c = pause_right

pub returns-clause-events : goal.returns-clause-events
unfolding ended_lines
returns-clause-events c = ap events_before_stop pause_events
