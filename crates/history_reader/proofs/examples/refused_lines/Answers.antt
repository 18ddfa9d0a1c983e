use Rattle.std.proofs.Common.{◌≡◌, List, [], ◌∷◌, refl, codes}
use Rattle.std.specs.Prelude.{None}
use Rattle.play_types.specs.declared.command.Cmd.TheVariants.{Pause, StopLayer}
use Rattle.play_types.specs.declared.event.Event.TheVariants.{Tick}
use Rattle.play_types.specs.declared.event.Tag.{Tag}
use Rattle.play_types.specs.declared.parsed.Parsed.TheVariants.{Stage}
use Rattle.play_types.specs.declared.reply.Name.TheVariants as name
use Rattle.play_types.specs.declared.reply.Reply.TheVariants as reply
use Rattle.history_model.specs.Worked.{at, one_pixel, played}
use Rattle.history_model.specs.sessions.Line.{Asks, Wrong}
use Rattle.history_model.specs.scripts.History.{PlayedLine, events_after, goes_on, goes_on_after, script_events}
use Rattle.history_model.specs.scripts.Input.{ended_lines}
use Rattle.history_model.specs.scripts.Output.{ticks_output}
use Rattle.history_model.proofs.OnLiterals.{text_on_literals}
use Rattle.history_model.proofs.Played.{HasRun, Progress, nothing, progress_said, run_none, run_said, run_ticks, turn_then}
use Rattle.history_reader.specs.HistoryText.{fault_after}
use Rattle.history_reader.specs.Worked.{short_journal}
use Rattle.history_reader.proofs.Spoken.{said_fault}
use Rattle.history_reader.proofs.examples.refused_lines.Goals as goal

abbrev session : Tag
session = record { worker = 1; session = 1 }

-- a tick
abbrev to_tick : List PlayedLine
to_tick = played (codes "T 1") ∷ []

abbrev at_tick : Progress
at_tick = record { asked = []; events = Tick ∷ []; output = ticks_output one_pixel [] 1 }

after_tick : HasRun one_pixel session to_tick at_tick
after_tick = run_ticks one_pixel session [] nothing (run_none one_pixel session) (played (codes "T 1")) 1 refl

tick_right : fault_after one_pixel [] to_tick ≡ None
unfolding events_after goes_on goes_on_after script_events fault_after
tick_right = refl

-- a command that is the last one for which the journal has room
abbrev pause : PlayedLine
pause = played (codes "1.1 PAUSE 1-0")

abbrev at_pause : Progress
at_pause = progress_said (turn_then short_journal session pause nothing) nothing (codes "PAUSE 1-0") (Asks (Stage (Pause (at 1 0))))

after_pause : HasRun short_journal session (pause ∷ []) at_pause
unfolding text_on_literals
after_pause =
    run_said short_journal session [] nothing (run_none short_journal session) pause (codes "PAUSE 1-0") (Asks (Stage (Pause (at 1 0))))
    refl refl refl refl refl

none_right : fault_after short_journal [] [] ≡ None
unfolding fault_after
none_right = refl

pause_right : fault_after short_journal [] (pause ∷ []) ≡ None
unfolding text_on_literals
pause_right =
    said_fault short_journal session [] nothing (run_none short_journal session) pause (codes "PAUSE 1-0") (Asks (Stage (Pause (at 1 0))))
    refl refl refl refl none_right

pub returns-clause-clip : goal.returns-clause-clip
unfolding ended_lines text_on_literals
returns-clause-clip c =
    said_fault one_pixel session to_tick at_tick after_tick (played (codes "1.1 PLAY 1-0 BARS")) (codes "PLAY 1-0 BARS") (Wrong (reply.Refused 404 name.Play))
    refl refl refl refl tick_right

pub returns-clause-limit : goal.returns-clause-limit
unfolding ended_lines text_on_literals
returns-clause-limit c =
    said_fault short_journal session (pause ∷ []) at_pause after_pause (played (codes "1.1 STOP 1-0")) (codes "STOP 1-0") (Asks (Stage (StopLayer (at 1 0))))
    refl refl refl refl pause_right
