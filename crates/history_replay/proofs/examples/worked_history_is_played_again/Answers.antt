use Rattle.std.proofs.Common.{List, [], ◌∷◌, ◌++◌, ℕ, refl, ap, ◌∙◌, codes, pos}
use Rattle.std.specs.Fmt.{digits}
use lib.Utf8.{encode}
use Rattle.amcp_text.specs.Micros.{last_digits}
use Rattle.play_types.specs.declared.command.Cmd.TheVariants.{ClearLayer, CommitMixer, Pause, PlayTake, Set}
use Rattle.play_types.specs.declared.event.Event.{Event}
use Rattle.play_types.specs.declared.event.Event.TheVariants.{Stop, Tick}
use Rattle.play_types.specs.declared.event.Tag.{Tag}
use Rattle.play_types.specs.declared.parsed.Parsed.TheVariants.{Stage, Begin, Commit}
use Rattle.play_types.specs.declared.setting.Prop.TheVariants.{Opacity}
use Rattle.history_model.specs.Worked.{ask, at, batch, deferred, defers, number, one_pixel, plays, red}
use Rattle.history_model.specs.commands.Command.{clear}
use Rattle.history_model.specs.sessions.Line.{Asks}
use Rattle.history_model.specs.scripts.Line.{Said, Ticks}
use Rattle.history_model.specs.scripts.Line as line
use Rattle.history_model.specs.scripts.History.{PlayedLine, server}
use Rattle.history_model.specs.scripts.Output.{tag_text}
use Rattle.history_model.specs.text.Commands.{command_text}
use Rattle.history_model.specs.text.History.{connection_line, history_text, stop_line, tick_lines}
use Rattle.history_model.proofs.OnLiterals.{reply_on_literals, text_on_literals, ticks_on_literals}
use Rattle.history_model.proofs.Outputs.{script_events-snoc, script_output-snoc}
use Rattle.history_model.proofs.Played.{HasRun, Progress, nothing, run_none, run_said, run_ticks}
use Rattle.history_model.specs.scripts.Memory.{with_memory}
use Rattle.history_replay.proofs.examples.worked_history_is_played_again.Goals as goal

pub returns-clause-text : goal.returns-clause-text
unfolding history_text tick_lines stop_line connection_line tag_text command_text last_digits digits encode
returns-clause-text c = refl

-- a line of session 1 of worker 1
abbrev session : Tag
session = record { worker = 1; session = 1 }

abbrev says : List ℕ → PlayedLine
says text = with_memory (Said session text)

-- the lines up to one
abbrev to_play : List PlayedLine
to_play = says (codes "PLAY 1-0 #FFFF0000") ∷ []

abbrev to_mixer : List PlayedLine
to_mixer = to_play ++ says (codes "MIXER 1-0 OPACITY 0.5 0 LINEAR DEFER") ∷ []

abbrev to_ticks : List PlayedLine
to_ticks = to_mixer ++ with_memory (Ticks 2) ∷ []

abbrev to_begin : List PlayedLine
to_begin = to_ticks ++ says (codes "BEGIN") ∷ []

abbrev to_pause : List PlayedLine
to_pause = to_begin ++ says (codes "PAUSE 1-0") ∷ []

abbrev to_clear : List PlayedLine
to_clear = to_pause ++ says (codes "CLEAR 1-5") ∷ []

abbrev to_commit : List PlayedLine
to_commit = to_clear ++ says (codes "COMMIT") ∷ []

abbrev to_start : List PlayedLine
to_start = to_commit ++ says (codes "MIXER 1 COMMIT") ∷ []

abbrev to_tick : List PlayedLine
to_tick = to_start ++ with_memory (Ticks 1) ∷ []

-- what was asked for, done and written up to a line
abbrev at_play : Progress
at_play = record {
  asked = Stage (PlayTake (at 1 0) red) ∷ [];
  events = plays (at 1 0) red ∷ [];
  output = codes "1.1 202 PLAY OK\n";
}

abbrev at_mixer : Progress
at_mixer = record {
  asked = Stage (PlayTake (at 1 0) red) ∷ Stage (Set (deferred (at 1 0) Opacity (number (pos 500000)))) ∷ [];
  events = plays (at 1 0) red ∷ defers (at 1 0) Opacity (number (pos 500000)) ∷ [];
  output = codes "1.1 202 PLAY OK\n1.1 202 MIXER OK\n";
}

abbrev at_ticks : Progress
at_ticks = record {
  asked = Stage (PlayTake (at 1 0) red) ∷ Stage (Set (deferred (at 1 0) Opacity (number (pos 500000)))) ∷ [];
  events = plays (at 1 0) red ∷ defers (at 1 0) Opacity (number (pos 500000)) ∷ Tick ∷ Tick ∷ [];
  output = codes "1.1 202 PLAY OK\n1.1 202 MIXER OK\nF 1 1\n0000ffff\nF 1 2\n0000ffff\n";
}

abbrev at_begin : Progress
at_begin = record {
  asked = Stage (PlayTake (at 1 0) red) ∷ Stage (Set (deferred (at 1 0) Opacity (number (pos 500000)))) ∷ Begin ∷ [];
  events = plays (at 1 0) red ∷ defers (at 1 0) Opacity (number (pos 500000)) ∷ Tick ∷ Tick ∷ [];
  output = codes "1.1 202 PLAY OK\n1.1 202 MIXER OK\nF 1 1\n0000ffff\nF 1 2\n0000ffff\n1.1 202 BEGIN OK\n";
}

abbrev at_pause : Progress
at_pause = record {
  asked = Stage (PlayTake (at 1 0) red) ∷ Stage (Set (deferred (at 1 0) Opacity (number (pos 500000)))) ∷ Begin ∷ Stage (Pause (at 1 0)) ∷ [];
  events = plays (at 1 0) red ∷ defers (at 1 0) Opacity (number (pos 500000)) ∷ Tick ∷ Tick ∷ [];
  output = codes "1.1 202 PLAY OK\n1.1 202 MIXER OK\nF 1 1\n0000ffff\nF 1 2\n0000ffff\n1.1 202 BEGIN OK\n1.1 202 PAUSE OK\n";
}

abbrev at_clear : Progress
at_clear = record {
  asked = Stage (PlayTake (at 1 0) red) ∷ Stage (Set (deferred (at 1 0) Opacity (number (pos 500000)))) ∷ Begin ∷ Stage (Pause (at 1 0)) ∷ Stage (ClearLayer (at 1 5)) ∷ [];
  events = plays (at 1 0) red ∷ defers (at 1 0) Opacity (number (pos 500000)) ∷ Tick ∷ Tick ∷ [];
  output = codes "1.1 202 PLAY OK\n1.1 202 MIXER OK\nF 1 1\n0000ffff\nF 1 2\n0000ffff\n1.1 202 BEGIN OK\n1.1 202 PAUSE OK\n1.1 202 CLEAR OK\n";
}

abbrev at_commit : Progress
at_commit = record {
  asked = Stage (PlayTake (at 1 0) red) ∷ Stage (Set (deferred (at 1 0) Opacity (number (pos 500000)))) ∷ Begin ∷ Stage (Pause (at 1 0)) ∷ Stage (ClearLayer (at 1 5)) ∷ Commit ∷ [];
  events = plays (at 1 0) red ∷ defers (at 1 0) Opacity (number (pos 500000)) ∷ Tick ∷ Tick ∷ batch (Pause (at 1 0) ∷ ClearLayer (at 1 5) ∷ []) ∷ [];
  output = codes "1.1 202 PLAY OK\n1.1 202 MIXER OK\nF 1 1\n0000ffff\nF 1 2\n0000ffff\n1.1 202 BEGIN OK\n1.1 202 PAUSE OK\n1.1 202 CLEAR OK\n1.1 202 COMMIT OK\n";
}

abbrev at_start : Progress
at_start = record {
  asked = Stage (PlayTake (at 1 0) red) ∷ Stage (Set (deferred (at 1 0) Opacity (number (pos 500000)))) ∷ Begin ∷ Stage (Pause (at 1 0)) ∷ Stage (ClearLayer (at 1 5)) ∷ Commit ∷ Stage (CommitMixer 1) ∷ [];
  events = plays (at 1 0) red ∷ defers (at 1 0) Opacity (number (pos 500000)) ∷ Tick ∷ Tick ∷ batch (Pause (at 1 0) ∷ ClearLayer (at 1 5) ∷ []) ∷ ask (CommitMixer 1) ∷ [];
  output = codes "1.1 202 PLAY OK\n1.1 202 MIXER OK\nF 1 1\n0000ffff\nF 1 2\n0000ffff\n1.1 202 BEGIN OK\n1.1 202 PAUSE OK\n1.1 202 CLEAR OK\n1.1 202 COMMIT OK\n1.1 202 MIXER OK\n";
}

abbrev at_tick : Progress
at_tick = record {
  asked = Stage (PlayTake (at 1 0) red) ∷ Stage (Set (deferred (at 1 0) Opacity (number (pos 500000)))) ∷ Begin ∷ Stage (Pause (at 1 0)) ∷ Stage (ClearLayer (at 1 5)) ∷ Commit ∷ Stage (CommitMixer 1) ∷ [];
  events = plays (at 1 0) red ∷ defers (at 1 0) Opacity (number (pos 500000)) ∷ Tick ∷ Tick ∷ batch (Pause (at 1 0) ∷ ClearLayer (at 1 5) ∷ []) ∷ ask (CommitMixer 1) ∷ Tick ∷ [];
  output = codes "1.1 202 PLAY OK\n1.1 202 MIXER OK\nF 1 1\n0000ffff\nF 1 2\n0000ffff\n1.1 202 BEGIN OK\n1.1 202 PAUSE OK\n1.1 202 CLEAR OK\n1.1 202 COMMIT OK\n1.1 202 MIXER OK\nF 1 3\n00008080\n";
}

after_play : HasRun one_pixel session to_play at_play
unfolding text_on_literals reply_on_literals
after_play =
    run_said one_pixel session [] nothing (run_none one_pixel session) (says (codes "PLAY 1-0 #FFFF0000")) (codes "PLAY 1-0 #FFFF0000") (Asks (Stage (PlayTake (at 1 0) red)))
    refl refl refl refl refl

after_mixer : HasRun one_pixel session to_mixer at_mixer
unfolding text_on_literals reply_on_literals
after_mixer =
    run_said one_pixel session to_play at_play after_play (says (codes "MIXER 1-0 OPACITY 0.5 0 LINEAR DEFER")) (codes "MIXER 1-0 OPACITY 0.5 0 LINEAR DEFER") (Asks (Stage (Set (deferred (at 1 0) Opacity (number (pos 500000))))))
    refl refl refl refl refl

after_ticks : HasRun one_pixel session to_ticks at_ticks
unfolding ticks_on_literals
after_ticks = run_ticks one_pixel session to_mixer at_mixer after_mixer (with_memory (Ticks 2)) 2 refl

after_begin : HasRun one_pixel session to_begin at_begin
unfolding text_on_literals reply_on_literals
after_begin =
    run_said one_pixel session to_ticks at_ticks after_ticks (says (codes "BEGIN")) (codes "BEGIN") (Asks Begin)
    refl refl refl refl refl

after_pause : HasRun one_pixel session to_pause at_pause
unfolding text_on_literals reply_on_literals
after_pause =
    run_said one_pixel session to_begin at_begin after_begin (says (codes "PAUSE 1-0")) (codes "PAUSE 1-0") (Asks (Stage (Pause (at 1 0))))
    refl refl refl refl refl

after_clear : HasRun one_pixel session to_clear at_clear
unfolding text_on_literals reply_on_literals clear
after_clear =
    run_said one_pixel session to_pause at_pause after_pause (says (codes "CLEAR 1-5")) (codes "CLEAR 1-5") (Asks (Stage (ClearLayer (at 1 5))))
    refl refl refl refl refl

after_commit : HasRun one_pixel session to_commit at_commit
unfolding text_on_literals reply_on_literals
after_commit =
    run_said one_pixel session to_clear at_clear after_clear (says (codes "COMMIT")) (codes "COMMIT") (Asks Commit)
    refl refl refl refl refl

after_start : HasRun one_pixel session to_start at_start
unfolding text_on_literals reply_on_literals
after_start =
    run_said one_pixel session to_commit at_commit after_commit (says (codes "MIXER 1 COMMIT")) (codes "MIXER 1 COMMIT") (Asks (Stage (CommitMixer 1)))
    refl refl refl refl refl

after_tick : HasRun one_pixel session to_tick at_tick
unfolding ticks_on_literals
after_tick = run_ticks one_pixel session to_start at_start after_start (with_memory (Ticks 1)) 1 refl

pub returns-clause-history : goal.returns-clause-history
returns-clause-history c =
    script_events-snoc one_pixel to_tick (with_memory line.Stop) after_tick.goes ∙ ap (λ (events : List Event). events ++ Stop server ∷ []) after_tick.events

pub returns-clause-output : goal.returns-clause-output
returns-clause-output c =
    script_output-snoc one_pixel to_tick (with_memory line.Stop) after_tick.goes ∙ ap (λ (output : List ℕ). output ++ []) after_tick.output
