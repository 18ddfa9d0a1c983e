use Rattle.std.proofs.Common.{List, [], ◌∷◌, ◌++◌, refl, codes, pos}
use Rattle.play_types.specs.declared.command.Cmd.TheVariants.{PlayTake, Set}
use Rattle.play_types.specs.Setting.{SettingView}
use Rattle.play_types.specs.declared.setting.Prop.TheVariants.{Opacity}
use Rattle.play_types.specs.declared.event.Event.TheVariants.{Tick}
use Rattle.play_types.specs.declared.event.Tag.{Tag}
use Rattle.play_types.specs.declared.parsed.Parsed.TheVariants.{Stage, Begin, Commit}
use Rattle.history_model.specs.Worked.{at, batch, number, one_pixel, played, red, setting}
use Rattle.history_model.specs.sessions.Line.{Asks}
use Rattle.history_model.specs.scripts.History.{PlayedLine}
use Rattle.history_model.proofs.OnLiterals.{reply_on_literals, text_on_literals, ticks_on_literals}
use Rattle.history_model.proofs.Played.{HasRun, Progress, nothing, run_none, run_said, run_ticks}
use Rattle.history_model.proofs.examples.scripts.batch_in_a_script.Goals as goal

abbrev session : Tag
session = record { worker = 1; session = 1 }

abbrev first_line : List PlayedLine
first_line = played (codes "1.1 BEGIN") ∷ []

abbrev two_lines : List PlayedLine
two_lines = first_line ++ played (codes "1.1 PLAY 1-0 RED") ∷ []

abbrev three_lines : List PlayedLine
three_lines = two_lines ++ played (codes "1.1 MIXER 1-0 OPACITY 0.5") ∷ []

abbrev four_lines : List PlayedLine
four_lines = three_lines ++ played (codes "1.1 COMMIT") ∷ []

abbrev half : SettingView
half = setting (at 1 0) Opacity (number (pos 500000)) 0

-- the progress after each line
abbrev opened : Progress
opened = record { asked = Begin ∷ []; events = []; output = codes "1.1 202 BEGIN OK\n" }

abbrev one_command : Progress
one_command = record {
  asked = Begin ∷ Stage (PlayTake (at 1 0) red) ∷ [];
  events = [];
  output = codes "1.1 202 BEGIN OK\n1.1 202 PLAY OK\n";
}

abbrev two_commands : Progress
two_commands = record {
  asked = Begin ∷ Stage (PlayTake (at 1 0) red) ∷ Stage (Set half) ∷ [];
  events = [];
  output = codes "1.1 202 BEGIN OK\n1.1 202 PLAY OK\n1.1 202 MIXER OK\n";
}

abbrev committed : Progress
committed = record {
  asked = Begin ∷ Stage (PlayTake (at 1 0) red) ∷ Stage (Set half) ∷ Commit ∷ [];
  events = batch (PlayTake (at 1 0) red ∷ Set half ∷ []) ∷ [];
  output = codes "1.1 202 BEGIN OK\n1.1 202 PLAY OK\n1.1 202 MIXER OK\n1.1 202 COMMIT OK\n";
}

abbrev ticked : Progress
ticked = record {
  asked = committed.asked;
  events = batch (PlayTake (at 1 0) red ∷ Set half ∷ []) ∷ Tick ∷ [];
  output = codes "1.1 202 BEGIN OK\n1.1 202 PLAY OK\n1.1 202 MIXER OK\n1.1 202 COMMIT OK\nF 1 1\n00008080\n";
}

after_begin : HasRun one_pixel session first_line opened
unfolding text_on_literals reply_on_literals
after_begin =
    run_said one_pixel session [] nothing (run_none one_pixel session) (played (codes "1.1 BEGIN")) (codes "BEGIN") (Asks Begin)
    refl refl refl refl refl

after_play : HasRun one_pixel session two_lines one_command
unfolding text_on_literals reply_on_literals
after_play =
    run_said one_pixel session first_line opened after_begin (played (codes "1.1 PLAY 1-0 RED")) (codes "PLAY 1-0 RED")
    (Asks (Stage (PlayTake (at 1 0) red))) refl refl refl refl refl

after_mixer : HasRun one_pixel session three_lines two_commands
unfolding text_on_literals reply_on_literals
after_mixer =
    run_said one_pixel session two_lines one_command after_play (played (codes "1.1 MIXER 1-0 OPACITY 0.5")) (codes "MIXER 1-0 OPACITY 0.5")
    (Asks (Stage (Set half))) refl refl refl refl refl

after_commit : HasRun one_pixel session four_lines committed
unfolding text_on_literals reply_on_literals
after_commit =
    run_said one_pixel session three_lines two_commands after_mixer (played (codes "1.1 COMMIT")) (codes "COMMIT") (Asks Commit)
    refl refl refl refl refl

after_tick : HasRun one_pixel session (four_lines ++ played (codes "T") ∷ []) ticked
unfolding ticks_on_literals
after_tick = run_ticks one_pixel session four_lines committed after_commit (played (codes "T")) 1 refl

pub returns-clause-history : goal.returns-clause-history
returns-clause-history c = after_tick.events

pub returns-clause-output : goal.returns-clause-output
returns-clause-output c = after_tick.output
