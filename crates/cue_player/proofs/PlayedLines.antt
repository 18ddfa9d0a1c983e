-- Lines of a script that are played one after another.
use Rattle.std.proofs.Common.{◌≡◌, ◌≢◌, ℕ, zero, suc, ◌+◌, ◌<◌, ◌≤◌, ◌-◌, false, List, [], ◌∷◌, ◌++◌, replicate, length, refl, sym, ap, ◌∙◌, subst, arith, append-nil, append_assoc}
use Rattle.std.specs.Prelude.{Option, Some, Result, Ok, Err}
use Rattle.std.proofs.lemmas.List.{map-append, length-append, length-replicate}
use Rattle.std.proofs.lemmas.List.Sums.{sum_by-append, sum_by-cons}
use Rattle.std.specs.List.{list_any}
use Rattle.amcp_text.specs.Lines.{is_line_end}
use Rattle.play_types.specs.declared.event.Tag.{Tag}
use Rattle.play_types.specs.declared.reply.Reply.{Reply}
use Rattle.play_outside.specs.SinkState.{SinkState, after_taking}
use Rattle.play_outside.specs.Sink.{Fails}
use Rattle.play_outside.proofs.Sending.{Fails-after}
use Rattle.play_outside.proofs.Taking.{after_taking-after_taking, after_taking-nil}
use Rattle.history_model.specs.scripts.Line.{ScriptLine, Rejected}
use Rattle.history_model.specs.scripts.Line as script
use Rattle.history_model.specs.scripts.History.{PlayedLine}
use Rattle.history_model.specs.scripts.Memory.{AreLines}
use Rattle.history_model.specs.scripts.Output.{output_at, script_output}
use Rattle.history_model.proofs.Outputs.{goes_on-none, goes_on-snoc, script_output-none, script_output-snoc}
use Rattle.play_schedule.specs.Steps.{TakesStep}
use Rattle.play_schedule.specs.Unfolding.{ticks_in, ticks_of}
use Rattle.play_schedule.specs.declared.steps.SheetStep.{SheetStep}
use Rattle.play_schedule.specs.declared.steps.SheetStep.TheVariants.{Ticks, Line}
use Rattle.cue_player.specs.Planning.{PlaysPart}
use Rattle.script_player.specs.Script.{Run, played_meanings}
use Rattle.script_player.specs.declared.ending.Halt.{Halt}
use Rattle.script_player.specs.declared.ending.Halt.TheVariants as halt
use Rattle.script_player.specs.declared.player.Player.{Player}
use Rattle.script_player.specs.Shown.{Frames}
use Rattle.cue_player.specs.inner.Planned.{HaltsInScript, HasPlayedLines, HasPlayedUpTo, PlaysLines, step_lines, step_ticks}
use Rattle.script_player.specs.Player.{Marks, NextLine, PlaysLine, Represents, played_line}

-- nothing was played yet
pub none_played : (run : Run) (player : Player) → Represents Frames run.playout player [] → HasPlayedLines run [] player run.first
none_played run player represents = record {
  played = [];
  said = refl;
  runs_on = goes_on-none run.playout;
  represents = represents;
  written = sym (after_taking-nil run.first) ∙ ap (after_taking run.first) (sym (script_output-none run.playout));
}

-- for no lines nothing is written
pub nothing_written_of : (run : Run) (whole : List ScriptLine) → PlaysPart run.playout whole run.first run.first
nothing_written_of run whole = record {
  played = [];
  rest = whole;
  said = refl;
  written = sym (after_taking-nil run.first) ∙ ap (after_taking run.first) (sym (script_output-none run.playout));
}

module _ (run : Run) (lines : List ScriptLine) (line : ScriptLine) (player : Player) (before after : SinkState) (had : HasPlayedLines run lines player before) where
  -- the line after those that were played
  abbrev pub line_after : NextLine
  line_after = record { playout = run.playout; shown = Frames; before = had.played; line = line }

  more_said : (marks : Marks) → lines ++ line ∷ [] ≡ played_meanings (had.played ++ played_line line_after marks ∷ [])
  more_said marks =
      ap (λ (ls : List ScriptLine). ls ++ line ∷ []) (sym had.said)
      ∙ sym (map-append (λ (one : PlayedLine). one.line) had.played (played_line line_after marks ∷ []))

  more_written : (marks : Marks) → after ≡ after_taking before (output_at run.playout had.played (played_line line_after marks) line)
      → after ≡ after_taking run.first (script_output run.playout (had.played ++ played_line line_after marks ∷ []))
  more_written marks step =
      let text = output_at run.playout had.played (played_line line_after marks) line in
      step
      ∙ ap (λ (s : SinkState). after_taking s text) had.written
      ∙ after_taking-after_taking run.first (script_output run.playout had.played) text
      ∙ ap (after_taking run.first) (sym (script_output-snoc run.playout had.played (played_line line_after marks) had.runs_on))

  -- one line more was played
  pub line_played : (replied : Option Reply) (new : Player) → PlaysLine line_after (Ok replied) new before after → HasPlayedLines run (lines ++ line ∷ []) new after
  line_played replied new plays = record {
    played = had.played ++ played_line line_after plays.marks ∷ [];
    said = sym (more_said plays.marks);
    runs_on = goes_on-snoc run.playout had.played (played_line line_after plays.marks) had.runs_on plays.goes_on;
    represents = plays.represents;
    written = more_written plays.marks plays.written;
  }

  ended : (marks : Marks) → lines ++ line ∷ [] ≡ played_meanings (had.played ++ played_line line_after marks ∷ []) ++ []
  ended marks = more_said marks ∙ sym (append-nil (played_meanings (had.played ++ played_line line_after marks ∷ [])))

  -- the run stops at the line
  pub line_halts : (reason : Halt) (new : Player) → (line ≡ Rejected → ⊥) → PlaysLine line_after (Err reason) new before after
      → HaltsInScript run reason (lines ++ line ∷ []) after
  line_halts halt.Stop new accepted plays = record {
    played = had.played;
    last = played_line line_after plays.marks;
    rest = [];
    said = ended plays.marks;
    runs_on = had.runs_on;
    ends = plays.ends;
    written = more_written plays.marks plays.written;
  }
  line_halts halt.Write new accepted plays =
      let text = output_at run.playout had.played (played_line line_after plays.marks) line in
      record {
        played = had.played;
        last = played_line line_after plays.marks;
        rest = [];
        said = ended plays.marks;
        runs_on = had.runs_on;
        written = subst (λ t. Fails t run.first after) (sym (script_output-snoc run.playout had.played (played_line line_after plays.marks) had.runs_on))
            (Fails-after (script_output run.playout had.played) text run.first after (subst (λ s. Fails text s after) had.written plays.fails));
      }
  line_halts halt.Memory new accepted plays = record {
    played = had.played;
    rest = line ∷ [];
    said = ap (λ (ls : List ScriptLine). ls ++ line ∷ []) (sym had.said);
    written = plays ∙ had.written;
  }
  line_halts halt.Rejected new accepted plays = absurd (accepted plays.0)

-- what follows a part of some lines goes on with the lines after these
more_rest : (lines more said rest : List ScriptLine) → lines ≡ said ++ rest → lines ++ more ≡ said ++ (rest ++ more)
more_rest lines more said rest is = ap (λ (ls : List ScriptLine). ls ++ more) is ∙ append_assoc said rest more

pub halted_before : (run : Run) (reason : Halt) (lines more : List ScriptLine) (state : SinkState) → HaltsInScript run reason lines state
    → HaltsInScript run reason (lines ++ more) state
halted_before run halt.Stop lines more state halts = record {
  played = halts.played;
  last = halts.last;
  rest = halts.rest ++ more;
  said = more_rest lines more (played_meanings (halts.played ++ halts.last ∷ [])) halts.rest halts.said;
  runs_on = halts.runs_on;
  ends = halts.ends;
  written = halts.written;
}
halted_before run halt.Write lines more state halts = record {
  played = halts.played;
  last = halts.last;
  rest = halts.rest ++ more;
  said = more_rest lines more (played_meanings (halts.played ++ halts.last ∷ [])) halts.rest halts.said;
  runs_on = halts.runs_on;
  written = halts.written;
}
halted_before run halt.Memory lines more state halts = record {
  played = halts.played;
  rest = halts.rest ++ more;
  said = more_rest lines more (played_meanings halts.played) halts.rest halts.said;
  written = halts.written;
}
halted_before run halt.Rejected lines more state halts = absurd halts

-- equal lines were played
pub lines_named : (run : Run) (lines others : List ScriptLine) (player : Player) (state : SinkState) → lines ≡ others → HasPlayedLines run lines player state
    → HasPlayedLines run others player state
lines_named run lines others player state is plays = subst (λ (ls : List ScriptLine). HasPlayedLines run ls player state) is plays

pub halts_named : (run : Run) (reason : Halt) (lines others : List ScriptLine) (state : SinkState) → lines ≡ others → HaltsInScript run reason lines state
    → HaltsInScript run reason others state
halts_named run reason lines others state is halts = subst (λ (ls : List ScriptLine). HaltsInScript run reason ls state) is halts

-- the lines of a step come first of those that are left
pub step_first : (old new : List ScriptLine) (step : SheetStep) → TakesStep old (Some step) new → old ≡ step_lines step ++ new
step_first old new (Ticks count) takes = takes.1.1
step_first old new (Line tag text) takes = takes

ticks_in-replicate : (count : ℕ) → ticks_in (replicate count (script.Ticks 1)) ≡ count
ticks_in-replicate zero = refl
ticks_in-replicate (suc count) =
    let more : 1 + count ≡ suc count = omega arith in
    sum_by-cons ticks_of (script.Ticks 1) (replicate count (script.Ticks 1)) ∙ ap (λ n. 1 + n) (ticks_in-replicate count) ∙ more

step_ticks-in : (step : SheetStep) → ticks_in (step_lines step) ≡ step_ticks step
step_ticks-in (Ticks count) = ticks_in-replicate count
step_ticks-in (Line tag text) = refl

-- the ticks of the lines are those of the step and of the lines that are left
pub ticks_left : (old new : List ScriptLine) (step : SheetStep) → TakesStep old (Some step) new → ticks_in old ≡ step_ticks step + ticks_in new
ticks_left old new step takes =
    ap ticks_in (step_first old new step takes) ∙ sum_by-append ticks_of (step_lines step) new ∙ ap (λ n. n + ticks_in new) (step_ticks-in step)

step_some : (old new : List ScriptLine) (step : SheetStep) → TakesStep old (Some step) new → 1 ≤ length (step_lines step)
step_some old new (Ticks count) takes = let size = length-replicate count (script.Ticks 1) in omega (arith, size, takes.0)
step_some old new (Line tag text) takes = omega arith

pub step_shorter : (old new : List ScriptLine) (step : SheetStep) → TakesStep old (Some step) new → length new < length old
step_shorter old new step takes =
    let size = ap length (step_first old new step takes) ∙ length-append (step_lines step) new in
    let some = step_some old new step takes in
    omega (arith, size, some)

lines_apart : (xs ys : List ScriptLine) → AreLines (xs ++ ys) → AreLines xs × AreLines ys
lines_apart [] ys are = (tt, are)
lines_apart (x ∷ xs) ys are = let rest = lines_apart xs ys are.1 in ((are.0, rest.0), rest.1)

pub lines_left : (old new : List ScriptLine) (step : SheetStep) → TakesStep old (Some step) new → AreLines old → AreLines (step_lines step) × AreLines new
lines_left old new step takes are = lines_apart (step_lines step) new (subst AreLines (step_first old new step takes) are)

-- before the first step nothing was played
pub up_to_first : (run : Run) (whole : List ScriptLine) (player : Player) (state : SinkState) → HasPlayedLines run [] player state
    → HasPlayedUpTo run whole whole player state
up_to_first run whole player state had = record { lines = []; parts = refl; plays = had }

module _ (run : Run) (whole old new : List ScriptLine) (player : Player) (before after : SinkState) (upto : HasPlayedUpTo run whole old player before) where
  module _ (step : SheetStep) (takes : TakesStep old (Some step) new) where
    parts_after : whole ≡ (upto.lines ++ step_lines step) ++ new
    parts_after =
        upto.parts ∙ ap (λ (ls : List ScriptLine). upto.lines ++ ls) (step_first old new step takes) ∙ sym (append_assoc upto.lines (step_lines step) new)

    -- one step more was played
    pub up_to_next : (next : Player) → HasPlayedLines run (upto.lines ++ step_lines step) next after → HasPlayedUpTo run whole new next after
    up_to_next next plays = record { lines = upto.lines ++ step_lines step; parts = parts_after; plays = plays }

    -- the run stopped within a step
    pub halts_at_step : (reason : Halt) → HaltsInScript run reason (upto.lines ++ step_lines step) after → HaltsInScript run reason whole after
    halts_at_step reason halts =
        halts_named run reason _ _ after (sym parts_after) (halted_before run reason (upto.lines ++ step_lines step) new after halts)

  -- there was no memory for the next step
  pub no_memory_left : HaltsInScript run halt.Memory whole before
  no_memory_left = record {
    played = upto.plays.played;
    rest = old;
    said = upto.parts ∙ ap (λ (ls : List ScriptLine). ls ++ old) (sym upto.plays.said);
    written = upto.plays.written;
  }

  -- no step is left
  pub all_played : old ≡ [] → HasPlayedLines run whole player before
  all_played none =
      lines_named run upto.lines whole player before
      (sym (upto.parts ∙ ap (λ (ls : List ScriptLine). upto.lines ++ ls) none ∙ append-nil upto.lines)) upto.plays

-- the lines of a sheet are never rejected
pub never_rejected : (run : Run) (lines : List ScriptLine) (result : Result (Unit {0}) Halt) (player : Player) (state : SinkState) → PlaysLines run lines result player state
    → result ≢ Err halt.Rejected
never_rejected run lines (Ok done) player state plays = λ e. cc
never_rejected run lines (Err halt.Stop) player state plays = λ e. cc
never_rejected run lines (Err halt.Write) player state plays = λ e. cc
never_rejected run lines (Err halt.Memory) player state plays = λ e. cc
never_rejected run lines (Err halt.Rejected) player state plays = λ e. plays

-- the text of a step has no line end
pub text_of_step : (step : SheetStep) (tag : Tag) (text shown : List ℕ) → step ≡ Line tag text → shown ≡ text → AreLines (step_lines step)
    → list_any is_line_end shown ≡ false
text_of_step step tag text shown is same are =
    let all : AreLines (step_lines (Line tag text)) = subst (λ s. AreLines (step_lines s)) is are in
    ap (list_any is_line_end) same ∙ all.0
