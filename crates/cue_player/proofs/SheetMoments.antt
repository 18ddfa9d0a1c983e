-- The number of ticks before the lines of a sheet, and how its script ends.
use Rattle.std.proofs.Common.{◌≡◌, ℕ, ◌+◌, true, List, [], ◌∷◌, ◌++◌, length, refl, sym, ap, ap₂, ◌∙◌, subst, cond, zero-add, add_assoc, arith}
use Rattle.std.specs.Prelude.{Option, Some, None, Result, Ok, Err, map}
use Rattle.std.proofs.lemmas.List.{length-map, map-append}
use Rattle.std.proofs.lemmas.List.Sums.{sum_by-cons}
use Rattle.play_types.proofs.Histories.{ticks-append}
use Rattle.play_types.specs.History.{ticks}
use Rattle.play_types.specs.declared.event.Event.{Event}
use Rattle.play_types.specs.declared.event.Event.TheVariants as event
use Rattle.play_outside.specs.SinkState.{SinkState, after_taking}
use Rattle.history_model.specs.scripts.History.{Past, PlayedLine, Playout, Turn, Verdict, JournalFull, OutOfMemory, Taken, ends_at, events_after, events_at, goes_on, goes_on_after, said_step, script_events, step_events, turn_of, verdict, verdict_events}
use Rattle.history_model.specs.scripts.Line.{ScriptLine, Comment, Rejected, Said, Stop}
use Rattle.history_model.specs.scripts.Line as script
use Rattle.history_model.specs.sessions.Session.{Step, Local, Ask, AskBatch, KillServer, EndConnection, Skip}
use Rattle.history_model.proofs.Outputs.{first_goes_on, script_output-ended, script_output-snoc}
use Rattle.play_schedule.specs.SheetView.{SheetView}
use Rattle.play_schedule.specs.Unfolding.{script_of, ticks_in, ticks_of}
use Rattle.play_schedule.proofs.Timed.{ticks_before-timed, untimed-timed}
use Rattle.server_setup.specs.declared.fault.RunFault.{RunFault}
use Rattle.script_player.specs.Shown.{Frames}
use Rattle.cue_player.specs.Planning.{KeepsMoments}
use Rattle.script_player.specs.Script.{played_meanings}
use Rattle.script_player.specs.declared.ending.Halt.{Halt}
use Rattle.script_player.specs.declared.ending.Halt.TheVariants as halt
use Rattle.script_player.specs.declared.player.Player.{Player}
use Rattle.cue_player.specs.inner.Planned.{PlaysLines, SheetEnds, fault_of_lines}
use Rattle.script_player.proofs.Counting.{ticks-replicate}
use Rattle.script_player.proofs.Stops.{said-later, unplayed}

-- the events of a verdict have no tick
verdict_quiet : (one : Event) (found : Verdict) → ticks (one ∷ []) ≡ 0 → ticks (verdict_events one found) ≡ 0
verdict_quiet one JournalFull none = refl
verdict_quiet one OutOfMemory none = refl
verdict_quiet one Taken none = none

step_quiet : (turn : Turn) (step : Option Step) → ticks (step_events turn step) ≡ 0
step_quiet turn None = refl
step_quiet turn (Some (Local answer)) = refl
step_quiet turn (Some (Ask command)) = verdict_quiet (event.Do turn.tag command) (verdict turn 1) refl
step_quiet turn (Some (AskBatch commands)) = verdict_quiet (event.Batch turn.tag commands) (verdict turn (length commands)) refl
step_quiet turn (Some KillServer) = refl
step_quiet turn (Some EndConnection) = refl
step_quiet turn (Some Skip) = refl

-- a line makes the number of ticks that it names
line_ticks : (playout : Playout) (past : Past) (played : PlayedLine) (line : ScriptLine) → ticks (events_at playout past played line) ≡ ticks_of line
line_ticks playout past played Comment = refl
line_ticks playout past played (script.Ticks count) = ticks-replicate count
line_ticks playout past played (Said tag text) = step_quiet (turn_of playout past.events played tag) (said_step playout past.lines played tag)
line_ticks playout past played Stop = refl
line_ticks playout past played Rejected = refl

ticks_after : (playout : Playout) (past : Past) (lines : List PlayedLine) → goes_on_after playout past.lines lines ≡ true
    → ticks (events_after playout past lines) ≡ ticks past.events + ticks_in (played_meanings lines)
unfolding events_after goes_on_after
ticks_after playout past [] on = let none : ticks past.events ≡ ticks past.events + 0 = omega arith in none
ticks_after playout past (line ∷ lines) on =
    let here = past.events ++ events_at playout past line line.line in
    let next : Past = record { lines = past.lines ++ line ∷ []; events = here } in
    let parts = first_goes_on (ends_at playout past.lines line line.line) (goes_on_after playout (past.lines ++ line ∷ []) lines) on in
    ap (λ b. ticks (cond b here (events_after playout next lines))) parts.0
    ∙ ticks_after playout next lines parts.1
    ∙ ap (λ n. n + ticks_in (played_meanings lines)) (ticks-append past.events (events_at playout past line line.line) ∙ ap (λ n. ticks past.events + n) (line_ticks playout past line line.line))
    ∙ add_assoc (ticks past.events) (ticks_of line.line) (ticks_in (played_meanings lines))
    ∙ ap (λ n. ticks past.events + n) (sym (sum_by-cons ticks_of line.line (played_meanings lines)))

-- the history of lines has their ticks
pub ticks_of_lines : (playout : Playout) (lines : List PlayedLine) → goes_on playout lines ≡ true → ticks (script_events playout lines) ≡ ticks_in (played_meanings lines)
unfolding script_events goes_on
ticks_of_lines playout lines on = ticks_after playout (record { lines = []; events = [] }) lines on ∙ zero-add (ticks_in (played_meanings lines))

-- two beginnings of equal lists are equal if they have the same length
first_parts : (xs ys us vs : List ScriptLine) → length xs ≡ length us → xs ++ ys ≡ us ++ vs → xs ≡ us
first_parts [] ys [] vs size is = refl
first_parts [] ys (u ∷ us) vs size is = absurd (omega (arith, size))
first_parts (x ∷ xs) ys [] vs size is = absurd (omega (arith, size))
first_parts (x ∷ xs) ys (u ∷ us) vs size is =
    let parts = both x u (xs ++ ys) (us ++ vs) is in
    ap₂ (λ (y : ScriptLine) (zs : List ScriptLine). y ∷ zs) parts.0 (first_parts xs ys us vs (omega (arith, size)) parts.1)
  where
    both : (x u : ScriptLine) (rest others : List ScriptLine) → x ∷ rest ≡ u ∷ others → (x ≡ u) × (rest ≡ others)
    both x u rest others e = (cc, cc)

-- each line is played at its moment
pub moments_kept : (playout : Playout) (sheet : SheetView) (played : List PlayedLine) → played_meanings played ≡ script_of sheet → KeepsMoments playout sheet played
moments_kept playout sheet played said = λ earlier moment comes on.
    let without : List (ℕ × ScriptLine) → List ScriptLine = λ lines. map (λ (line : ℕ × ScriptLine). line.1) lines in
    let whole : played_meanings earlier ++ played_meanings comes.later ≡ without comes.before ++ without ((moment, comes.line) ∷ comes.after) =
    sym (map-append (λ (one : PlayedLine). one.line) earlier comes.later)
    ∙ ap played_meanings (sym comes.parts)
    ∙ said
    ∙ sym (untimed-timed sheet)
    ∙ ap without comes.due
    ∙ map-append (λ (line : ℕ × ScriptLine). line.1) comes.before ((moment, comes.line) ∷ comes.after) in
    let size : length (played_meanings earlier) ≡ length (without comes.before) =
    length-map earlier (λ (one : PlayedLine). one.line) ∙ comes.place ∙ sym (length-map comes.before (λ (line : ℕ × ScriptLine). line.1)) in
    ticks_of_lines playout earlier on
    ∙ ap ticks_in (first_parts (played_meanings earlier) (played_meanings comes.later) (without comes.before) (without ((moment, comes.line) ∷ comes.after)) size whole)
    ∙ ticks_before-timed sheet comes.before comes.after moment comes.line comes.due

-- how a sheet ends whose script was played
sheet_played : (playout : Playout) (sheet : SheetView) (result : Result (Unit {0}) Halt) (player : Player) (before after : SinkState)
    → PlaysLines (record { playout = playout; shown = Frames; first = before }) (script_of sheet) result player after → SheetEnds playout sheet (fault_of_lines result) before after
sheet_played playout sheet (Ok done) player before after had = record {
  played = had.played;
  said = had.said;
  moments = moments_kept playout sheet had.played had.said;
  written = had.written;
}
sheet_played playout sheet (Err halt.Stop) player before after halts =
    let said = said-later halts.played halts.last halts.rest ∙ sym halts.said in
    record {
      played = halts.played ++ halts.last ∷ unplayed halts.rest;
      said = said;
      moments = moments_kept playout sheet (halts.played ++ halts.last ∷ unplayed halts.rest) said;
      written = halts.written
          ∙ ap (after_taking before) (script_output-snoc playout halts.played halts.last halts.runs_on
          ∙ sym (script_output-ended playout halts.played halts.last (unplayed halts.rest) halts.runs_on halts.ends));
    }
sheet_played playout sheet (Err halt.Write) player before after halts = halts
sheet_played playout sheet (Err halt.Memory) player before after halts = halts
sheet_played playout sheet (Err halt.Rejected) player before after halts = absurd halts

pub sheet_ended : (playout : Playout) (sheet : SheetView) (result : Result (Unit {0}) Halt) (fault : Option RunFault) (player : Player) (before after : SinkState)
    → fault ≡ fault_of_lines result → PlaysLines (record { playout = playout; shown = Frames; first = before }) (script_of sheet) result player after
    → SheetEnds playout sheet fault before after
sheet_ended playout sheet result fault player before after is plays =
    subst (λ (f : Option RunFault). SheetEnds playout sheet f before after) (sym is) (sheet_played playout sheet result player before after plays)
