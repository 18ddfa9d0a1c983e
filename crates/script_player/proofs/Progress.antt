-- An input that is read piece by piece.
use Rattle.std.proofs.Common.{◌≡◌, ℕ, ◌+◌, ◌*◌, ◌≤◌, false, true, List, [], ◌++◌, length, refl, sym, ap, ◌∙◌, subst, arith, length-append}
use Rattle.std.specs.Prelude.{Ok, Err}
use Rattle.std.proofs.lemmas.Bool.{false≢true}
use Rattle.play_outside.specs.Faults.{Rose}
use Rattle.play_outside.specs.SourceState.{SourceState}
use Rattle.play_outside.specs.Source.{Consumes, Gives, IsAtEnd}
use Rattle.play_outside.specs.SinkState.{SinkState}
use Rattle.play_outside.proofs.Reading.{Consumes-then, Consumes-nil}
use Rattle.history_model.specs.declared.limits.TheConstants.{MAX_INPUT_BYTES}
use Rattle.history_model.specs.scripts.History.{Playout}
use Rattle.script_player.specs.declared.ending.Ending.{Ending}
use Rattle.script_player.specs.declared.ending.Ending.TheVariants.{Finished, Stopped, BadLine, TooLong, ReadFault, WriteFault, Memory}
use Rattle.script_player.specs.declared.player.Player.{Player}
use Rattle.script_player.specs.declared.script.Script.{Script}
use Rattle.script_player.specs.Script.{Reading, Run}
use Rattle.script_player.specs.Shown.{Shown}
use Rattle.script_player.specs.Run.{Streams, EndsAs, FaultsOf, RunsScript}
use Rattle.script_player.specs.Taken.{EndsWith, HasTaken, ReadsOn, RunsPlayer}
use Rattle.script_player.proofs.Growth.{reading_of}
use Rattle.script_player.proofs.Endings.{none_done, taken_done}
use Rattle.script_player.specs.Player.{IsReady}
use Rattle.script_player.specs.Ticks.{ticks_due, ticks_per_byte}

-- the run on a playout, with this display of ticks, after this output
abbrev pub run_from : Shown → Playout → SinkState → Run
run_from shown playout first = record { playout = playout; shown = shown; first = first }

-- what was read so far was taken, and `left` bytes more are allowed
pub record HasRead (shown : Shown) (playout : Playout) (script : Script) (left : ℕ) (before now : Streams) : Type 0 where
  pub read : List ℕ
  pub consumed : Consumes read before.input now.input
  pub taken : HasTaken (run_from shown playout before.out) script read now.out
  pub allowed : left + length read ≡ MAX_INPUT_BYTES
  pub ready : IsReady script.player
  pub ticks : ticks_due script ≤ ticks_per_byte * length read
  pub lines : script.lines ≤ length read

-- nothing was read yet
pub none_read : (shown : Shown) (playout : Playout) (script : Script) (before : Streams) → HasTaken (run_from shown playout before.out) script [] before.out → IsReady script.player → ticks_due script ≡ 0 → script.lines ≡ 0
    → HasRead shown playout script MAX_INPUT_BYTES before before
none_read shown playout script before taken ready ticks lines = record {
  read = [];
  consumed = Consumes-nil before.input;
  taken = taken;
  allowed = refl;
  ready = ready;
  ticks = omega (arith, ticks);
  lines = omega arith;
}

-- the run is out of memory before anything was read
pub nothing_read : (shown : Shown) (playout : Playout) (before : Streams) → RunsScript shown playout Memory before before
nothing_read shown playout before = record {
  reading = reading_of [] false;
  gives = (Consumes-nil before.input).gives;
  faults = refl;
  at_end = λ e. absurd (false≢true e);
  ends = (reading_of [] false, record { rest = []; parts = refl; at_end = λ e. absurd (false≢true e) }, none_done (run_from shown playout before.out));
}

module _ (shown : Shown) (playout : Playout) (script : Script) (left : ℕ) (before now : Streams) (so_far : HasRead shown playout script left before now) where
  -- one more piece was read and taken
  pub piece_read : (script' : Script) (rest : ℕ) (piece : List ℕ) (input : SourceState) (out : SinkState) → Consumes piece now.input input
      → IsReady script'.player → ticks_due script' ≤ ticks_due script + ticks_per_byte * length piece → script'.lines ≤ script.lines + length piece
      → ReadsOn (run_from shown playout before.out) (Ok rest) script' (so_far.read ++ piece) out
      → HasRead shown playout script' rest before (record { input = input; out = out })
  piece_read script' rest piece input out consumed ready ticks lines reads =
      let both = length-append so_far.read piece in
      let ticks_before = so_far.ticks in
      let lines_before = so_far.lines in
      record {
        read = so_far.read ++ piece;
        consumed = Consumes-then so_far.read piece before.input now.input input so_far.consumed consumed;
        taken = reads.1;
        allowed = reads.0;
        ready = ready;
        ticks = omega (arith, both, ticks_before, ticks);
        lines = omega arith;
      }

  -- the run ends in a piece that was read
  pub piece_ends : (script' : Script) (ending : Ending) (piece : List ℕ) (input : SourceState) (out : SinkState) → Consumes piece now.input input
      → ReadsOn (run_from shown playout before.out) (Err ending) script' (so_far.read ++ piece) out
      → RunsPlayer (run_from shown playout before.out) ending script'.player before.input (record { input = input; out = out })
  piece_ends script' ending piece input out consumed reads =
      let all = Consumes-then so_far.read piece before.input now.input input so_far.consumed consumed in
      record {
        reading = reading_of (so_far.read ++ piece) false;
        gives = all.gives;
        faults = subst (λ n. FaultsOf ending before.input.faults n) (sym all.faults) (reads.1 before.input.faults);
        at_end = λ e. absurd (false≢true e);
        ends = reads.0;
      }

  -- the end of the input is no fault of it
  faults_at_end : (ending : Ending) (player : Player) (out : SinkState) (faults : ℕ) → EndsWith (run_from shown playout before.out) ending player (reading_of so_far.read true) out → FaultsOf ending faults faults
  faults_at_end Finished player out faults ends = refl
  faults_at_end Stopped player out faults ends = refl
  faults_at_end (BadLine number) player out faults ends = refl
  faults_at_end TooLong player out faults ends = refl
  faults_at_end ReadFault player out faults ends = absurd (false≢true (sym ends.0))
  faults_at_end WriteFault player out faults ends = refl
  faults_at_end Memory player out faults ends = refl

  -- the input ended
  pub input_ended : (ending : Ending) (player : Player) (input : SourceState) (out : SinkState) → IsAtEnd now.input → input ≡ now.input
      → EndsWith (run_from shown playout before.out) ending player (reading_of so_far.read true) out
      → RunsPlayer (run_from shown playout before.out) ending player before.input (record { input = input; out = out })
  input_ended ending player input out at_end same ends = record {
    reading = reading_of so_far.read true;
    gives = subst (λ (s : SourceState). Gives so_far.read before.input.left s.left) (sym same) so_far.consumed.gives;
    faults = subst (λ n. FaultsOf ending before.input.faults n) (sym (ap (λ (s : SourceState). s.faults) same ∙ so_far.consumed.faults))
        (faults_at_end ending player out before.input.faults ends);
    at_end = λ e. subst IsAtEnd (sym same) at_end;
    ends = ends;
  }

  -- a read of the input failed
  pub read_failed : (input : SourceState) → input.left ≡ now.input.left → Rose now.input.faults input.faults
      → RunsPlayer (run_from shown playout before.out) ReadFault script.player before.input (record { input = input; out = now.out })
  read_failed input same rose =
      let allowed = so_far.allowed in
      record {
        reading = reading_of so_far.read false;
        gives = subst (λ l. Gives so_far.read before.input.left l) (sym same) so_far.consumed.gives;
        faults = subst (λ n. Rose n input.faults) so_far.consumed.faults rose;
        at_end = λ e. absurd (false≢true e);
        ends = (refl, omega (arith, allowed), taken_done (run_from shown playout before.out) script so_far.read now.out so_far.taken);
      }

-- how a run ended, whatever player it leaves
ends_as : (run : Run) (ending : Ending) (player : Player) (reading : Reading) (state : SinkState) → EndsWith run ending player reading state → EndsAs run ending reading state
ends_as run Finished player reading state ends = ends.ends
ends_as run Stopped player reading state ends = (ends.0, ends.1, ends.2.stops)
ends_as run (BadLine number) player reading state ends = ends
ends_as run TooLong player reading state ends = ends
ends_as run ReadFault player reading state ends = ends
ends_as run WriteFault player reading state ends = ends
ends_as run Memory player reading state ends = ends

pub runs_script : (shown : Shown) (playout : Playout) (ending : Ending) (player : Player) (before after : Streams)
    → RunsPlayer (run_from shown playout before.out) ending player before.input after → RunsScript shown playout ending before after
runs_script shown playout ending player before after runs = record {
  reading = runs.reading;
  gives = runs.gives;
  faults = runs.faults;
  at_end = runs.at_end;
  ends = ends_as (run_from shown playout before.out) ending player runs.reading after.out runs.ends;
}
