-- A view that takes more bytes.
use Rattle.std.proofs.Common.{◌≡◌, ℕ, ◌+◌, ◌*◌, ◌<◌, ◌≤◌, true, false, List, ◌++◌, length, refl, sym, ap, ◌∙◌, subst, arith, append_assoc, length-append}
use Rattle.std.specs.Prelude.{Some, None, Result, Ok, Err, IfErr, IsErrAnd}
use Rattle.std.proofs.lemmas.Option.{none-some, same_Some}
use Rattle.play_outside.specs.SinkState.{SinkState}
use Rattle.history_model.specs.declared.limits.TheConstants.{MAX_INPUT_BYTES}
use Rattle.history_model.specs.scripts.History.{Playout}
use Rattle.server_setup.specs.declared.fault.RunFault.{RunFault}
use Rattle.server_setup.specs.declared.fault.RunFault.TheVariants as faults
use Rattle.script_player.specs.declared.ending.Ending.{Ending}
use Rattle.script_player.specs.declared.ending.Ending.TheVariants as ending
use Rattle.script_player.specs.declared.ending.Halt.{Halt}
use Rattle.script_player.specs.declared.ending.Halt.TheVariants as halt
use Rattle.script_player.specs.declared.script.Script.{Script}
use Rattle.script_player.specs.Ending.{ending_of, fault_of}
use Rattle.script_player.specs.Player.{IsReady, channels_in}
use Rattle.script_player.specs.Script.{Reading}
use Rattle.script_player.specs.Taken.{HaltsAt, HasTaken, StopsWith, TakesPiece}
use Rattle.script_player.specs.Ticks.{ticks_due, ticks_per_byte}
use Rattle.script_player.proofs.FailedWrites.{fails_rose}
use Rattle.live_view.specs.Faults.{RefusesLog}
use Rattle.live_view.specs.View.{GoesOn, HasPlayed, HasStopped, IsViewOf, ViewState, log_run, nowhere}

-- what a sink that keeps nothing has after the lines that were taken
pub taken_nowhere : (playout : Playout) (script : Script) (bytes : List ℕ) (state : SinkState) → HasTaken (log_run playout) script bytes state
    → HasTaken (log_run playout) script bytes nowhere
taken_nowhere playout script bytes state taken = subst (HasTaken (log_run playout) script bytes) taken.done.written taken

-- all bytes of a piece were taken
module _ (playout : Playout) (bytes piece : List ℕ) (old new : ViewState) (state : SinkState) (was : GoesOn playout bytes old) (ready : IsReady new.script.player)
    (due : ticks_due new.script ≤ ticks_due old.script + ticks_per_byte * length piece) (lines : new.script.lines ≤ old.script.lines + length piece)
    (left : new.left + length piece ≡ old.left) (takes : HasTaken (log_run playout) new.script (bytes ++ piece) state) where
  pub goes_on : GoesOn playout (bytes ++ piece) new
  goes_on =
      let ticks = was.ticks in
      let count = was.lines in
      let room = was.room in
      record {
        ready = ready;
        taken = taken_nowhere playout new.script (bytes ++ piece) state takes;
        ticks = omega (arith, due, ticks, left);
        lines = omega (arith, lines, count, left);
        room = (let all = length-append bytes piece in omega (arith, all, room, left));
      }

-- a run that ended within some bytes: its cause, and what was played
module _ (playout : Playout) (bytes : List ℕ) (script : Script) (state : SinkState) (part rest : List ℕ) (parts : bytes ≡ part ++ rest) (quiet : state.faults ≡ 0) where
  abbrev reading : Reading
  reading = record { bytes = part; ended = false }

  -- a run that ended well was stopped
  pub stops_by : (reason : Halt) → fault_of (ending_of reason script.lines) ≡ None → HaltsAt (log_run playout) reason script reading state
      → (ending_of reason script.lines ≡ ending.Stopped) × StopsWith (log_run playout) script.player reading state
  stops_by halt.Stop good halts = (refl, halts)
  stops_by halt.Rejected good halts = absurd (none-some (faults.BadLine (script.lines + 1)) (sym good))
  stops_by halt.Write good halts = absurd (none-some faults.Device (sym good))
  stops_by halt.Memory good halts = absurd (none-some faults.OutOfMemory (sym good))

  -- the fault of another
  pub refuses_by : (reason : Halt) (fault : RunFault) → Some fault ≡ fault_of (ending_of reason script.lines) → HaltsAt (log_run playout) reason script reading state
      → RefusesLog playout bytes fault
  refuses_by halt.Stop fault is halts = absurd (none-some fault (sym is))
  refuses_by halt.Rejected fault is halts =
      subst (RefusesLog playout bytes) (sym (same_Some fault (faults.BadLine (script.lines + 1)) is))
      (record { part = part; rest = rest; parts = parts; at = halts.at; rejected = halts.rejected; place = halts.place; memory = halts.memory refl })
  refuses_by halt.Write fault is halts =
      absurd (let rose = fails_rose _ nowhere state halts.written in omega (arith, rose, quiet))
  refuses_by halt.Memory fault is halts = subst (RefusesLog playout bytes) (sym (same_Some fault faults.OutOfMemory is)) tt

-- what a run that stops with a sink that keeps nothing has written
stops_nowhere : (playout : Playout) (script : Script) (reading : Reading) (state : SinkState) → StopsWith (log_run playout) script.player reading state
    → StopsWith (log_run playout) script.player reading nowhere
stops_nowhere playout script reading state stops = subst (StopsWith (log_run playout) script.player reading) stops.stops.written stops

module _ (playout : Playout) (bytes : List ℕ) (script : Script) (found : Ending) (state : SinkState) (quiet : state.faults ≡ 0) (takes : TakesPiece (log_run playout) (Err found) script bytes state) where
  -- a piece in which the run ended well has stopped it
  pub was_stopped : fault_of found ≡ None → found ≡ ending.Stopped
  was_stopped good =
      takes.1 ∙ (stops_by playout bytes script state takes.2.0 takes.2.1 takes.2.2 quiet takes.0 (ap fault_of (sym takes.1) ∙ good) takes.2.3).0

  pub has_stopped : (view : ViewState) → view.script ≡ script → fault_of found ≡ None → view.script.player.stage.channels ≡ channels_in view.script.player → HasStopped playout bytes view
  has_stopped view same good channels =
      let stops = (stops_by playout bytes script state takes.2.0 takes.2.1 takes.2.2 quiet takes.0 (ap fault_of (sym takes.1) ∙ good) takes.2.3).1 in
      record {
        part = takes.2.0;
        rest = takes.2.1;
        parts = takes.2.2;
        stops = subst (λ (s : Script). StopsWith (log_run playout) s.player (record { bytes = takes.2.0; ended = false }) nowhere) (sym same)
            (stops_nowhere playout script (record { bytes = takes.2.0; ended = false }) state stops);
        channels = channels;
      }

  -- the fault with which it ended is one of the bytes
  pub was_refused : (fault : RunFault) → Some fault ≡ fault_of found → RefusesLog playout bytes fault
  was_refused fault is =
      refuses_by playout bytes script state takes.2.0 takes.2.1 takes.2.2 quiet takes.0 fault (is ∙ ap fault_of takes.1) takes.2.3

-- bytes after a stop change nothing
pub passed_over : (playout : Playout) (bytes piece : List ℕ) (view : ViewState) → HasStopped playout bytes view → HasStopped playout (bytes ++ piece) view
passed_over playout bytes piece view ended = record {
  part = ended.part;
  rest = ended.rest ++ piece;
  parts = ap (λ (b : List ℕ). b ++ piece) ended.parts ∙ append_assoc ended.part ended.rest piece;
  stops = ended.stops;
  channels = ended.channels;
}

-- more bytes than are left are too many
pub too_many : (playout : Playout) (bytes piece : List ℕ) (view : ViewState) → GoesOn playout bytes view → view.left < length piece → MAX_INPUT_BYTES < length (bytes ++ piece)
too_many playout bytes piece view on more = (let all = length-append bytes piece in let room = on.room in omega (arith, all, room, more))

pub passed : (playout : Playout) (bytes piece : List ℕ) (view : ViewState) → view.stopped ≡ true → IsViewOf playout bytes view → IsViewOf playout (bytes ++ piece) view
passed playout bytes piece view stopped is = record {
  played = subst (λ b. HasPlayed b playout (bytes ++ piece) view) (sym stopped)
      (passed_over playout bytes piece view (subst (λ b. HasPlayed b playout bytes view) stopped is.played));
  frames = is.frames;
  workers = is.workers;
}

-- the fault that is handed on is one of the bytes
pub handed_on : {A : Type 0} (playout : Playout) (bytes : List ℕ) (fault : RunFault) (result : Result A RunFault) → IsErrAnd result (λ other. other ≡ fault) → RefusesLog playout bytes fault
    → IfErr result (λ other. RefusesLog playout bytes other)
handed_on playout bytes fault (Ok view) is refuses = tt
handed_on playout bytes fault (Err other) is refuses = subst (RefusesLog playout bytes) (sym is) refuses
