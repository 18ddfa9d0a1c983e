-- Ticks that are played as lines of their own, and written together.
use Rattle.std.proofs.Common.{◌≡◌, ℕ, zero, suc, ◌+◌, true, false, List, [], ◌∷◌, ◌++◌, replicate, refl, sym, ap, ap₂, ◌∙◌, subst, arith, append-nil, append_assoc}
use Rattle.std.specs.Prelude.{Result, Ok, Err, OnOk}
use Rattle.std.proofs.lemmas.List.{map-append}
use Rattle.play_types.specs.History.{ticks}
use Rattle.play_types.specs.declared.event.Event.{Event}
use Rattle.play_types.specs.declared.event.Event.TheVariants as event
use Rattle.play_outside.specs.SinkState.{SinkState, after_taking}
use Rattle.play_outside.specs.Sink.{Fails}
use Rattle.play_outside.proofs.Sending.{Fails-after, taken_more}
use Rattle.history_model.specs.scripts.Line.{ScriptLine}
use Rattle.history_model.specs.scripts.Line as script
use Rattle.history_model.specs.scripts.History.{Playout, PlayedLine, goes_on, script_events}
use Rattle.history_model.specs.scripts.Output.{script_output, tick_output, ticks_output}
use Rattle.history_model.proofs.Outputs.{goes_on-snoc, script_events-snoc, script_output-snoc, ticks_output-none}
use Rattle.script_player.specs.Playouts.{playout_of}
use Rattle.script_player.specs.Script.{Run, played_meanings}
use Rattle.script_player.specs.Shown.{Frames, shown_ticks}
use Rattle.script_player.specs.declared.ending.Halt.{Halt}
use Rattle.script_player.specs.declared.ending.Halt.TheVariants as halt
use Rattle.script_player.specs.declared.player.Player.{Player}
use Rattle.script_player.specs.Clients.{AreClients}
use Rattle.cue_player.specs.inner.Planned.{HaltsInScript, HasPlayedLines, PlaysLines}
use Rattle.script_player.specs.Player.{MakesEvents, WritesText, events_in, playout_in}
use Rattle.script_player.proofs.Connections.{clients_other}
use Rattle.script_player.proofs.Counting.{ticks-replicate, ticks_made}

-- a line of one tick
abbrev pub one_tick : PlayedLine
one_tick = record { line = script.Ticks 1; given_up = false; no_memory = false }

meanings-ticks : (count : ℕ) → played_meanings (replicate count one_tick) ≡ replicate count (script.Ticks 1)
meanings-ticks zero = refl
meanings-ticks (suc count) = ap (λ (ls : List ScriptLine). script.Ticks 1 ∷ ls) (meanings-ticks count)

replicate-snoc : {A : Type 0} (n : ℕ) (x : A) → replicate n x ++ x ∷ [] ≡ x ∷ replicate n x
replicate-snoc zero x = refl
replicate-snoc {A = A} (suc n) x = ap (λ (l : List A). x ∷ l) (replicate-snoc n x)

ticks_output-cons : (playout : Playout) (events : List Event) (count : ℕ)
    → ticks_output playout events (suc count) ≡ ticks_output playout events 1 ++ ticks_output playout (events ++ event.Tick ∷ []) count
unfolding ticks_output
ticks_output-cons playout events count =
    ap (λ (text : List ℕ). text ++ ticks_output playout (events ++ event.Tick ∷ []) count) (sym (append-nil (tick_output playout events)))

-- lines of one tick each, after others
module _ (playout : Playout) where
  goes_on-ticks : (played : List PlayedLine) (count : ℕ) → goes_on playout played ≡ true → goes_on playout (played ++ replicate count one_tick) ≡ true
  goes_on-ticks played zero on = ap (goes_on playout) (append-nil played) ∙ on
  goes_on-ticks played (suc count) on =
      ap (goes_on playout) (sym (append_assoc played (one_tick ∷ []) (replicate count one_tick)))
      ∙ goes_on-ticks (played ++ one_tick ∷ []) count (goes_on-snoc playout played one_tick on refl)

  -- each of these lines makes one tick
  events-ticks : (played : List PlayedLine) (count : ℕ) → goes_on playout played ≡ true
      → script_events playout (played ++ replicate count one_tick) ≡ script_events playout played ++ replicate count event.Tick
  events-ticks played zero on = ap (script_events playout) (append-nil played) ∙ sym (append-nil (script_events playout played))
  events-ticks played (suc count) on =
      ap (script_events playout) (sym (append_assoc played (one_tick ∷ []) (replicate count one_tick)))
      ∙ events-ticks (played ++ one_tick ∷ []) count (goes_on-snoc playout played one_tick on refl)
      ∙ ap (λ (es : List Event). es ++ replicate count event.Tick) (script_events-snoc playout played one_tick on)
      ∙ append_assoc (script_events playout played) (event.Tick ∷ []) (replicate count event.Tick)

  -- the text of these lines is that of `count` ticks
  output-ticks : (played : List PlayedLine) (count : ℕ) → goes_on playout played ≡ true
      → script_output playout (played ++ replicate count one_tick) ≡ script_output playout played ++ ticks_output playout (script_events playout played) count
  output-ticks played zero on =
      ap (script_output playout) (append-nil played) ∙ sym (append-nil (script_output playout played))
      ∙ ap (λ (text : List ℕ). script_output playout played ++ text) (sym (ticks_output-none playout (script_events playout played)))
  output-ticks played (suc count) on =
      let events = script_events playout played in
      ap (script_output playout) (sym (append_assoc played (one_tick ∷ []) (replicate count one_tick)))
      ∙ output-ticks (played ++ one_tick ∷ []) count (goes_on-snoc playout played one_tick on refl)
      ∙ ap₂ (λ (text : List ℕ) (es : List Event). text ++ ticks_output playout es count) (script_output-snoc playout played one_tick on) (script_events-snoc playout played one_tick on)
      ∙ append_assoc (script_output playout played) (ticks_output playout events 1) (ticks_output playout (events ++ event.Tick ∷ []) count)
      ∙ ap (λ (text : List ℕ). script_output playout played ++ text) (sym (ticks_output-cons playout events count))

  clients-ticks : (player : Player) (played : List PlayedLine) (count : ℕ) → AreClients playout player.clients.list.items played
      → AreClients playout player.clients.list.items (played ++ replicate count one_tick)
  clients-ticks player played zero are = subst (AreClients playout player.clients.list.items) (sym (append-nil played)) are
  clients-ticks player played (suc count) are =
      subst (AreClients playout player.clients.list.items) (append_assoc played (one_tick ∷ []) (replicate count one_tick))
      (clients-ticks player (played ++ one_tick ∷ []) count
      (clients_other playout player.clients.list.items played one_tick (λ tag. refl) are))

-- ticks after lines that were played
module _ (run : Run) (lines : List ScriptLine) (count : ℕ) (old new : Player) (before after : SinkState) (had : HasPlayedLines run lines old before) where
  said_ticks : (n : ℕ) → played_meanings (had.played ++ replicate n one_tick) ≡ lines ++ replicate n (script.Ticks 1)
  said_ticks n =
      map-append (λ (one : PlayedLine). one.line) had.played (replicate n one_tick)
      ∙ ap₂ (λ (a b : List ScriptLine). a ++ b) had.said (meanings-ticks n)

  text_is : shown_ticks Frames (playout_in old) (events_in old) count ≡ ticks_output run.playout (script_events run.playout had.played) count
  text_is = λ i. shown_ticks Frames (had.represents.on i) (had.represents.history i) count

  -- the ticks were played, each as a line
  ticks_each : MakesEvents (replicate count event.Tick) old new → after ≡ after_taking before (shown_ticks Frames (playout_in old) (events_in old) count)
      → HasPlayedLines run (lines ++ replicate count (script.Ticks 1)) new after
  ticks_each makes writes = record {
    played = had.played ++ replicate count one_tick;
    said = said_ticks count;
    runs_on = goes_on-ticks run.playout had.played count had.runs_on;
    represents = record {
      memory = makes.memory ∙ had.represents.memory;
      on = ap₂ playout_of makes.setup makes.digests ∙ had.represents.on;
      history = makes.history ∙ ap (λ (es : List Event). es ++ replicate count event.Tick) had.represents.history
          ∙ sym (events-ticks run.playout had.played count had.runs_on);
      clients = clients-ticks run.playout new had.played count
          (subst (λ k. AreClients run.playout k.list.items had.played) (sym makes.clients) had.represents.clients);
    };
    written = taken_more (script_output run.playout had.played) (ticks_output run.playout (script_events run.playout had.played) count) run.first before after had.written
        (writes ∙ ap (after_taking before) text_is)
        ∙ ap (after_taking run.first) (sym (output-ticks run.playout had.played count had.runs_on));
  }

-- a write of the text of the ticks failed
ticks_halted : (run : Run) (lines : List ScriptLine) (count : ℕ) (old : Player) (before after : SinkState) → HasPlayedLines run lines old before
    → Fails (shown_ticks Frames (playout_in old) (events_in old) count) before after
    → HaltsInScript run halt.Write (lines ++ replicate count (script.Ticks 1)) after
ticks_halted run lines zero old before after had fails =
    let text = text_is run lines zero old old before after had ∙ ticks_output-none run.playout (script_events run.playout had.played) in
    let none = subst (λ t. Fails t before after) text fails in
    absurd (let some = none.some_left in omega (arith, some))
ticks_halted run lines (suc n) old before after had fails =
    let playout = run.playout in
    let whole : (had.played ++ replicate n one_tick) ++ one_tick ∷ [] ≡ had.played ++ replicate (suc n) one_tick =
    append_assoc had.played (replicate n one_tick) (one_tick ∷ []) ∙ ap (λ (l : List PlayedLine). had.played ++ l) (replicate-snoc n one_tick) in
    let text = ticks_output playout (script_events playout had.played) (suc n) in
    record {
      played = had.played ++ replicate n one_tick;
      last = one_tick;
      rest = [];
      said = sym (said_ticks run lines (suc n) old old before after had (suc n)) ∙ ap played_meanings (sym whole)
          ∙ sym (append-nil (played_meanings ((had.played ++ replicate n one_tick) ++ one_tick ∷ [])));
      runs_on = goes_on-ticks playout had.played n had.runs_on;
      written = subst (λ t. Fails t run.first after) (sym (ap (script_output playout) whole ∙ output-ticks playout had.played (suc n) had.runs_on))
          (Fails-after (script_output playout had.played) text run.first after
          (subst (λ s. Fails text s after) had.written
          (subst (λ t. Fails t before after) (text_is run lines (suc n) old old before after had) fails)));
    }

-- ticks were played, each as a line, or a write failed
pub ticks_singly : (run : Run) (lines : List ScriptLine) (count : ℕ) (result : Result (Unit {0}) Halt) (old new : Player) (before after : SinkState)
    → HasPlayedLines run lines old before → OnOk result (MakesEvents (replicate count event.Tick) old new)
    → WritesText result (shown_ticks Frames (playout_in old) (events_in old) count) before after
    → PlaysLines run (lines ++ replicate count (script.Ticks 1)) result new after
ticks_singly run lines count (Ok done) old new before after had makes writes = ticks_each run lines count old new before after had makes writes
ticks_singly run lines count (Err halt.Write) old new before after had makes fails = ticks_halted run lines count old before after had fails
ticks_singly run lines count (Err halt.Memory) old new before after had makes never = absurd never
ticks_singly run lines count (Err halt.Stop) old new before after had makes never = absurd never
ticks_singly run lines count (Err halt.Rejected) old new before after had makes never = absurd never

-- `count` ticks were made
pub ticks_counted : (count : ℕ) (result : Result (Unit {0}) Halt) (old new : Player) → OnOk result (MakesEvents (replicate count event.Tick) old new)
    → OnOk result (ticks (events_in new) ≡ ticks (events_in old) + count)
ticks_counted count (Ok done) old new makes = ticks_made (replicate count event.Tick) old new makes ∙ ap (λ n. ticks (events_in old) + n) (ticks-replicate count)
ticks_counted count (Err reason) old new makes = tt
