-- The bytes of a film are those that the output of its channel took at the recorded ticks.
use Rattle.std.proofs.Common.{◌≡◌, ℕ, zero, suc, ◌+◌, ◌-◌, ◌≤◌, false, true≢false, List, [], ◌∷◌, ◌++◌, refl, sym, ap, ap₂, subst, ◌∙◌, append_assoc, append-nil, arith}
use Rattle.std.specs.Prelude.{flat_map}
use Rattle.std.specs.List.{range_with_len}
use Rattle.std.proofs.lemmas.Grind.{flat_map-append}
use mathlib.Core.List.{IsPrefix}
use Rattle.play_types.specs.History.{ticks}
use Rattle.play_types.specs.declared.event.Event.{Event}
use Rattle.play_types.specs.declared.event.Event.TheVariants.{Do, Batch, Tick, Stop}
use Rattle.play_types.proofs.Histories.{ticks-append}
use Rattle.history_model.specs.pictures.Media.{Setup}
use Rattle.history_model.specs.recordings.Film.{Span, before_tick, filmed}
use Rattle.play_ticker.specs.Frames.{frames_text, is_tick, raw_frame}
use Rattle.play_ticker.specs.Outputs.{AllTakeFrames, AreWritten, Shown}
use Rattle.play_ticker.specs.declared.ending.TickEnd.{TickEnd}
use Rattle.play_ticker.specs.declared.ending.TickEnd.TheVariants.{ClockClosed, Ended, TicksOver, ClockFault, OutFault}
use Rattle.play_ticker.proofs.Frames.{frames_text-quiet, frames_text-tick, goes_on_by_stop}
use Rattle.play_outside.specs.SinkState.{SinkState}
use Rattle.play_server.specs.Program.{AtSite, program_of}
use Rattle.server_run.specs.Run.{is_tick_fault, setup_of}
use Rattle.server_run.specs.Devices.{DeviceStates}
use Rattle.play_server.specs.Statuses.{HasServedClients}
use Rattle.server_run.specs.declared.served.ServeEnd.TheVariants as serve
use Rattle.play_server.proofs.ADeviceFails.{no_faults}

-- the events before a tick, and those from it on
record IsSplit (history : List Event) (count : ℕ) : Type 0 where
  later : List Event
  whole : before_tick history count ++ later ≡ history
  passed : ticks (before_tick history count) ≡ count

split_at : (history : List Event) (count : ℕ) → count ≤ ticks history → IsSplit history count
split_at [] zero few = record { later = []; whole = refl; passed = refl }
split_at [] (suc count) few = absurd (omega (arith, few))
split_at (Do tag cmd ∷ rest) count few =
    let next = split_at rest count few in
    record { later = next.later; whole = ap (λ (events : List Event). Do tag cmd ∷ events) next.whole; passed = next.passed }
split_at (Batch tag cmds ∷ rest) count few =
    let next = split_at rest count few in
    record { later = next.later; whole = ap (λ (events : List Event). Batch tag cmds ∷ events) next.whole; passed = next.passed }
split_at (Tick ∷ rest) zero few = record { later = Tick ∷ rest; whole = refl; passed = refl }
split_at (Tick ∷ rest) (suc count) few =
    let next = split_at rest count (omega (arith, few)) in
    record { later = next.later; whole = ap (λ (events : List Event). Tick ∷ events) next.whole; passed = omega (arith, next.passed) }
split_at (Stop tag ∷ rest) count few =
    let next = split_at rest count few in
    record { later = next.later; whole = ap (λ (events : List Event). Stop tag ∷ events) next.whole; passed = next.passed }

-- the events before a tick in a history are those that come before it
before_tick-here : (past later : List Event) → before_tick (past ++ Tick ∷ later) (ticks past) ≡ past
before_tick-here [] later = refl
before_tick-here (Do tag cmd ∷ past) later = ap (λ (events : List Event). Do tag cmd ∷ events) (before_tick-here past later)
before_tick-here (Batch tag cmds ∷ past) later = ap (λ (events : List Event). Batch tag cmds ∷ events) (before_tick-here past later)
before_tick-here (Tick ∷ past) later =
    ap (before_tick (Tick ∷ (past ++ Tick ∷ later))) (let same : 1 + ticks past ≡ suc (ticks past) = omega arith in same)
    ∙ ap (λ (events : List Event). Tick ∷ events) (before_tick-here past later)
before_tick-here (Stop tag ∷ past) later = ap (λ (events : List Event). Stop tag ∷ events) (before_tick-here past later)

range-append : (first m n : ℕ) → range_with_len first (m + n) ≡ range_with_len first m ++ range_with_len (first + m) n
range-append first zero n =
    ap₂ range_with_len (let same : first ≡ first + 0 = omega arith in same) (let same : 0 + n ≡ n = omega arith in same)
range-append first (suc m) n =
    ap (range_with_len first) (let same : suc m + n ≡ suc (m + n) = omega arith in same)
    ∙ ap (λ (more : List ℕ). first ∷ more) (range-append (first + 1) m n
    ∙ ap (λ (k : ℕ). range_with_len (first + 1) m ++ range_with_len k n) (let same : first + 1 + m ≡ first + suc m = omega arith in same))

module _ (setup : Setup) (channel : ℕ) where
  abbrev text : List Event → List ℕ
  text history = frames_text setup history channel

  -- the frame of the tick that follows `count` ticks of a history, and the frames of `count` ticks from one on
  abbrev frame : List Event → ℕ → List ℕ
  frame history count = raw_frame setup (before_tick history count) channel

  abbrev shown : List Event → ℕ → ℕ → List ℕ
  shown history first count = flat_map (frame history) (range_with_len first count)

  -- an event that is no tick shows nothing
  past_other : (past : List Event) (event : Event) (later : List Event) → is_tick event ≡ false → ticks (event ∷ []) ≡ 0
      → text ((past ++ event ∷ []) ++ later) ≡ text (past ++ event ∷ []) ++ shown ((past ++ event ∷ []) ++ later) (ticks (past ++ event ∷ [])) (ticks later)
      → text (past ++ event ∷ later) ≡ text past ++ shown (past ++ event ∷ later) (ticks past) (ticks later)
  past_other past event later other still rest =
      let history = append_assoc past (event ∷ []) later in
      let same : ticks (past ++ event ∷ []) ≡ ticks past = omega (arith, ticks-append past (event ∷ []), still) in
      ap text (sym history)
      ∙ rest
      ∙ ap₂ (λ (one more : List ℕ). one ++ more)
      (frames_text-quiet setup channel past (past ++ event ∷ []) (goes_on_by_stop past event other))
      (ap (λ (events : List Event). shown events (ticks (past ++ event ∷ [])) (ticks later)) history
      ∙ ap (λ (first : ℕ). shown (past ++ event ∷ later) first (ticks later)) same)

  -- a tick shows its frame
  past_tick : (past later : List Event)
      → text ((past ++ Tick ∷ []) ++ later) ≡ text (past ++ Tick ∷ []) ++ shown ((past ++ Tick ∷ []) ++ later) (ticks (past ++ Tick ∷ [])) (ticks later)
      → text (past ++ Tick ∷ later) ≡ text past ++ shown (past ++ Tick ∷ later) (ticks past) (1 + ticks later)
  past_tick past later rest =
      let history = append_assoc past (Tick ∷ []) later in
      let same : ticks (past ++ Tick ∷ []) ≡ ticks past + 1 = omega (arith, ticks-append past (Tick ∷ [])) in
      let here : raw_frame setup past channel ≡ frame (past ++ Tick ∷ later) (ticks past) = ap (λ (events : List Event). raw_frame setup events channel) (sym (before_tick-here past later)) in
      ap text (sym history)
      ∙ rest
      ∙ ap₂ (λ (one more : List ℕ). one ++ more)
      (frames_text-tick setup channel past ∙ ap (λ (one : List ℕ). text past ++ one) here)
      (ap (λ (events : List Event). shown events (ticks (past ++ Tick ∷ [])) (ticks later)) history
      ∙ ap (λ (first : ℕ). shown (past ++ Tick ∷ later) first (ticks later)) same)
      ∙ append_assoc (text past) (frame (past ++ Tick ∷ later) (ticks past)) (shown (past ++ Tick ∷ later) (ticks past + 1) (ticks later))
      ∙ ap (λ (count : ℕ). text past ++ shown (past ++ Tick ∷ later) (ticks past) count) (let more : suc (ticks later) ≡ 1 + ticks later = omega arith in more)

  -- the frames of a history are those of its first events, and then those of the further ticks
  text_goes_on : (past later : List Event) → text (past ++ later) ≡ text past ++ shown (past ++ later) (ticks past) (ticks later)
  text_goes_on past [] = ap text (append-nil past) ∙ sym (append-nil (text past))
  text_goes_on past (Do tag cmd ∷ later) = past_other past (Do tag cmd) later refl refl (text_goes_on (past ++ Do tag cmd ∷ []) later)
  text_goes_on past (Batch tag cmds ∷ later) = past_other past (Batch tag cmds) later refl refl (text_goes_on (past ++ Batch tag cmds ∷ []) later)
  text_goes_on past (Tick ∷ later) = past_tick past later (text_goes_on (past ++ Tick ∷ []) later)
  text_goes_on past (Stop tag ∷ later) = past_other past (Stop tag) later refl refl (text_goes_on (past ++ Stop tag ∷ []) later)

  -- the frames of ticks from one on follow those of the events before
  shown_within : (history : List Event) (first count : ℕ) → first + count ≤ ticks history → IsPrefix (text (before_tick history first) ++ shown history first count) (text history)
  shown_within history first count few =
      let split = split_at history first (omega (arith, few)) in
      let past = before_tick history first in
      let parts : ticks history ≡ first + ticks split.later = omega (arith, ap ticks (sym split.whole), ticks-append past split.later, split.passed) in
      let rest = ticks split.later - count in
      let counted : ticks split.later ≡ count + rest = omega (arith, parts, few) in
      let all : text history ≡ text past ++ shown history first (ticks split.later) =
      ap text (sym split.whole) ∙ text_goes_on past split.later
      ∙ ap₂ (λ (events : List Event) (k : ℕ). text past ++ shown events k (ticks split.later)) split.whole split.passed in
      let apart : shown history first (ticks split.later) ≡ shown history first count ++ shown history (first + count) rest =
      ap (shown history first) counted ∙ ap (flat_map (frame history)) (range-append first count rest)
      ∙ flat_map-append (frame history) (range_with_len first count) (range_with_len (first + count) rest) in (
        shown history (first + count) rest,
        append_assoc (text past) (shown history first count) (shown history (first + count) rest) ∙ sym (all ∙ ap (λ (bytes : List ℕ). text past ++ bytes) apart),
      )

-- the bytes of a film follow the frames of the ticks before it
pub film_on_air : (setup : Setup) (history : List Event) (span : Span) → span.first + span.frames ≤ ticks history
    → IsPrefix (frames_text setup (before_tick history span.first) span.channel ++ (filmed setup history span).bytes) (frames_text setup history span.channel)
unfolding filmed
film_on_air setup history span few = shown_within setup span.channel history span.first span.frames few

-- the outputs took all frames, if none of them failed
all_taken : {O : Type 0} (state : O → SinkState) (end : TickEnd) (shown : Shown) (olds news : List O) → is_tick_fault end ≡ false → AreWritten state end shown olds news
    → AllTakeFrames state shown olds news
all_taken state ClockClosed shown olds news well written = written
all_taken state (Ended at) shown olds news well written = written
all_taken state TicksOver shown olds news well written = written
all_taken state ClockFault shown olds news well written = absurd (true≢false well)
all_taken state (OutFault failed) shown olds news well written = absurd (true≢false well)

-- in a run of the program that ended without a fault the outputs took all frames of its history
pub run_taken : {C D O L : Type 0} (device : DeviceStates C D O L) (tells : L → SinkState) (line : List (List ℕ)) (moments : AtSite C D O × AtSite C D O)
    (run : HasServedClients device tells line serve.Ended moments)
    → AllTakeFrames device.out (record { setup = setup_of (program_of run.setup); given = []; history = run.served.serves.history }) run.served.given.outs.items run.served.finished.outs.items
run_taken device tells line moments run =
    let serves = run.served.serves in
    let well = no_faults device tells (program_of run.setup) (run.served.given, run.served.finished) serves in
    subst (λ (history : List Event). AllTakeFrames device.out (record { setup = setup_of (program_of run.setup); given = []; history = history }) run.served.given.outs.items run.served.finished.outs.items)
    (sym serves.begins)
    (all_taken device.out serves.ticker _ run.served.given.outs.items run.served.finished.outs.items well.0 serves.outs)
