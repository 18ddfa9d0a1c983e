-- The frames that are recorded tick by tick are those of the film.
use Rattle.std.proofs.Common.{◌≡◌, ℕ, zero, suc, ◌+◌, ◌-◌, ◌<◌, ◌≤◌, ◌==◌, min, Bool, true, false, cond, List, [], ◌∷◌, ◌++◌, map, refl, sym, ap, ap₂, ◌∙◌, subst, append_assoc, append-nil, arith}
use Rattle.std.specs.Prelude.{Option, Some, None, option_and_then, unwrap_or, flat_map}
use Rattle.std.specs.List.{range_with_len}
use Rattle.std.proofs.lemmas.Bool.Decides.{nat_tests}
use Rattle.std.proofs.lemmas.Grind.{flat_map-append}
use Rattle.std.proofs.lemmas.Option.{none-some, same_Some}
use Rattle.play_types.specs.History.{ticks}
use Rattle.play_types.specs.declared.clip.TheConstants.{MAX_FRAMES}
use Rattle.play_types.specs.declared.command.Cmd.{Cmd}
use Rattle.play_types.specs.declared.event.Event.{Event}
use Rattle.play_types.specs.declared.event.Event.TheVariants.{Do, Batch, Tick, Stop}
use Rattle.play_types.proofs.Histories.{ticks-append}
use Rattle.history_model.specs.pictures.Media.{Setup}
use Rattle.history_model.specs.recordings.Film.{Begun, Span, accepted_after, accepted_commands, accepted_of, before_tick, begun_by, begun_in, commands_of, film_span, filmed, first_mark, is_mark_of, span_of, span_to}
use Rattle.history_model.specs.scripts.Output.{raw_frame}
use Rattle.history_model.specs.stage.Act.{Act, act_after}
use Rattle.history_model.specs.stage.Acts.{is_refused}
use Rattle.play_recorder.specs.Recording.{is_recorded, recorded_after, recorded_at}

-- the events before the tick that follows `past` are `past`
before_tick-here : (past later : List Event) → before_tick (past ++ Tick ∷ later) (ticks past) ≡ past
before_tick-here [] later = refl
before_tick-here (Do tag cmd ∷ past) later = ap (λ events. Do tag cmd ∷ events) (before_tick-here past later)
before_tick-here (Batch tag cmds ∷ past) later = ap (λ events. Batch tag cmds ∷ events) (before_tick-here past later)
before_tick-here (Tick ∷ past) later =
    ap (before_tick (Tick ∷ (past ++ Tick ∷ later))) (let same : 1 + ticks past ≡ suc (ticks past) = omega arith in same)
    ∙ ap (λ events. Tick ∷ events) (before_tick-here past later)
before_tick-here (Stop tag ∷ past) later = ap (λ events. Stop tag ∷ events) (before_tick-here past later)

module _ (setup : Setup) (span : Span) where
  -- the frame of the tick after `count` ticks of a history, and what is recorded of it
  abbrev frame : List Event → ℕ → List ℕ
  frame history count = raw_frame setup (before_tick history count) span.channel

  abbrev piece : List Event → ℕ → List ℕ
  piece history count = cond (is_recorded span count) (frame history count) []

  -- the pieces of `count` ticks, the first of which comes after `first` ticks
  abbrev pieces : List Event → ℕ → ℕ → List ℕ
  pieces history first count = flat_map (piece history) (range_with_len first count)

  -- at an event that is no tick nothing is recorded
  past_other : (past : List Event) (event : Event) (later : List Event) → ticks (event ∷ []) ≡ 0
      → recorded_after setup span (past ++ event ∷ []) later ≡ pieces ((past ++ event ∷ []) ++ later) (ticks (past ++ event ∷ [])) (ticks later)
      → recorded_after setup span (past ++ event ∷ []) later ≡ pieces (past ++ event ∷ later) (ticks past) (ticks later)
  past_other past event later still rest =
      rest
      ∙ ap (λ history. pieces history (ticks (past ++ event ∷ [])) (ticks later)) (append_assoc past (event ∷ []) later)
      ∙ ap (λ first. pieces (past ++ event ∷ later) first (ticks later))
      (let same : ticks (past ++ event ∷ []) ≡ ticks past = omega (arith, ticks-append past (event ∷ []), still) in same)

  -- at a tick its piece is recorded
  past_tick : (past later : List Event)
      → recorded_after setup span (past ++ Tick ∷ []) later ≡ pieces ((past ++ Tick ∷ []) ++ later) (ticks (past ++ Tick ∷ [])) (ticks later)
      → recorded_at setup span past Tick ++ recorded_after setup span (past ++ Tick ∷ []) later ≡ pieces (past ++ Tick ∷ later) (ticks past) (1 + ticks later)
  past_tick past later rest =
      ap₂ (λ (one more : List ℕ). one ++ more)
      (ap (λ (events : List Event). cond (is_recorded span (ticks past)) (raw_frame setup events span.channel) []) (sym (before_tick-here past later)))
      (rest
      ∙ ap (λ history. pieces history (ticks (past ++ Tick ∷ [])) (ticks later)) (append_assoc past (Tick ∷ []) later)
      ∙ ap (λ first. pieces (past ++ Tick ∷ later) first (ticks later))
      (let same : ticks (past ++ Tick ∷ []) ≡ ticks past + 1 = omega (arith, ticks-append past (Tick ∷ [])) in same))
      ∙ ap (pieces (past ++ Tick ∷ later) (ticks past)) (let same : suc (ticks later) ≡ 1 + ticks later = omega arith in same)

  recorded_in_pieces : (past later : List Event) → recorded_after setup span past later ≡ pieces (past ++ later) (ticks past) (ticks later)
  recorded_in_pieces past [] = refl
  recorded_in_pieces past (Do tag cmd ∷ later) = past_other past (Do tag cmd) later refl (recorded_in_pieces (past ++ Do tag cmd ∷ []) later)
  recorded_in_pieces past (Batch tag cmds ∷ later) = past_other past (Batch tag cmds) later refl (recorded_in_pieces (past ++ Batch tag cmds ∷ []) later)
  recorded_in_pieces past (Tick ∷ later) = past_tick past later (recorded_in_pieces (past ++ Tick ∷ []) later)
  recorded_in_pieces past (Stop tag ∷ later) = past_other past (Stop tag) later refl (recorded_in_pieces (past ++ Stop tag ∷ []) later)

  -- ticks none of which is recorded, and ticks all of which are
  pieces_none : (history : List Event) (first count : ℕ) → ((k : ℕ) → first ≤ k → k < first + count → is_recorded span k ≡ false) → pieces history first count ≡ []
  pieces_none history first zero each = refl
  pieces_none history first (suc count) each =
      rw (each first (omega arith) (omega arith))
      (pieces_none history (first + 1) count (λ k low high. each k (omega (arith, low)) (omega (arith, high))))

  pieces_all : (history : List Event) (first count : ℕ) → ((k : ℕ) → first ≤ k → k < first + count → is_recorded span k ≡ true)
      → pieces history first count ≡ flat_map (frame history) (range_with_len first count)
  pieces_all history first zero each = refl
  pieces_all history first (suc count) each =
      rw (each first (omega arith) (omega arith))
      (ap (λ more. frame history first ++ more) (pieces_all history (first + 1) count (λ k low high. each k (omega (arith, low)) (omega (arith, high)))))

  range-append : (first m n : ℕ) → range_with_len first (m + n) ≡ range_with_len first m ++ range_with_len (first + m) n
  range-append first zero n =
      ap₂ range_with_len (let same : first ≡ first + 0 = omega arith in same) (let same : 0 + n ≡ n = omega arith in same)
  range-append first (suc m) n =
      ap (range_with_len first) (let same : suc m + n ≡ suc (m + n) = omega arith in same)
      ∙ ap (λ more. first ∷ more) (range-append (first + 1) m n
      ∙ ap (λ k. range_with_len (first + 1) m ++ range_with_len k n) (let same : first + 1 + m ≡ first + suc m = omega arith in same))

  pieces-append : (history : List Event) (first m n : ℕ) → pieces history first (m + n) ≡ pieces history first m ++ pieces history (first + m) n
  pieces-append history first m n =
      ap (flat_map (piece history)) (range-append first m n) ∙ flat_map-append (piece history) (range_with_len first m) (range_with_len (first + m) n)

  before_first : (k : ℕ) → k < span.first → is_recorded span k ≡ false
  before_first k low = grind (arith, nat_tests)

  after_last : (k : ℕ) → span.first + span.frames ≤ k → is_recorded span k ≡ false
  after_last k high = grind (arith, nat_tests)

  among : (k : ℕ) → span.first ≤ k → k < span.first + span.frames → is_recorded span k ≡ true
  among k low high = grind (arith, nat_tests)

  -- the ticks of a history are those before the recorded ones, these, and those after them
  recorded_whole : (history : List Event) → span.first + span.frames ≤ ticks history
      → recorded_after setup span [] history ≡ flat_map (frame history) (range_with_len span.first span.frames)
  recorded_whole history within =
      let left = ticks history - (span.first + span.frames) in
      let parts : ticks history ≡ span.first + (span.frames + left) = omega (arith, within) in
      recorded_in_pieces [] history
      ∙ ap (pieces history 0) parts
      ∙ pieces-append history 0 span.first (span.frames + left)
      ∙ ap₂ (λ (none more : List ℕ). none ++ more)
      (pieces_none history 0 span.first (λ k low high. before_first k (omega (arith, high))))
      (ap (λ first. pieces history first (span.frames + left)) (let same : 0 + span.first ≡ span.first = omega arith in same)
      ∙ pieces-append history span.first span.frames left
      ∙ ap₂ (λ (all none : List ℕ). all ++ none)
      (pieces_all history span.first span.frames among)
      (pieces_none history (span.first + span.frames) left (λ k low high. after_last k low))
      ∙ append-nil (flat_map (frame history) (range_with_len span.first span.frames)))

-- each command of a history comes after no more ticks than the history has
abbrev AreWithin : ℕ → List Act → Type 0
AreWithin total [] = Unit {0}
AreWithin total (act ∷ acts) = (act.ticks ≤ total) × AreWithin total acts

within-append : (total : ℕ) (xs ys : List Act) → AreWithin total xs → AreWithin total ys → AreWithin total (xs ++ ys)
within-append total [] ys first rest = rest
within-append total (act ∷ xs) ys first rest = (first.0, within-append total xs ys first.1 rest)

commands_within : (total now : ℕ) (cmds : List Cmd) → now ≤ total → AreWithin total (map (act_after now) cmds)
commands_within total now [] low = tt
commands_within total now (cmd ∷ cmds) low = (low, commands_within total now cmds low)

accepted_within : (total : ℕ) (past : List Event) (event : Event) → ticks past ≤ total → AreWithin total (accepted_of past event)
accepted_within total past event low = by_test (is_refused past event)
  where
    by_test : (b : Bool) → AreWithin total (cond b [] (map (act_after (ticks past)) (commands_of event)))
    by_test true = tt
    by_test false = commands_within total (ticks past) (commands_of event) low

after_within : (total : ℕ) (past later : List Event) → ticks past + ticks later ≤ total → AreWithin total (accepted_after past later)
after_within total past [] low = tt
after_within total past (event ∷ later) low =
    let one = ticks-append (event ∷ []) later in
    let more = ticks-append past (event ∷ []) in
    within-append total (accepted_of past event) (accepted_after (past ++ event ∷ []) later)
    (accepted_within total past event (omega (arith, low)))
    (after_within total (past ++ event ∷ []) later (omega (arith, low, one, more)))

-- a recording ends after no more ticks than the history has
mark_within : (total channel : ℕ) (acts : List Act) → AreWithin total acts → unwrap_or (first_mark channel acts) total ≤ total
mark_within total channel [] within = omega arith
mark_within total channel (act ∷ acts) within = by_test (mark_within total channel acts within.1) (is_mark_of channel act.cmd)
  where
    by_test : unwrap_or (first_mark channel acts) total ≤ total → (b : Bool) → unwrap_or (cond b (Some act.ticks) (first_mark channel acts)) total ≤ total
    by_test rest true = within.0
    by_test rest false = rest

abbrev EndsWithin : ℕ → Option Begun → Type 0
EndsWithin total None = Unit {0}
EndsWithin total (Some begun) = unwrap_or begun.end total ≤ total

begun_within : (total : ℕ) (name : List ℕ) (acts : List Act) → AreWithin total acts → EndsWithin total (begun_in name acts)
begun_within total name [] within = tt
begun_within total name (act ∷ acts) within = by_channel (begun_within total name acts within.1) (begun_by name act.cmd)
  where
    by_channel : EndsWithin total (begun_in name acts) → (found : Option ℕ) →
        EndsWithin total (elim found [
          | None ↦ begun_in name acts
          | Some channel ↦ Some (record { channel = channel; first = act.ticks; end = first_mark channel acts })
        ])
    by_channel rest None = rest
    by_channel rest (Some channel) = mark_within total channel acts within.1

span_to-within : (channel first end : ℕ) (span : Span) → span_to channel first end ≡ Some span → span.first + span.frames ≤ end
span_to-within channel first end span found = by_test (end - first == 0) refl found
  where
    by_test : (b : Bool) → (end - first == 0) ≡ b
        → cond b None (Some (record { channel = channel; first = first; frames = min MAX_FRAMES (end - first) })) ≡ Some span → span.first + span.frames ≤ end
    by_test true is h = absurd (none-some span h)
    by_test false is h =
        let low : 1 ≤ end - first = grind (arith, nat_tests) in
        subst (λ (one : Span). one.first + one.frames ≤ end) (same_Some _ span h) (omega (arith, low))

span_within : (total : ℕ) (begun : Option Begun) (span : Span) → EndsWithin total begun → option_and_then (span_of total) begun ≡ Some span
    → span.first + span.frames ≤ total
span_within total None span within found = absurd (none-some span found)
span_within total (Some begun) span within found =
    omega (arith, span_to-within begun.channel begun.first (unwrap_or begun.end total) span found, within)

pub film_within : (history : List Event) (name : List ℕ) (span : Span) → film_span history name ≡ Some span → span.first + span.frames ≤ ticks history
unfolding film_span accepted_commands
film_within history name span found =
    span_within (ticks history) (begun_in name (accepted_after [] history)) span
    (begun_within (ticks history) name (accepted_after [] history) (after_within (ticks history) [] history (omega arith))) found

pub film_recorded : (setup : Setup) (history : List Event) (name : List ℕ) (span : Span) → film_span history name ≡ Some span
    → recorded_after setup span [] history ≡ (filmed setup history span).bytes
unfolding filmed
film_recorded setup history name span found = recorded_whole setup span history (film_within history name span found)
