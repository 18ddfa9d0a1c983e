-- The texts of histories and of logs read back.
use Rattle.std.proofs.Common.{◌≡◌, ◌⊎◌, inl, inr, ℕ, ◌+◌, ◌≤◌, Bool, false, cond, eqb, List, [], ◌∷◌, ◌++◌, length, map, replicate, refl, sym, ap, ◌∙◌, subst, arith, append-nil, append_assoc, length-append}
use Rattle.std.specs.Prelude.{Option, Some, None, All}
use Rattle.std.specs.Str.Lines.{lines}
use Rattle.std.proofs.lemmas.Bool.{ne_eqb}
use Rattle.std.proofs.lemmas.List.{length-map, map-append, replicate-append-replicate}
use Rattle.std.proofs.lemmas.List.Elements.{All-head, All-tail}
use Rattle.std.proofs.lemmas.Option.{none-some}
use mathlib.Core.List.{IsPrefix}
use Rattle.play_types.specs.History.{IsHistory, held}
use Rattle.play_types.specs.declared.event.Event.{Event}
use Rattle.play_types.specs.declared.event.Event.TheVariants as event
use Rattle.play_types.proofs.Histories.{held-append}
use Rattle.history_model.specs.text.History.{history_text, joined_events, log_text}
use Rattle.history_model.specs.scripts.Input.{ended_lines, unended}
use Rattle.history_model.specs.scripts.Line.{ScriptLine, meaning}
use Rattle.history_model.specs.scripts.History.{Playout, PlayedLine, script_events}
use Rattle.history_model.specs.scripts.Memory.{with_memory}
use Rattle.history_model.specs.scripts.Output.{ticks_output}
use Rattle.history_model.proofs.Parts.{ended_lines-more, ended_lines-other, last_line, lines-ended, unended-other}
use Rattle.history_model.proofs.Prefixes.{script_events-later}
use Rattle.history_replay.specs.Replay.{IsPlayout, IsReplayable, script_of}
use Rattle.history_replay.specs.ReplayOutput.{event_output, events_output}
use Rattle.history_replay.proofs.Events.{batch_says, command_says, none_open}
use Rattle.history_replay.proofs.Histories.{events_output-ticks, has_room, held-next, joined, says_after}
use Rattle.history_replay.proofs.Lines.{tick_says}
use Rattle.history_replay.proofs.Pieces.{Says-pieces, all_first, all_last, log_playable, log_plays, says_pieces}
use Rattle.history_replay.proofs.Playing.{At-none}
use Rattle.history_replay.proofs.Printable.{IsPlayable}
use Rattle.history_replay.proofs.Says.{Says, Says-whole}
use Rattle.history_replay.proofs.Stops.{stop_says}
use Rattle.history_reader.specs.HistoryText.{events_before_stop, fault_after, faulty_line, text_events, text_lines, with_memory_for}
use Rattle.history_reader.proofs.FaultyLines.{fault_after-more}
use Rattle.history_reader.proofs.RightLines.{AreRight, RightRest, right_batch, right_command, right_stop, right_ticks}
use Rattle.history_reader.proofs.Stopped.{before_stop_first}
use Rattle.history_reader.proofs.Texts.{lines-more}

-- after some lines the run goes on, or it is over and nothing follows
abbrev RightUpTo : Playout → List Event → List PlayedLine → List Event → List ℕ → Type 0
RightUpTo playout rest before events output = RightRest playout before events output ⊎ ((rest ≡ []) × AreRight playout before)

none_last : (xs ys : List Event) → xs ++ ys ≡ [] → ys ≡ []
none_last [] ys none = none
none_last (x ∷ xs) ys none = absurd (cc)

none_first : (xs ys : List Event) → xs ++ ys ≡ [] → xs ≡ []
none_first [] ys none = refl
none_first (x ∷ xs) ys none = absurd (cc)

history_rest : (xs ys : List Event) → IsHistory (xs ++ ys) → IsHistory ys
history_rest [] ys whole = whole
history_rest (event.Do tag cmd ∷ xs) ys whole = history_rest xs ys whole
history_rest (event.Batch tag cmds ∷ xs) ys whole = history_rest xs ys whole.1
history_rest (event.Tick ∷ xs) ys whole = history_rest xs ys whole
history_rest (event.Stop tag ∷ xs) ys whole = subst IsHistory (sym (none_last xs ys whole)) tt

-- no line follows a stop
no_more : (playout : Playout) (lines : List PlayedLine) (said : ScriptLine) → AreRight playout (lines ++ with_memory said ∷ [])
    → AreRight playout (lines ++ with_memory said ∷ map with_memory (says_after playout.names 0 []))
unfolding tick_says
no_more playout lines said right = right

-- the lines of a piece
module _ (playout : Playout) (known : IsPlayout playout) (rest : List Event) where
  right_piece : (before : List PlayedLine) (events : List Event) (output : List ℕ) (count : ℕ) (later : List Event)
      → RightRest playout before events output → IsHistory (later ++ rest) → All (IsPlayable playout) later
      → held events + held (later ++ rest) ≤ playout.config.journal_limit
      → RightUpTo playout rest (before ++ map with_memory (says_after playout.names count later)) (events ++ (replicate count event.Tick ++ later))
      (output ++ events_output playout events (replicate count event.Tick ++ later))
  right_piece before events output count [] h whole written within =
      rw (events_output-ticks playout events count [], append-nil (replicate count event.Tick), append-nil (ticks_output playout events count))
      (inl (right_ticks playout before events output count h))
  right_piece before events output count (event.Do tag cmd ∷ later) h whole written within =
      let one = event.Do tag cmd in
      let here = command_says playout.names tag cmd ∷ [] in
      let first = All-head (IsPlayable playout) one later written in
      joined playout before events output count (RightUpTo playout rest) one later here (says_after playout.names 0 later)
      (right_piece ((before ++ map with_memory (tick_says count)) ++ map with_memory here) ((events ++ replicate count event.Tick) ++ one ∷ [])
      ((output ++ ticks_output playout events count) ++ event_output playout (events ++ replicate count event.Tick) one) 0 later
      (right_command playout known (before ++ map with_memory (tick_says count)) (events ++ replicate count event.Tick) (output ++ ticks_output playout events count) tag cmd first.1 (has_room playout before events output count one (later ++ rest) within)
      (right_ticks playout before events output count h))
      whole (All-tail (IsPlayable playout) one later written) (held-next playout before events output count one (later ++ rest) within))
  right_piece before events output count (event.Batch tag cmds ∷ later) h whole written within =
      let one = event.Batch tag cmds in
      let first = All-head (IsPlayable playout) one later written in
      joined playout before events output count (RightUpTo playout rest) one later (batch_says playout.names tag cmds) (says_after playout.names 0 later)
      (right_piece ((before ++ map with_memory (tick_says count)) ++ map with_memory (batch_says playout.names tag cmds)) ((events ++ replicate count event.Tick) ++ one ∷ [])
      ((output ++ ticks_output playout events count) ++ event_output playout (events ++ replicate count event.Tick) one) 0 later
      (right_batch playout known (before ++ map with_memory (tick_says count)) (events ++ replicate count event.Tick) (output ++ ticks_output playout events count) tag cmds whole.0 first.1 first.2 (has_room playout before events output count one (later ++ rest) within)
      (right_ticks playout before events output count h))
      whole.1 (All-tail (IsPlayable playout) one later written) (held-next playout before events output count one (later ++ rest) within))
  right_piece before events output count (event.Tick ∷ later) h whole written within =
      let same : replicate (count + 1) event.Tick ++ later ≡ replicate count event.Tick ++ event.Tick ∷ later =
      ap (λ es. es ++ later) (sym (replicate-append-replicate count 1 event.Tick)) ∙ append_assoc (replicate count event.Tick) (event.Tick ∷ []) later in
      subst (λ es. RightUpTo playout rest (before ++ map with_memory (says_after playout.names (count + 1) later)) (events ++ es) (output ++ events_output playout events es)) same
      (right_piece before events output (count + 1) later h whole (All-tail (IsPlayable playout) event.Tick later written) (omega (arith, within)))
  right_piece before events output count (event.Stop tag ∷ later) h whole written within =
      let one = event.Stop tag in
      let first = All-head (IsPlayable playout) one later written in
      inr (
        none_last later rest whole,
        rw (none_first later rest whole, map-append with_memory (tick_says count) (stop_says tag ∷ says_after playout.names 0 []), ← append_assoc before (map with_memory (tick_says count)) (with_memory (stop_says tag) ∷ map with_memory (says_after playout.names 0 [])))
            (no_more playout (before ++ map with_memory (tick_says count)) (stop_says tag)
            (right_stop playout (before ++ map with_memory (tick_says count)) (events ++ replicate count event.Tick) (output ++ ticks_output playout events count) tag first (right_ticks playout before events output count h))),
      )

-- the lines of pieces, one after another
right_pieces : (playout : Playout) (known : IsPlayout playout) (before : List PlayedLine) (events : List Event) (output : List ℕ) (pieces : List (List Event))
    → RightUpTo playout (joined_events pieces) before events output → IsHistory (joined_events pieces) → All (IsPlayable playout) (joined_events pieces)
    → held events + held (joined_events pieces) ≤ playout.config.journal_limit
    → AreRight playout (before ++ map with_memory (says_pieces playout known pieces))
unfolding tick_says
right_pieces playout known before events output [] (inl h) whole written within = subst (AreRight playout) (sym (append-nil before)) h.right
right_pieces playout known before events output [] (inr over) whole written within = subst (AreRight playout) (sym (append-nil before)) over.1
right_pieces playout known before events output (piece ∷ pieces) (inl h) whole written within =
    let later = joined_events pieces in
    let says = says_after playout.names 0 piece in
    let room : held (events ++ piece) + held later ≤ playout.config.journal_limit =
    omega (arith, within, held-append events piece, held-append piece later) in
    subst (AreRight playout)
    (append_assoc before (map with_memory says) (map with_memory (says_pieces playout known pieces))
    ∙ ap (λ ls. before ++ ls) (sym (map-append with_memory says (says_pieces playout known pieces))))
    (right_pieces playout known (before ++ map with_memory says) (events ++ piece) (output ++ events_output playout events piece) pieces
    (right_piece playout known later before events output 0 piece h whole (all_first (IsPlayable playout) piece later written) within)
    (history_rest piece later whole) (all_last (IsPlayable playout) piece later written) room)
right_pieces playout known before events output (piece ∷ pieces) (inr over) whole written within =
    let later = joined_events pieces in
    let none = none_first piece later over.0 in
    let then = none_last piece later over.0 in
    rw none
    (right_pieces playout known before events output pieces (inr (then, over.1)) (history_rest piece later whole) (all_last (IsPlayable playout) piece later written)
    (let room = held-append piece later in omega (arith, within, room)))

-- a text that says whole lines ends with a line feed, if it is not empty
module _ (text : List ℕ) (said : List ScriptLine) (h : Says text said) where
  count_of : length (lines text) ≡ length said
  count_of =
      sym (length-map (lines text) meaning) ∙ ap length (Says-whole text said h)

  count_more : length (lines (text ++ 65 ∷ [])) ≡ length said + 1
  count_more =
      sym (length-map (lines (text ++ 65 ∷ [])) meaning) ∙ ap length (h.before (65 ∷ [])) ∙ length-append said (map meaning (lines (65 ∷ [])))

  none_of_length : (u : List ℕ) → length (last_line u) ≡ 0 → u ≡ []
  unfolding last_line
  none_of_length [] none = refl
  none_of_length (c ∷ u) none =
      let other : eqb (length (c ∷ u)) 0 ≡ false = ne_eqb (length (c ∷ u)) 0 (λ e. absurd (omega (arith, e))) in
      let one : 1 ≡ 0 = subst (λ (b : Bool). length (cond b [] ((c ∷ u) ∷ [])) ≡ 0) other none in
      absurd (omega (arith, one))

  one_of : (u : List ℕ) (c : ℕ) → length (last_line (u ++ c ∷ [])) ≡ 1
  unfolding last_line
  one_of u c =
      let size = length-append u (c ∷ []) in
      let other : eqb (length (u ++ c ∷ [])) 0 ≡ false = ne_eqb (length (u ++ c ∷ [])) 0 (λ e. absurd (omega (arith, e, size))) in
      ap (λ (b : Bool). length (cond b [] ((u ++ c ∷ []) ∷ []))) other

  pub says_whole : unended text ≡ []
  says_whole =
      let here = ap length (lines-ended text) ∙ length-append (ended_lines text) (last_line (unended text)) in
      let then = ap length (lines-ended (text ++ 65 ∷ [])) ∙ length-append (ended_lines (text ++ 65 ∷ [])) (last_line (unended (text ++ 65 ∷ []))) in
      let same = ap length (ended_lines-other text 65 refl) in
      let one = ap (λ u. length (last_line u)) (unended-other text 65 refl) ∙ one_of (unended text) 65 in
      let was = count_of in
      let now = count_more in
      none_of_length (unended text) (omega (arith, here, then, same, one, was, now))

-- the lines of a text that ends with a line feed
module _ (playout : Playout) (text : List ℕ) (said : List ScriptLine) (h : Says text said) where
  unfolded_lines : ended_lines text ≡ lines text
  unfolding last_line
  unfolded_lines =
      sym (lines-ended text ∙ ap (λ u. ended_lines text ++ last_line u) (says_whole text said h) ∙ append-nil (ended_lines text))

  pub said_lines : text_lines text ≡ map with_memory (script_of text)
  said_lines = ap with_memory_for unfolded_lines

-- a log reads back as its history
module _ (playout : Playout) (pieces : List (List Event)) (h : IsReplayable playout (joined_events pieces)) where
  abbrev log : List ℕ
  log = log_text playout.names pieces

  log_says : Says log (says_pieces playout h.on pieces)
  log_says = Says-pieces playout h.on pieces (log_playable playout pieces h)

  pub log_whole : unended log ≡ []
  log_whole = says_whole log (says_pieces playout h.on pieces) log_says

  pub log_right : faulty_line playout log ≡ None
  unfolding fault_after
  log_right =
      let within = h.within in
      ap (fault_after playout []) (said_lines playout log (says_pieces playout h.on pieces) log_says)
      ∙ ap (λ ls. fault_after playout [] (map with_memory ls)) (Says-whole log (says_pieces playout h.on pieces) log_says)
      ∙ right_pieces playout h.on [] [] [] pieces (inl (record { rest = record { at = At-none playout; closed = none_open playout }; right = refl })) h.whole
      (log_playable playout pieces h) (omega (arith, within))

  made : script_events playout (text_lines log) ≡ joined_events pieces
  made = ap (script_events playout) (said_lines playout log (says_pieces playout h.on pieces) log_says) ∙ (log_plays playout pieces h).made

  pub log_events : text_events playout log ≡ events_before_stop (joined_events pieces)
  log_events = ap events_before_stop made

  -- the lines of a log that was cut
  module _ (cut : List ℕ) (of : IsPrefix cut log) where
    cut_lines : (more : List PlayedLine) × (text_lines log ≡ text_lines cut ++ more)
    cut_lines =
        let found = ended_lines-more cut of.0 in
        (with_memory_for found.0, ap text_lines (sym of.1) ∙ ap with_memory_for found.1 ∙ lines-more (ended_lines cut) found.0)

    pub cut_right : faulty_line playout cut ≡ None
    cut_right = by (faulty_line playout cut) refl
      where
        by : (found : Option ℕ) → faulty_line playout cut ≡ found → faulty_line playout cut ≡ None
        by None is = is
        by (Some n) is =
            absurd (none-some n (sym log_right ∙ ap (fault_after playout []) cut_lines.1 ∙ fault_after-more playout [] (text_lines cut) cut_lines.0 n is))

    pub cut_events : IsPrefix (text_events playout cut) (joined_events pieces)
    cut_events =
        let later = script_events-later playout (text_lines cut) cut_lines.0 in
        let front = before_stop_first (script_events playout (text_lines cut)) later.0 in
        (front.0, front.1 ∙ sym later.1 ∙ ap (script_events playout) (sym cut_lines.1) ∙ made)

-- a history is a log of one piece
module _ (playout : Playout) (history : List Event) (h : IsReplayable playout history) where
  one_piece : IsReplayable playout (joined_events (history ∷ []))
  one_piece = subst (IsReplayable playout) (sym (append-nil history)) h

  as_log : history_text playout.names history ≡ log_text playout.names (history ∷ [])
  as_log = sym (append-nil (history_text playout.names history))

  pub text_whole : unended (history_text playout.names history) ≡ []
  text_whole = ap unended as_log ∙ log_whole playout (history ∷ []) one_piece

  pub text_right : faulty_line playout (history_text playout.names history) ≡ None
  text_right = ap (faulty_line playout) as_log ∙ log_right playout (history ∷ []) one_piece

  pub text_read_back : text_events playout (history_text playout.names history) ≡ events_before_stop history
  text_read_back =
      ap (text_events playout) as_log ∙ log_events playout (history ∷ []) one_piece ∙ ap events_before_stop (append-nil history)
