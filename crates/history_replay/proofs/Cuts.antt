-- Whole lines at the front of a log are a log of first events, and then perhaps the first lines of a batch.
use Rattle.std.proofs.Common.{◌≡◌, ◌⊎◌, inl, inr, ℕ, zero, suc, ◌+◌, ◌*◌, ◌/◌, ◌%◌, ◌≤◌, List, [], ◌∷◌, ◌++◌, replicate, refl, sym, ap, ◌∙◌, subst, arith, append_assoc, append-nil}
use Rattle.std.specs.Prelude.{All, codes, encode_utf8_all, flat_map}
use Rattle.std.proofs.Math.Nat.{div-add-mod}
use Rattle.std.proofs.lemmas.Grind.{flat_map-append}
use Rattle.std.proofs.lemmas.List.{replicate-append-replicate}
use Rattle.std.proofs.lemmas.List.Elements.{All-head, All-tail}
use Rattle.std.proofs.lemmas.List.Folds.{list_any-append}
use mathlib.Core.List.{IsPrefix}
use Rattle.amcp_text.specs.Lines.{is_line_end}
use Rattle.play_types.specs.declared.command.Cmd.{Cmd}
use Rattle.play_types.specs.declared.event.Event.{Event}
use Rattle.play_types.specs.declared.event.Event.TheVariants as event
use Rattle.play_types.specs.declared.event.Tag.{Tag}
use Rattle.play_types.specs.Media.{MediaNameView}
use Rattle.history_model.specs.declared.limits.TheConstants.{MAX_TICKS_PER_LINE}
use Rattle.history_model.specs.scripts.History.{Playout, server}
use Rattle.history_model.specs.scripts.Output.{tag_text}
use Rattle.history_model.specs.text.Commands.{command_text}
use Rattle.history_model.specs.text.History.{batch_lines, command_line, connection_line, history_text, joined_events, log_text, stop_line, text_after, tick_line, tick_lines}
use Rattle.history_replay.specs.Cut.{IsCutLog, open_lines}
use Rattle.history_replay.specs.Replay.{IsConnection, IsPlayout}
use Rattle.history_replay.proofs.Events.{command_line_spoken}
use Rattle.history_replay.proofs.Fronts.{IsLineText, IsWhole, whole_front}
use Rattle.history_replay.proofs.Lines.{tick_is_line, tick_text}
use Rattle.history_replay.proofs.Pieces.{all_first, all_last}
use Rattle.history_replay.proofs.Printable.{IsPlayable, IsPrintable, IsPrintableInBatch}
use Rattle.history_replay.proofs.Spoken.{begin_spoken, commit_spoken, kill_spoken}
use Rattle.history_replay.proofs.Stops.{is_connection, is_server}
use Rattle.history_replay.proofs.Tagged.{IsSpoken, tag_one}

-- the lines of a log
one_connection : (tag : Tag) (known : IsConnection tag) (text : List ℕ) → IsSpoken text → IsLineText (connection_line tag text)
unfolding connection_line
one_connection tag known text spoken = record {
  line = tag_text tag ++ text;
  one = rw (list_any-append is_line_end (tag_text tag) text, tag_one tag known, spoken.one) refl;
  is = sym (append_assoc (tag_text tag) text (10 ∷ []));
}

one_tick_line : (count : ℕ) → 1 ≤ count → count ≤ MAX_TICKS_PER_LINE → IsLineText (tick_line count)
one_tick_line count low high = record { line = tick_text count; one = (tick_is_line count low high).one; is = refl }

one_stop : (tag : Tag) → (tag ≡ server) ⊎ IsConnection tag → IsLineText (stop_line tag)
unfolding stop_line
one_stop tag (inl is) = rw (is_server tag is) (record { line = codes "X"; one = refl; is = refl })
one_stop tag (inr known) = rw (is_connection tag known) (one_connection tag known (codes "KILL") kill_spoken)

module _ (media : List MediaNameView) where
  -- each front of whole lines of a text is left of a log of these events
  abbrev pub Cuts : List ℕ → List Event → Type 0
  Cuts text events = (front : List ℕ) → IsPrefix front text → IsWhole front → IsCutLog media events front

  none_kept : (events : List Event) → IsCutLog media events []
  none_kept events = record { kept = []; lost = events; whole = refl; opened = []; lines = refl; within = inl refl }

  -- a piece before what is left
  piece_kept : (piece events : List Event) (front : List ℕ) → IsCutLog media events front → IsCutLog media (piece ++ events) (history_text media piece ++ front)
  piece_kept piece events front h = record {
    kept = piece ∷ h.kept;
    lost = h.lost;
    whole = ap (λ (es : List Event). piece ++ es) h.whole ∙ sym (append_assoc piece (joined_events h.kept) h.lost);
    opened = h.opened;
    lines = ap (λ (t : List ℕ). history_text media piece ++ t) h.lines ∙ sym (append_assoc (history_text media piece) (log_text media h.kept) h.opened);
    within = h.within;
  }

  Cuts-none : (later : List Event) (front : List ℕ) → front ≡ [] → IsCutLog media later front
  Cuts-none later front none = subst (IsCutLog media later) (sym none) (none_kept later)

  Cuts-empty : Cuts [] []
  Cuts-empty [] of whole = none_kept []
  Cuts-empty (c ∷ front) of whole = absurd (cc of.1)

  -- a line of a piece of its own
  Cuts-line : (line rest : List ℕ) (piece later : List Event) → IsLineText line → history_text media piece ≡ line → Cuts rest later → Cuts (line ++ rest) (piece ++ later)
  Cuts-line line rest piece later one text cuts front of whole =
      elim (whole_front line rest front one of whole) [
        | inl none ↦ Cuts-none (piece ++ later) front none
        | inr beyond ↦ subst (IsCutLog media (piece ++ later)) (ap (λ (t : List ℕ). t ++ beyond.more) text ∙ sym beyond.is)
            (piece_kept piece later beyond.more (cuts beyond.more beyond.left beyond.whole))
      ]

  -- ticks of a piece of their own
  text_of_ticks : (before count : ℕ) → text_after media before (replicate count event.Tick) ≡ tick_lines (before + count)
  text_of_ticks before zero = let e : before ≡ before + 0 = omega arith in ap tick_lines e
  text_of_ticks before (suc count) =
      let e : before + 1 + count ≡ before + suc count = omega arith in
      text_of_ticks (before + 1) count ∙ ap tick_lines e

  one_line : (count : ℕ) → 1 ≤ count → count ≤ MAX_TICKS_PER_LINE → tick_lines count ≡ tick_line count
  unfolding tick_lines
  one_line zero low high = absurd (omega (arith, low))
  one_line (suc before) low high =
      let none : before / MAX_TICKS_PER_LINE ≡ 0 = omega (arith, high) in
      let last : before % MAX_TICKS_PER_LINE + 1 ≡ suc before = omega (arith, high) in
      rw (none, last) refl

  Cuts-tick : (rest : List ℕ) (count : ℕ) (later : List Event) → 1 ≤ count → count ≤ MAX_TICKS_PER_LINE → Cuts rest later
      → Cuts (tick_line count ++ rest) (replicate count event.Tick ++ later)
  unfolding history_text
  Cuts-tick rest count later low high cuts =
      let zeros : 0 + count ≡ count = omega arith in
      Cuts-line (tick_line count) rest (replicate count event.Tick) later (one_tick_line count low high)
      (text_of_ticks 0 count ∙ ap tick_lines zeros ∙ one_line count low high) cuts

  Cuts-full_lines : (rest : List ℕ) (times : ℕ) (later : List Event) → Cuts rest later
      → Cuts (flat_map tick_line (replicate times MAX_TICKS_PER_LINE) ++ rest) (replicate (times * MAX_TICKS_PER_LINE) event.Tick ++ later)
  Cuts-full_lines rest zero later cuts = cuts
  Cuts-full_lines rest (suc times) later cuts =
      let most = MAX_TICKS_PER_LINE in
      let all : suc times * most ≡ most + times * most = omega arith in
      let more = flat_map tick_line (replicate times most) in
      rw (
        all,
        ← replicate-append-replicate most (times * most) event.Tick,
        append_assoc (replicate most event.Tick) (replicate (times * most) event.Tick) later,
        append_assoc (tick_line most) more rest,
      )
      (Cuts-tick (more ++ rest) most (replicate (times * most) event.Tick ++ later) (omega arith) (omega arith) (Cuts-full_lines rest times later cuts))

  Cuts-ticks : (rest : List ℕ) (count : ℕ) (later : List Event) → Cuts rest later → Cuts (tick_lines count ++ rest) (replicate count event.Tick ++ later)
  unfolding tick_lines
  Cuts-ticks rest zero later cuts = cuts
  Cuts-ticks rest (suc before) later cuts =
      let most = MAX_TICKS_PER_LINE in
      let times = before / most in
      let last = before % most + 1 in
      let all : times * most + last ≡ suc before = omega (arith, div-add-mod before most) in
      let full = replicate (times * most) event.Tick in
      let joined : full ++ (replicate last event.Tick ++ later) ≡ replicate (suc before) event.Tick ++ later =
      sym (append_assoc full (replicate last event.Tick) later)
      ∙ ap (λ (es : List Event). es ++ later) (replicate-append-replicate (times * most) last event.Tick ∙ ap (λ (n : ℕ). replicate n event.Tick) all) in
      subst (Cuts (tick_lines (suc before) ++ rest)) joined
      (rw (append_assoc (flat_map tick_line (replicate times most)) (tick_line last) rest)
      (Cuts-full_lines (tick_line last ++ rest) times (replicate last event.Tick ++ later) (Cuts-tick rest last later (omega arith) (omega arith) cuts)))

  -- the lines of an event that is a piece of its own
  text_of_command : (tag : Tag) (cmd : Cmd) → history_text media (event.Do tag cmd ∷ []) ≡ command_line media tag cmd
  unfolding history_text tick_lines
  text_of_command tag cmd = append-nil (command_line media tag cmd)

  text_of_batch : (tag : Tag) (cmds : List Cmd) → history_text media (event.Batch tag cmds ∷ []) ≡ batch_lines media tag cmds
  unfolding history_text tick_lines
  text_of_batch tag cmds = append-nil (batch_lines media tag cmds)

  text_of_stop : (tag : Tag) → history_text media (event.Stop tag ∷ []) ≡ stop_line tag
  unfolding history_text tick_lines
  text_of_stop tag = append-nil (stop_line tag)

  -- the first lines of a batch
  batch_opened : (tag : Tag) (first others : List Cmd) (later : List Event) → IsCutLog media (event.Batch tag (first ++ others) ∷ later) (open_lines media tag first)
  batch_opened tag first others later = record {
    kept = [];
    lost = event.Batch tag (first ++ others) ∷ later;
    whole = refl;
    opened = open_lines media tag first;
    lines = refl;
    within = inr (record { tag = tag; first = first; others = others; later = later; batch = refl; lines = refl });
  }

  -- after the lines of its first commands
  open_more : (tag : Tag) (first : List Cmd) (cmd : Cmd) (more : List ℕ)
      → open_lines media tag (first ++ cmd ∷ []) ++ more ≡ open_lines media tag first ++ (command_line media tag cmd ++ more)
  open_more tag first cmd more =
      let begin = connection_line tag (codes "BEGIN") in
      let lines = flat_map (command_line media tag) first in
      let line = command_line media tag cmd in
      rw (flat_map-append (command_line media tag) first (cmd ∷ []), append-nil line, ← append_assoc begin lines line, append_assoc (begin ++ lines) line more) refl

  closed_more : (tag : Tag) (cmds : List Cmd) (more : List ℕ)
      → batch_lines media tag cmds ++ more ≡ open_lines media tag cmds ++ (connection_line tag (codes "COMMIT") ++ more)
  closed_more tag cmds more =
      let begin = connection_line tag (codes "BEGIN") in
      let lines = flat_map (command_line media tag) cmds in
      let commit = connection_line tag (codes "COMMIT") in
      rw (← append_assoc begin lines commit, append_assoc (begin ++ lines) commit more) refl

module _ (playout : Playout) (known : IsPlayout playout) where
  one_command : (tag : Tag) (cmd : Cmd) → IsConnection tag → IsPrintable playout cmd → IsLineText (command_line playout.names tag cmd)
  one_command tag cmd named asked = one_connection tag named (encode_utf8_all (command_text playout.names cmd)) (command_line_spoken playout known cmd asked)

  -- in a batch
  module _ (tag : Tag) (named : IsConnection tag) (rest : List ℕ) (later : List Event) (cuts : Cuts playout.names rest later) where
    in_batch : (first cmds : List Cmd) → All (IsPrintableInBatch playout) cmds → (front : List ℕ)
        → IsPrefix front (flat_map (command_line playout.names tag) cmds ++ (connection_line tag (codes "COMMIT") ++ rest)) → IsWhole front
        → IsCutLog playout.names (event.Batch tag (first ++ cmds) ∷ later) (open_lines playout.names tag first ++ front)
    in_batch first [] each front of whole =
        let commit = connection_line tag (codes "COMMIT") in
        elim (whole_front commit rest front (one_connection tag named (codes "COMMIT") commit_spoken) of whole) [
          | inl none ↦ rw (none, append-nil (open_lines playout.names tag first)) (batch_opened playout.names tag first [] later)
          | inr beyond ↦
              rw (beyond.is, append-nil first, ← closed_more playout.names tag first beyond.more, ← text_of_batch playout.names tag first)
              (piece_kept playout.names (event.Batch tag first ∷ []) later beyond.more (cuts beyond.more beyond.left beyond.whole))
        ]
    in_batch first (cmd ∷ cmds) each front of whole =
        let line = command_line playout.names tag cmd in
        let lines = flat_map (command_line playout.names tag) cmds in
        let after = connection_line tag (codes "COMMIT") ++ rest in
        let asked = (All-head (IsPrintableInBatch playout) cmd cmds each).asked in
        elim (whole_front line (lines ++ after) front (one_command tag cmd named asked) (subst (IsPrefix front) (append_assoc line lines after) of) whole) [
          | inl none ↦ rw (none, append-nil (open_lines playout.names tag first)) (batch_opened playout.names tag first (cmd ∷ cmds) later)
          | inr beyond ↦
              rw (beyond.is, ← open_more playout.names tag first cmd beyond.more, ← append_assoc first (cmd ∷ []) cmds)
              (in_batch (first ++ cmd ∷ []) cmds (All-tail (IsPrintableInBatch playout) cmd cmds each) beyond.more beyond.left beyond.whole)
        ]

    Cuts-batch : (cmds : List Cmd) → All (IsPrintableInBatch playout) cmds
        → Cuts playout.names (batch_lines playout.names tag cmds ++ rest) (event.Batch tag cmds ∷ later)
    Cuts-batch cmds each front of whole =
        let begin = connection_line tag (codes "BEGIN") in
        let lines = flat_map (command_line playout.names tag) cmds in
        let commit = connection_line tag (codes "COMMIT") in
        let parts : batch_lines playout.names tag cmds ++ rest ≡ begin ++ (lines ++ (commit ++ rest)) =
        append_assoc begin (lines ++ commit) rest ∙ ap (λ (t : List ℕ). begin ++ t) (append_assoc lines commit rest) in
        elim (whole_front begin (lines ++ (commit ++ rest)) front (one_connection tag named (codes "BEGIN") begin_spoken) (subst (IsPrefix front) parts of) whole) [
          | inl none ↦ Cuts-none playout.names (event.Batch tag cmds ∷ later) front none
          | inr beyond ↦
              rw (beyond.is, ← append-nil begin) (in_batch [] cmds each beyond.more beyond.left beyond.whole)
        ]

  -- events after ticks, and more
  Cuts-after : (rest : List ℕ) (later : List Event) (cuts : Cuts playout.names rest later) (count : ℕ) (events : List Event) → All (IsPlayable playout) events
      → Cuts playout.names (text_after playout.names count events ++ rest) (replicate count event.Tick ++ (events ++ later))
  Cuts-after rest later cuts count [] written = Cuts-ticks playout.names rest count later cuts
  Cuts-after rest later cuts count (event.Do tag cmd ∷ events) written =
      let first = All-head (IsPlayable playout) (event.Do tag cmd) events written in
      let line = command_line playout.names tag cmd in
      let more = text_after playout.names 0 events in
      rw (append_assoc (tick_lines count) (line ++ more) rest, append_assoc line more rest)
      (Cuts-ticks playout.names (line ++ (more ++ rest)) count (event.Do tag cmd ∷ (events ++ later))
      (Cuts-line playout.names line (more ++ rest) (event.Do tag cmd ∷ []) (events ++ later) (one_command tag cmd first.0 first.1) (text_of_command playout.names tag cmd)
      (Cuts-after rest later cuts 0 events (All-tail (IsPlayable playout) (event.Do tag cmd) events written))))
  Cuts-after rest later cuts count (event.Batch tag cmds ∷ events) written =
      let first = All-head (IsPlayable playout) (event.Batch tag cmds) events written in
      let lines = batch_lines playout.names tag cmds in
      let more = text_after playout.names 0 events in
      rw (append_assoc (tick_lines count) (lines ++ more) rest, append_assoc lines more rest)
      (Cuts-ticks playout.names (lines ++ (more ++ rest)) count (event.Batch tag cmds ∷ (events ++ later))
      (Cuts-batch tag first.0 (more ++ rest) (events ++ later)
      (Cuts-after rest later cuts 0 events (All-tail (IsPlayable playout) (event.Batch tag cmds) events written)) cmds first.2))
  Cuts-after rest later cuts count (event.Tick ∷ events) written =
      let same : replicate (count + 1) event.Tick ++ (events ++ later) ≡ replicate count event.Tick ++ event.Tick ∷ (events ++ later) =
      ap (λ (es : List Event). es ++ (events ++ later)) (sym (replicate-append-replicate count 1 event.Tick)) ∙ append_assoc (replicate count event.Tick) (event.Tick ∷ []) (events ++ later) in
      subst (Cuts playout.names (text_after playout.names (count + 1) events ++ rest)) same
      (Cuts-after rest later cuts (count + 1) events (All-tail (IsPlayable playout) event.Tick events written))
  Cuts-after rest later cuts count (event.Stop tag ∷ events) written =
      let first = All-head (IsPlayable playout) (event.Stop tag) events written in
      let line = stop_line tag in
      let more = text_after playout.names 0 events in
      rw (append_assoc (tick_lines count) (line ++ more) rest, append_assoc line more rest)
      (Cuts-ticks playout.names (line ++ (more ++ rest)) count (event.Stop tag ∷ (events ++ later))
      (Cuts-line playout.names line (more ++ rest) (event.Stop tag ∷ []) (events ++ later) (one_stop tag first) (text_of_stop playout.names tag)
      (Cuts-after rest later cuts 0 events (All-tail (IsPlayable playout) (event.Stop tag) events written))))

  -- the whole log
  pub Cuts-pieces : (pieces : List (List Event)) → All (IsPlayable playout) (joined_events pieces) → Cuts playout.names (log_text playout.names pieces) (joined_events pieces)
  unfolding history_text
  Cuts-pieces [] written = Cuts-empty playout.names
  Cuts-pieces (piece ∷ pieces) written =
      let rest = joined_events pieces in
      Cuts-after (log_text playout.names pieces) rest (Cuts-pieces pieces (all_last (IsPlayable playout) piece rest written)) 0 piece
      (all_first (IsPlayable playout) piece rest written)
