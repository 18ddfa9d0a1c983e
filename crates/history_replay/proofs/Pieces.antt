-- The text of a history that was written piece by piece, played, makes the history.
use Rattle.std.proofs.Common.{◌≡◌, ℕ, ◌+◌, ◌≤◌, Bool, false, not, List, [], ◌∷◌, ◌++◌, map, replicate, refl, sym, ap, ◌∙◌, subst, arith, append_assoc, append-nil}
use Rattle.std.specs.Prelude.{All, flat_map}
use Rattle.std.specs.List.{list_any}
use Rattle.std.proofs.lemmas.List.{map-append, replicate-append-replicate}
use Rattle.std.proofs.lemmas.List.Elements.{All-append, All-cons, All-head, All-nil, All-tail}
use Rattle.play_types.specs.History.{IsHistory, held, is_stop}
use Rattle.play_types.specs.declared.event.Event.{Event}
use Rattle.play_types.specs.declared.event.Event.TheVariants as event
use Rattle.play_types.proofs.Histories.{held-append}
use Rattle.history_model.specs.text.History.{history_text, joined_events, log_text, text_after}
use Rattle.history_model.specs.scripts.Line.{ScriptLine}
use Rattle.history_model.specs.scripts.History.{Playout, PlayedLine}
use Rattle.history_model.specs.scripts.Output.{ticks_output}
use Rattle.history_model.specs.scripts.Memory.{with_memory}
use Rattle.history_replay.specs.Replay.{IsAccepted, IsPlayout, IsReplayable, script_of}
use Rattle.history_replay.specs.ReplayOutput.{event_output, events_output, history_output}
use Rattle.history_replay.proofs.Events.{none_open, batch_says, command_says}
use Rattle.history_replay.proofs.Histories.{Says-after, all_accepted, events_output-ticks, has_room, held-next, held-ticks, joined, says_after}
use Rattle.history_replay.proofs.Lines.{tick_says}
use Rattle.history_replay.proofs.Playing.{At-none}
use Rattle.history_replay.proofs.Printable.{all_playable, IsPlayable}
use Rattle.history_replay.proofs.Replaying.{AtRest, Rest-batch, Rest-command, Rest-ticks}
use Rattle.history_replay.proofs.Says.{Says, Says-append, Says-none, Says-whole}
use Rattle.history_replay.proofs.Stops.{Plays, Plays-stop, stop_says}

-- two parts of nothing are nothing
none_first : (xs ys : List Event) → xs ++ ys ≡ [] → xs ≡ []
none_first [] ys none = refl
none_first (x ∷ xs) ys none = absurd (cc)

none_last : (xs ys : List Event) → xs ++ ys ≡ [] → ys ≡ []
none_last [] ys none = none
none_last (x ∷ xs) ys none = absurd (cc)

-- the first events of a history are one, and so are those after them
pub history_first : (xs ys : List Event) → IsHistory (xs ++ ys) → IsHistory xs
history_first [] ys whole = tt
history_first (event.Do tag cmd ∷ xs) ys whole = history_first xs ys whole
history_first (event.Batch tag cmds ∷ xs) ys whole = (whole.0, history_first xs ys whole.1)
history_first (event.Tick ∷ xs) ys whole = history_first xs ys whole
history_first (event.Stop tag ∷ xs) ys whole = none_first xs ys whole

history_rest : (xs ys : List Event) → IsHistory (xs ++ ys) → IsHistory ys
history_rest [] ys whole = whole
history_rest (event.Do tag cmd ∷ xs) ys whole = history_rest xs ys whole
history_rest (event.Batch tag cmds ∷ xs) ys whole = history_rest xs ys whole.1
history_rest (event.Tick ∷ xs) ys whole = history_rest xs ys whole
history_rest (event.Stop tag ∷ xs) ys whole = subst IsHistory (sym (none_last xs ys whole)) tt

pub all_first : {A : Type 0} (P : A → Type 0) (xs ys : List A) → All P (xs ++ ys) → All P xs
all_first P [] ys all = All-nil P
all_first P (x ∷ xs) ys all = All-cons P x xs (All-head P x (xs ++ ys) all) (all_first P xs ys (All-tail P x (xs ++ ys) all))

pub all_last : {A : Type 0} (P : A → Type 0) (xs ys : List A) → All P (xs ++ ys) → All P ys
all_last P [] ys all = all
all_last P (x ∷ xs) ys all = all_last P xs ys (All-tail P x (xs ++ ys) all)

-- what may hold after lines: of the lines, their events, what they write, and whether the run goes on
abbrev pub After : Type 1
After = List PlayedLine → List Event → List ℕ → Bool → Type 0

-- what follows a piece of a history: some lines, for some events
pub record Follows (playout : Playout) (Q : After) (said : List ScriptLine) (rest : List Event) : Type 0 where
  -- Q holds after the lines, whatever was done before
  pub plays : (before : List PlayedLine) (events : List Event) (output : List ℕ) → AtRest playout before events output
      → held events + held rest ≤ playout.config.journal_limit
      → Q (before ++ map with_memory said) (events ++ rest) (output ++ events_output playout events rest) (not (list_any is_stop rest))
  -- there is no line if there is no event
  pub none : rest ≡ [] → said ≡ []
  -- Q holds after a run that has ended
  pub ends : (lines : List PlayedLine) (events : List Event) (output : List ℕ) → rest ≡ [] → Plays playout lines events output false → Q lines events output false

-- what follows a piece holds after the lines of the piece too
module _ (playout : Playout) (known : IsPlayout playout) (Q : After) (said : List ScriptLine) (rest : List Event) (follows : Follows playout Q said rest) where
  after_piece : (before : List PlayedLine) (events : List Event) (output : List ℕ) (count : ℕ) (later : List Event)
      → AtRest playout before events output → IsHistory (later ++ rest) → All (IsPlayable playout) later
      → held events + held (later ++ rest) ≤ playout.config.journal_limit
      → Q (before ++ map with_memory (says_after playout.names count later ++ said)) (events ++ (replicate count event.Tick ++ (later ++ rest)))
      (output ++ events_output playout events (replicate count event.Tick ++ (later ++ rest))) (not (list_any is_stop (later ++ rest)))
  unfolding tick_says
  after_piece before events output count [] h whole written within =
      let ticks = map with_memory (tick_says count) in
      let ticked = events ++ replicate count event.Tick in
      let room : held ticked + held rest ≤ playout.config.journal_limit =
      omega (arith, within, held-append events (replicate count event.Tick), held-ticks count) in
      rw (
        map-append with_memory (tick_says count) said,
        events_output-ticks playout events count rest,
        ← append_assoc before ticks (map with_memory said),
        ← append_assoc events (replicate count event.Tick) rest,
        ← append_assoc output (ticks_output playout events count) (events_output playout ticked rest),
      )
      (follows.plays (before ++ ticks) ticked (output ++ ticks_output playout events count) (Rest-ticks playout before events output count h) room)
  after_piece before events output count (event.Do tag cmd ∷ later) h whole written within =
      let one = event.Do tag cmd in
      let here = command_says playout.names tag cmd ∷ [] in
      let ticks = before ++ map with_memory (tick_says count) in
      let ticked = events ++ replicate count event.Tick in
      let wrote = output ++ ticks_output playout events count in
      let first = All-head (IsPlayable playout) one later written in
      let on = not (list_any is_stop (later ++ rest)) in
      rw (append_assoc (tick_says count) (here ++ says_after playout.names 0 later) said)
      (joined playout before events output count (λ ls es text. Q ls es text on) one (later ++ rest) here (says_after playout.names 0 later ++ said)
      (after_piece (ticks ++ map with_memory here) (ticked ++ one ∷ []) (wrote ++ event_output playout ticked one) 0 later
      (Rest-command playout known ticks ticked wrote tag cmd first.1 (has_room playout before events output count one (later ++ rest) within)
      (Rest-ticks playout before events output count h))
      whole (All-tail (IsPlayable playout) one later written) (held-next playout before events output count one (later ++ rest) within)))
  after_piece before events output count (event.Batch tag cmds ∷ later) h whole written within =
      let one = event.Batch tag cmds in
      let here = batch_says playout.names tag cmds in
      let ticks = before ++ map with_memory (tick_says count) in
      let ticked = events ++ replicate count event.Tick in
      let wrote = output ++ ticks_output playout events count in
      let first = All-head (IsPlayable playout) one later written in
      let on = not (list_any is_stop (later ++ rest)) in
      rw (append_assoc (tick_says count) (here ++ says_after playout.names 0 later) said, append_assoc here (says_after playout.names 0 later) said)
      (joined playout before events output count (λ ls es text. Q ls es text on) one (later ++ rest) here (says_after playout.names 0 later ++ said)
      (after_piece (ticks ++ map with_memory here) (ticked ++ one ∷ []) (wrote ++ event_output playout ticked one) 0 later
      (Rest-batch playout known ticks ticked wrote tag cmds whole.0 first.1 first.2 (has_room playout before events output count one (later ++ rest) within)
      (Rest-ticks playout before events output count h))
      whole.1 (All-tail (IsPlayable playout) one later written) (held-next playout before events output count one (later ++ rest) within)))
  after_piece before events output count (event.Tick ∷ later) h whole written within =
      let same : replicate (count + 1) event.Tick ++ (later ++ rest) ≡ replicate count event.Tick ++ event.Tick ∷ (later ++ rest) =
      ap (λ es. es ++ (later ++ rest)) (sym (replicate-append-replicate count 1 event.Tick)) ∙ append_assoc (replicate count event.Tick) (event.Tick ∷ []) (later ++ rest) in
      subst (λ es. Q (before ++ map with_memory (says_after playout.names (count + 1) later ++ said)) (events ++ es)
      (output ++ events_output playout events es) (not (list_any is_stop (later ++ rest)))) same
      (after_piece before events output (count + 1) later h whole (All-tail (IsPlayable playout) event.Tick later written) (omega (arith, within)))
  after_piece before events output count (event.Stop tag ∷ later) h whole written within =
      let one = event.Stop tag in
      let here = stop_says tag ∷ [] in
      let ticks = before ++ map with_memory (tick_says count) in
      let ticked = events ++ replicate count event.Tick in
      let wrote = output ++ ticks_output playout events count in
      let stopped = Plays-stop playout ticks ticked wrote (Rest-ticks playout before events output count h) tag (All-head (IsPlayable playout) one later written) in
      let none = none_last later rest whole in
      rw (append_assoc (tick_says count) (here ++ says_after playout.names 0 later) said, none_first later rest whole, follows.none none, none)
      (joined playout before events output count (λ ls es text. Q ls es text false) one [] here (says_after playout.names 0 [] ++ [])
      (rw (append-nil (ticks ++ map with_memory here), append-nil (ticked ++ one ∷ []), append-nil (wrote ++ event_output playout ticked one))
      (follows.ends (ticks ++ map with_memory here) (ticked ++ one ∷ []) (wrote ++ event_output playout ticked one) none stopped)))

module _ (playout : Playout) (known : IsPlayout playout) where
  abbrev pub says_pieces : List (List Event) → List ScriptLine
  says_pieces pieces = flat_map (says_after playout.names 0) pieces

  -- pieces before what follows
  module _ (Q : After) (said : List ScriptLine) (rest : List Event) (follows : Follows playout Q said rest) where
    no_lines : (pieces : List (List Event)) → joined_events pieces ++ rest ≡ [] → says_pieces pieces ++ said ≡ []
    unfolding tick_says
    no_lines [] none = follows.none none
    no_lines (piece ∷ pieces) none =
        let more = joined_events pieces ++ rest in
        let parts : piece ++ more ≡ [] = sym (append_assoc piece (joined_events pieces) rest) ∙ none in
        rw (none_first piece more parts) (no_lines pieces (none_last piece more parts))

    ends_pieces : (pieces : List (List Event)) (lines : List PlayedLine) (events : List Event) (output : List ℕ) → joined_events pieces ++ rest ≡ []
        → Plays playout lines events output false → Q lines events output false
    ends_pieces pieces lines events output none = follows.ends lines events output (none_last (joined_events pieces) rest none)

    pub Follows-pieces : (pieces : List (List Event)) → IsHistory (joined_events pieces ++ rest) → All (IsPlayable playout) (joined_events pieces)
        → Follows playout Q (says_pieces pieces ++ said) (joined_events pieces ++ rest)
    Follows-pieces [] whole written = follows
    Follows-pieces (piece ∷ pieces) whole written =
        let events = joined_events pieces in
        let parts : piece ++ (events ++ rest) ≡ (piece ++ events) ++ rest = sym (append_assoc piece events rest) in
        let history = subst IsHistory (sym parts) whole in
        let later = Follows-pieces pieces (history_rest piece (events ++ rest) history) (all_last (IsPlayable playout) piece events written) in
        record {
          plays = λ before done output h within.
              rw (append_assoc (says_after playout.names 0 piece) (says_pieces pieces) said, ← parts)
              (after_piece playout known Q (says_pieces pieces ++ said) (events ++ rest) later before done output 0 piece h history
              (all_first (IsPlayable playout) piece events written) (subst (λ es. held done + held es ≤ playout.config.journal_limit) (sym parts) within));
          none = no_lines (piece ∷ pieces);
          ends = ends_pieces (piece ∷ pieces);
        }

  -- nothing follows
  pub Follows-none : Follows playout (Plays playout) [] []
  Follows-none = record {
    plays = λ before events output h within.
        rw (append-nil before, append-nil events, append-nil output) (record { made = h.at.made; wrote = h.at.wrote; goes = h.at.goes });
    none = λ none. refl;
    ends = λ lines events output none h. h;
  }

  -- what the text of pieces says
  pub Says-pieces : (pieces : List (List Event)) → All (IsPlayable playout) (joined_events pieces) → Says (log_text playout.names pieces) (says_pieces pieces)
  unfolding history_text
  Says-pieces [] written = Says-none
  Says-pieces (piece ∷ pieces) written =
      Says-append (text_after playout.names 0 piece) (log_text playout.names pieces) (says_after playout.names 0 piece) (says_pieces pieces)
      (Says-after playout known 0 piece (all_first (IsPlayable playout) piece (joined_events pieces) written))
      (Says-pieces pieces (all_last (IsPlayable playout) piece (joined_events pieces) written))

  pieces_accepted : (pieces : List (List Event)) → All IsAccepted (says_pieces pieces)
  pieces_accepted [] = All-nil IsAccepted
  pieces_accepted (piece ∷ pieces) =
      All-append IsAccepted (says_after playout.names 0 piece) (says_pieces pieces) (all_accepted playout.names 0 piece) (pieces_accepted pieces)

-- the whole text of a log
module _ (playout : Playout) (pieces : List (List Event)) (h : IsReplayable playout (joined_events pieces)) where
  pub log_playable : All (IsPlayable playout) (joined_events pieces)
  log_playable = all_playable playout (joined_events pieces) h.written h.named

  log-is : script_of (log_text playout.names pieces) ≡ says_pieces playout h.on pieces
  log-is = Says-whole (log_text playout.names pieces) (says_pieces playout h.on pieces) (Says-pieces playout h.on pieces log_playable)

  pub log_accepted : All IsAccepted (script_of (log_text playout.names pieces))
  log_accepted = subst (All IsAccepted) (sym log-is) (pieces_accepted playout h.on pieces)

  pub log_plays : Plays playout (map with_memory (script_of (log_text playout.names pieces))) (joined_events pieces)
      (history_output playout (joined_events pieces)) (not (list_any is_stop (joined_events pieces)))
  unfolding history_output
  log_plays =
      let within = h.within in
      let whole = subst IsHistory (sym (append-nil (joined_events pieces))) h.whole in
      let follows = subst (λ es. Follows playout (Plays playout) (says_pieces playout h.on pieces ++ []) es) (append-nil (joined_events pieces))
      (Follows-pieces playout h.on (Plays playout) [] [] (Follows-none playout h.on) pieces whole log_playable) in
      rw (log-is, ← append-nil (says_pieces playout h.on pieces))
      (follows.plays [] [] [] (record { at = At-none playout; closed = none_open playout }) (omega (arith, within)))

-- the text of a history is a log of one piece
module _ (playout : Playout) (history : List Event) (h : IsReplayable playout history) where
  one_piece : IsReplayable playout (joined_events (history ∷ []))
  one_piece = subst (IsReplayable playout) (sym (append-nil history)) h

  pub text_accepted : All IsAccepted (script_of (history_text playout.names history))
  text_accepted =
      subst (λ text. All IsAccepted (script_of text)) (append-nil (history_text playout.names history)) (log_accepted playout (history ∷ []) one_piece)

  pub text_plays : Plays playout (map with_memory (script_of (history_text playout.names history))) history (history_output playout history) (not (list_any is_stop history))
  text_plays =
      let log = log_plays playout (history ∷ []) one_piece in
      let as_text = subst (λ text. Plays playout (map with_memory (script_of text)) (history ++ []) (history_output playout (history ++ [])) (not (list_any is_stop (history ++ []))))
      (append-nil (history_text playout.names history)) log in
      subst (λ es. Plays playout (map with_memory (script_of (history_text playout.names history))) es (history_output playout es) (not (list_any is_stop es)))
      (append-nil history) as_text
