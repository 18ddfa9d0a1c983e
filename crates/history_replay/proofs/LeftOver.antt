-- The events that the whole lines of a log that was cut make when they are played.
use Rattle.std.proofs.Common.{◌≡◌, inl, inr, ℕ, ◌+◌, ◌≤◌, List, [], ◌∷◌, ◌++◌, map, length, length-append, sym, ap, ◌∙◌, subst, arith, append_assoc, append-nil}
use Rattle.std.specs.Prelude.{All, Some, codes, flat_map}
use Rattle.std.proofs.lemmas.List.{append_cancel_right, map-append}
use Rattle.std.proofs.lemmas.List.Elements.{All-head}
use mathlib.Core.List.{IsPrefix}
use Rattle.play_types.specs.History.{IsHistory, held}
use Rattle.play_types.specs.declared.command.Cmd.{Cmd}
use Rattle.play_types.specs.declared.command.TheConstants.{MAX_BATCH_COMMANDS}
use Rattle.play_types.specs.declared.event.Event.{Event}
use Rattle.play_types.specs.declared.event.Event.TheVariants as event
use Rattle.play_types.specs.declared.event.Tag.{Tag}
use Rattle.play_types.specs.declared.reply.Name.TheVariants as name
use Rattle.play_types.specs.declared.reply.Reply.TheVariants as reply
use Rattle.play_types.proofs.Histories.{held-append}
use Rattle.history_model.specs.scripts.Line.{ScriptLine, Said}
use Rattle.history_model.specs.scripts.History.{PlayedLine, Playout, script_events}
use Rattle.history_model.specs.scripts.Output.{reply_output}
use Rattle.history_model.specs.scripts.Memory.{HasMemory, lines_played, with_memory}
use Rattle.history_model.specs.text.History.{command_line, connection_line, joined_events, log_text}
use Rattle.history_model.proofs.Prefixes.{script_events-later}
use Rattle.history_replay.specs.Cut.{IsBatchCut, IsCutLog, open_lines, whole_lines}
use Rattle.history_replay.specs.Replay.{IsAccepted, IsPlayout, IsReplayable, IsWritten, NamesShortClips, script_of}
use Rattle.history_replay.proofs.Cuts.{Cuts-pieces}
use Rattle.history_replay.proofs.Events.{At-begin, all_wait, command_says, none_open, open-begin}
use Rattle.history_replay.proofs.Fronts.{whole_lines-rest, whole_lines-whole, whole_says}
use Rattle.history_replay.proofs.Histories.{Says-commands}
use Rattle.history_replay.proofs.Marked.{played_events}
use Rattle.history_replay.proofs.Pieces.{After, Follows, Follows-pieces, Says-pieces, all_first, all_last, history_first, log_accepted, log_plays, says_pieces}
use Rattle.history_replay.proofs.Playing.{At-none}
use Rattle.history_replay.proofs.Printable.{IsPlayable, IsPrintableInBatch, all_playable}
use Rattle.history_replay.proofs.Says.{Says, Says-append, Says-whole}
use Rattle.history_replay.proofs.Spoken.{begin_spoken}
use Rattle.history_replay.proofs.Tagged.{Says-said}

-- the whole lines of the front of a log
module _ (playout : Playout) (pieces : List (List Event)) (cut : List ℕ) (h : IsReplayable playout (joined_events pieces)) (of : IsPrefix cut (log_text playout.names pieces)) where
  abbrev text : List ℕ
  text = whole_lines cut

  -- what follows them
  abbrev rest : List ℕ
  rest = (whole_lines-rest cut).rest ++ of.0

  whole : text ++ rest ≡ log_text playout.names pieces
  whole = sym (append_assoc text (whole_lines-rest cut).rest of.0) ∙ ap (λ t. t ++ of.0) (whole_lines-rest cut).is ∙ of.1

  script-parts : script_of (log_text playout.names pieces) ≡ script_of text ++ script_of rest
  script-parts = ap script_of (sym whole) ∙ (whole_says text (whole_lines-whole cut)).before rest

  pub cut_accepted : All IsAccepted (script_of text)
  cut_accepted = all_first IsAccepted (script_of text) (script_of rest) (subst (All IsAccepted) script-parts (log_accepted playout pieces h))

  pub cut_prefix : IsPrefix (script_events playout (map with_memory (script_of text))) (joined_events pieces)
  cut_prefix =
      let lines = map with_memory (script_of text) in
      let later = map with_memory (script_of rest) in
      let more = script_events-later playout lines later in (
        more.0,
        sym more.1 ∙ ap (script_events playout) (sym (ap (map with_memory) script-parts ∙ map-append with_memory (script_of text) (script_of rest)))
            ∙ (log_plays playout pieces h).made,
      )

  pub cut_replays : (played : List PlayedLine) → lines_played played ≡ script_of text → HasMemory playout played → IsPrefix (script_events playout played) (joined_events pieces)
  cut_replays played same without =
      subst (λ es. IsPrefix es (joined_events pieces)) (sym (played_events playout text played same without)) cut_prefix

  pub cut_log : IsCutLog playout.names (joined_events pieces) text
  cut_log = Cuts-pieces playout h.on pieces (all_playable playout (joined_events pieces) h.written h.named) text (rest, whole) (whole_lines-whole cut)

-- the lines of a batch that is not closed make no event
module _ (playout : Playout) (known : IsPlayout playout) (tag : Tag) (first others : List Cmd) (later : List Event) (playable : IsPlayable playout (event.Batch tag (first ++ others))) where
  abbrev next : List Event
  next = event.Batch tag (first ++ others) ∷ later

  abbrev open_says : List ScriptLine
  open_says = Said tag (codes "BEGIN") ∷ map (command_says playout.names tag) first

  each : All (IsPrintableInBatch playout) first
  each = all_first (IsPrintableInBatch playout) first others playable.2

  Says-open : Says (open_lines playout.names tag first) open_says
  Says-open =
      Says-append (connection_line tag (codes "BEGIN")) (flat_map (command_line playout.names tag) first) (Said tag (codes "BEGIN") ∷ [])
      (map (command_says playout.names tag) first) (Says-said tag playable.0 (codes "BEGIN") begin_spoken)
      (Says-commands playout known tag first playable.0 each)

  -- the lines make the events, but not those that are lost
  abbrev MakesOthers : After
  MakesOthers = λ lines events output on. script_events playout lines ++ next ≡ events

  Follows-open : Follows playout MakesOthers open_says next
  Follows-open = record {
    plays = λ before events output h within.
        let begin = with_memory (Said tag (codes "BEGIN")) in
        let lines = map with_memory (map (command_says playout.names tag) first) in
        let few : 0 + length first ≤ MAX_BATCH_COMMANDS = omega (arith, playable.1, length-append first others) in
        let w = all_wait playout known (before ++ begin ∷ []) events (output ++ reply_output playout tag (Some (reply.Done name.Begin))) tag [] first each few
        (record { at = At-begin playout before events output h.at tag h.closed; inside = open-begin playout before events output h.at tag h.closed }) in
        ap (λ es. es ++ next) (ap (script_events playout) (sym (append_assoc before (begin ∷ []) lines)) ∙ w.at.made);
    none = λ none. absurd (cc none);
    ends = λ lines events output none ended. absurd (cc none);
  }

-- the events of a log that was cut are those of its pieces
module _ (playout : Playout) (history : List Event) (text : List ℕ) (h : IsReplayable playout history) (cut : IsCutLog playout.names history text) where
  abbrev made : List Event
  made = joined_events cut.kept

  all-playable : All (IsPlayable playout) (made ++ cut.lost)
  all-playable = subst (All (IsPlayable playout)) cut.whole (all_playable playout history h.written h.named)

  is_history : IsHistory (made ++ cut.lost)
  is_history = subst IsHistory cut.whole h.whole

  has_room : held (made ++ cut.lost) ≤ playout.config.journal_limit
  has_room = subst (λ es. held es ≤ playout.config.journal_limit) cut.whole h.within

  replayable : IsReplayable playout made
  replayable =
      let within = has_room in
      record {
        on = h.on;
        whole = history_first made cut.lost is_history;
        written = all_first (IsWritten playout) made cut.lost (subst (All (IsWritten playout)) cut.whole h.written);
        named = all_first (NamesShortClips playout.names) made cut.lost (subst (All (NamesShortClips playout.names)) cut.whole h.named);
        within = omega (arith, within, held-append made cut.lost);
      }

  makes_pieces : cut.opened ≡ [] → script_events playout (map with_memory (script_of text)) ≡ made
  makes_pieces none =
      let is : text ≡ log_text playout.names cut.kept = cut.lines ∙ ap (λ t. log_text playout.names cut.kept ++ t) none ∙ append-nil (log_text playout.names cut.kept) in
      ap (λ t. script_events playout (map with_memory (script_of t))) is ∙ (log_plays playout cut.kept replayable).made

  makes_others : IsBatchCut playout.names cut.lost cut.opened → script_events playout (map with_memory (script_of text)) ≡ made
  makes_others batch =
      let next = event.Batch batch.tag (batch.first ++ batch.others) ∷ batch.later in
      let opened = open_says playout h.on batch.tag batch.first batch.others batch.later playable in
      let said = says_pieces playout h.on cut.kept in
      let follows = Follows-pieces playout h.on (MakesOthers playout h.on batch.tag batch.first batch.others batch.later playable) opened next
      (Follows-open playout h.on batch.tag batch.first batch.others batch.later playable) cut.kept
      (subst (λ es. IsHistory (made ++ es)) batch.batch is_history) (all_first (IsPlayable playout) made cut.lost all-playable) in
      let room : held (made ++ next) ≤ playout.config.journal_limit =
      subst (λ es. held (made ++ es) ≤ playout.config.journal_limit) batch.batch has_room in
      let is : text ≡ log_text playout.names cut.kept ++ open_lines playout.names batch.tag batch.first =
      cut.lines ∙ ap (λ t. log_text playout.names cut.kept ++ t) batch.lines in
      let says : script_of text ≡ said ++ opened =
      ap script_of is
      ∙ Says-whole (log_text playout.names cut.kept ++ open_lines playout.names batch.tag batch.first) (said ++ opened)
      (Says-append (log_text playout.names cut.kept) (open_lines playout.names batch.tag batch.first) said opened
      (Says-pieces playout h.on cut.kept (all_first (IsPlayable playout) made cut.lost all-playable))
      (Says-open playout h.on batch.tag batch.first batch.others batch.later playable)) in
      ap (λ ls. script_events playout (map with_memory ls)) says
      ∙ append_cancel_right (script_events playout (map with_memory (said ++ opened))) made next
      (follows.plays [] [] [] (record { at = At-none playout; closed = none_open playout }) (omega (arith, room)))
    where
      playable : IsPlayable playout (event.Batch batch.tag (batch.first ++ batch.others))
      playable =
          All-head (IsPlayable playout) (event.Batch batch.tag (batch.first ++ batch.others)) batch.later
          (subst (All (IsPlayable playout)) batch.batch (all_last (IsPlayable playout) made cut.lost all-playable))

  pub cut_made : script_events playout (map with_memory (script_of text)) ≡ made
  cut_made = elim cut.within [
    | inl none ↦ makes_pieces none
    | inr batch ↦ makes_others batch
  ]
