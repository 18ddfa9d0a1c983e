-- A line of a history that a player takes.
use Rattle.std.proofs.Common.{◌≡◌, ◌≢◌, ℕ, ◌+◌, Bool, true, false, cond, ◌||◌, ◌&&◌, inl, inr, List, [], ◌∷◌, ◌++◌, length, map, refl, sym, ap, ◌∙◌, subst, arith, append-nil}
use Rattle.std.specs.Prelude.{Option, Some, None, Err, is_some, nat_lt, option_map}
use Rattle.std.specs.List.{list_any}
use Rattle.std.proofs.lemmas.Bool.{cases_Bool, false≢true, lt-ltb}
use Rattle.std.proofs.lemmas.Bool.Decides.{nat_tests}
use Rattle.std.proofs.lemmas.List.{length-map}
use Rattle.amcp_text.specs.Lines.{is_line_end}
use Rattle.play_types.specs.History.{IsHistory, stop_at}
use Rattle.play_types.specs.declared.event.Event.{Event}
use Rattle.play_types.specs.declared.event.Event.TheVariants as event
use Rattle.play_types.specs.declared.event.Tag.{Tag}
use Rattle.play_types.specs.declared.reply.Reply.{Reply}
use Rattle.play_types.proofs.Histories.{stop_at-append, stop_at-stop}
use Rattle.play_outside.specs.SinkState.{SinkState}
use Rattle.history_model.specs.scripts.Line.{ScriptLine, Rejected, meaning}
use Rattle.history_model.specs.scripts.Line as script
use Rattle.history_model.specs.scripts.History.{Playout, PlayedLine, ends_at, events_at, goes_on, script_events, server}
use Rattle.history_model.specs.scripts.Memory.{HadMemoryIfAny, reply_at, with_memory}
use Rattle.history_model.proofs.Outputs.{goes_on-snoc, script_events-snoc}
use Rattle.script_player.specs.declared.ending.Halt.{Halt}
use Rattle.script_player.specs.declared.ending.Halt.TheVariants as halts
use Rattle.script_player.specs.declared.player.Player.{Player}
use Rattle.script_player.specs.Player.{IsLastLine, IsLineDone, IsLineFailed, IsReady, Marks, NextLine, PlaysLine, events_in, playout_in}
use Rattle.script_player.specs.Shown.{Replies}
use Rattle.script_player.proofs.FailedWrites.{fails_rose}
use Rattle.script_player.proofs.Growth.{played_as}
use Rattle.history_reader.specs.HistoryText.{events_before_stop, fault_after, is_kept, is_some_event, past_of, with_memory_for}
use Rattle.history_reader.specs.inner.PlayedLines.{HasPlayed, IsStopLine}
use Rattle.history_reader.proofs.FaultyLines.{fault-snoc}
use Rattle.history_reader.proofs.Plain.{ArePlayed, ArePlayed-snoc, goes_on-ended, like_with_memory, plain_events}
use Rattle.history_reader.proofs.Steps.{end_stops, stop_ends}
use Rattle.history_reader.proofs.Stopped.{before_stop-append, did_not_grow, grew, size}
use Rattle.history_reader.proofs.Texts.{lines-more}

module _ (playout : Playout) (player : Player) (lines : List (List ℕ)) (read : HasPlayed playout player lines) (line : List ℕ) where
  -- the lines and the next one, as they are played with memory
  abbrev plain : List PlayedLine
  plain = with_memory_for lines

  abbrev next : PlayedLine
  next = with_memory (meaning line)

  abbrev made : List Event
  made = events_at playout (past_of playout plain) next (meaning line)

  abbrev reply : Option Reply
  reply = reply_at playout plain next (meaning line)

  all : with_memory_for (lines ++ line ∷ []) ≡ plain ++ next ∷ []
  all = lines-more lines (line ∷ [])

  -- whether the line is one of a history
  abbrev pub is_right : Bool
  is_right = is_some_event made || is_kept reply

  fault : (b : Bool) → is_right ≡ b → fault_after playout [] (with_memory_for (lines ++ line ∷ [])) ≡ cond b None (Some (length plain + 1))
  fault b is =
      ap (fault_after playout []) all ∙ fault-snoc playout plain next read.right
      ∙ ap (λ (b : Bool). cond (b && is_right) None (Some (length plain + 1))) read.goes
      ∙ ap (λ (b : Bool). cond b None (Some (length plain + 1))) is

  pub right : is_right ≡ true → fault_after playout [] (with_memory_for (lines ++ line ∷ [])) ≡ None
  right is = fault true is

  pub refused : is_right ≡ false → fault_after playout [] (with_memory_for (lines ++ line ∷ [])) ≡ Some (length lines + 1)
  refused is = fault false is ∙ ap (λ (n : ℕ). Some (n + 1)) (length-map (map meaning lines) with_memory ∙ length-map lines meaning)

  -- a line that is rejected makes no event and has no reply
  pub rejected : meaning line ≡ Rejected → is_right ≡ false
  rejected is =
      ap (λ (said : ScriptLine). is_some_event (events_at playout (past_of playout plain) (with_memory said) said) || is_kept (reply_at playout plain (with_memory said) said)) is

  are : ArePlayed playout read.played lines
  are = record { said = read.said; whole = read.whole; memory = read.memory }

  pub events_before : events_in player ≡ script_events playout plain
  events_before = read.represents.history ∙ plain_events playout read.played lines are

  -- the line is a stop
  pub stops : stop_at (events_in player) ≡ None → (tag : Tag) → made ≡ event.Stop tag ∷ [] → IsStopLine playout lines line
  stops running tag is =
      let some : is_right ≡ true = ap (λ es. is_some_event es || is_kept reply) is in
      let ends = stop_ends playout (past_of playout plain) next (meaning line) tag is in
      let earlier : List Event = script_events playout plain in
      let none : stop_at earlier ≡ None = ap stop_at (sym events_before) ∙ running in
      let made_now : script_events playout (with_memory_for (lines ++ line ∷ [])) ≡ earlier ++ event.Stop tag ∷ [] =
      ap (script_events playout) all ∙ script_events-snoc playout plain next read.goes ∙ ap (λ es. earlier ++ es) is in
      record {
        right = right some;
        over = ap (goes_on playout) all ∙ goes_on-ended playout plain next read.goes ends;
        stop = ap (λ es. is_some (stop_at es)) made_now
            ∙ ap is_some (stop_at-append earlier (event.Stop tag ∷ []) none)
            ∙ ap (λ (o : Option ℕ). is_some (option_map (λ k. length earlier + k) o)) (stop_at-stop tag []);
        events = ap events_before_stop made_now
            ∙ before_stop-append earlier (event.Stop tag ∷ []) none
            ∙ append-nil earlier;
      }

  -- the server's own stop
  pub own_stop : stop_at (events_in player) ≡ None → meaning line ≡ script.Stop → IsStopLine playout lines line
  own_stop running is =
      stops running server (ap (λ (said : ScriptLine). events_at playout (past_of playout plain) (with_memory said) said) is)

  module _ (one : list_any is_line_end line ≡ false) where
    -- the line as it comes to the player
    abbrev pub comes : NextLine
    comes = record { playout = playout; shown = Replies; before = read.played; line = meaning line }

    module _ (marks : Marks) (had : HadMemoryIfAny (reply_at playout read.played (played_as line marks) (meaning line))) where
      are_more : ArePlayed playout (read.played ++ played_as line marks ∷ []) (lines ++ line ∷ [])
      are_more = ArePlayed-snoc playout read.played lines (played_as line marks) line are refl one read.runs_on had

      made_same : events_at playout (past_of playout read.played) (played_as line marks) (meaning line) ≡ made
      made_same = (like_with_memory playout read.played lines (played_as line marks) line are are_more refl read.runs_on read.goes).events

      reply_same : reply_at playout read.played (played_as line marks) (meaning line) ≡ reply
      reply_same = (like_with_memory playout read.played lines (played_as line marks) line are are_more refl read.runs_on read.goes).reply

      -- with memory the run does not end at the line, if it did not
      not_ended : meaning line ≢ Rejected → ends_at playout read.played (played_as line marks) (meaning line) ≡ false → ends_at playout plain next (meaning line) ≡ false
      not_ended accepted goes = elim (cases_Bool (ends_at playout plain next (meaning line))) [
        | inl ends ↦
            let stop = end_stops playout (past_of playout plain) next (meaning line) accepted ends in
            absurd (false≢true (sym goes ∙ stop_ends playout (past_of playout read.played) (played_as line marks) (meaning line) stop.tag (made_same ∙ stop.is)))
        | inr on ↦ on
      ]

    module _ (replied : Option Reply) (new : Player) (before after : SinkState) (done : IsLineDone comes replied new before after) where
      had_done : HadMemoryIfAny (reply_at playout read.played (played_as line done.marks) (meaning line))
      had_done = done.memory refl

      -- the events of the line
      grown : events_in new ≡ events_in player ++ made
      grown =
          done.represents.history ∙ script_events-snoc playout read.played (played_as line done.marks) read.runs_on
          ∙ (λ i. sym read.represents.history i ++ made_same done.marks had_done i)

      size_tested : (some : Bool) → is_some_event made ≡ some → IsHistory (events_in new) → IsReady player → IsReady new
          → nat_lt (size (events_in player)) (size (events_in new)) ≡ some
      size_tested true is whole ready then =
          let less = grew (events_in player) made (subst IsHistory grown whole) ready.running (ap stop_at (sym grown) ∙ then.running) is in
          ap (λ (es : List Event). nat_lt (size (events_in player)) (size es)) grown
          ∙ lt-ltb (size (events_in player)) (size (events_in player ++ made)) less
      size_tested false is whole ready then =
          ap (λ (es : List Event). nat_lt (size (events_in player)) (size es)) grown
          ∙ ap (nat_lt (size (events_in player))) (did_not_grow (events_in player) made is)
          ∙ not_less (size (events_in player))
        where
          not_less : (n : ℕ) → nat_lt n n ≡ false
          not_less n = grind (arith, nat_tests)

      -- what is tested of a line says whether it is one of a history
      pub tested : (test : Bool) → (nat_lt (size (events_in player)) (size (events_in new)) || is_kept replied) ≡ test
          → IsHistory (events_in new) → IsReady player → IsReady new → is_right ≡ test
      tested test is whole ready then =
          let some = size_tested (is_some_event made) refl whole ready then in
          let same : replied ≡ reply = done.replies ∙ reply_same done.marks had_done in
          (λ i. sym some i || is_kept (sym same i)) ∙ is

      pub line_played : is_right ≡ true → HasPlayed playout new (lines ++ line ∷ [])
      line_played is = record {
        played = read.played ++ played_as line done.marks ∷ [];
        said = (are_more done.marks had_done).said;
        whole = (are_more done.marks had_done).whole;
        memory = (are_more done.marks had_done).memory;
        runs_on = goes_on-snoc playout read.played (played_as line done.marks) read.runs_on done.goes_on;
        goes = ap (goes_on playout) all ∙ goes_on-snoc playout plain next read.goes (not_ended done.marks had_done done.accepted done.goes_on);
        right = right is;
        represents = done.represents;
      }

    -- a kill
    pub line_kills : (halt : Halt) (new : Player) (before after : SinkState) → halt ≡ halts.Stop → stop_at (events_in player) ≡ None
        → PlaysLine comes (Err halt) new before after → IsStopLine playout lines line × (playout_in new ≡ playout)
    line_kills halt new before after is running plays =
        let last : IsLastLine comes new before after = subst (λ h. PlaysLine comes (Err h) new before after) is plays in
        let stop = end_stops playout (past_of playout read.played) (played_as line last.marks) (meaning line) last.accepted last.ends in (
          stops running stop.tag (sym (made_same last.marks (last.memory refl)) ∙ stop.is),
          last.history.on,
        )

    -- a line that the player rejects
    pub line_rejected : (halt : Halt) (new : Player) (before after : SinkState) → halt ≡ halts.Rejected → PlaysLine comes (Err halt) new before after
        → is_right ≡ false
    line_rejected halt new before after is plays = rejected (subst (λ h. PlaysLine comes (Err h) new before after) is plays).0

    -- no write fails where nothing is kept
    pub never_fails : (halt : Halt) (new : Player) (before after : SinkState) → halt ≡ halts.Write → before.faults ≡ 0 → after.faults ≡ 0
        → PlaysLine comes (Err halt) new before after → ⊥
    never_fails halt new before after is none quiet plays =
        let failed : IsLineFailed comes before after = subst (λ h. PlaysLine comes (Err h) new before after) is plays in
        let rose = fails_rose _ before after failed.fails in
        omega (arith, rose, none, quiet)
