-- A text of a history that is played line by line.
use Rattle.std.proofs.Common.{◌≡◌, ℕ, ◌+◌, ◌*◌, ◌-◌, ◌<◌, ◌≤◌, ◌^◌, Bool, false, true, cond, ◌&&◌, ◌||◌, List, [], ◌∷◌, ◌++◌, length, map, take, refl, sym, ap, ◌∙◌, subst, subst₂, arith, append_assoc, length-append}
use Rattle.std.specs.Prelude.{Some, None, Ok, Err, is_some}
use Rattle.std.specs.List.{list_any}
use Rattle.std.specs.Str.Lines.{strip_carriage_return}
use Rattle.std.proofs.lemmas.List.{length-map, take_at}
use Rattle.amcp_text.specs.Lines.{is_line_end}
use Rattle.play_types.specs.History.{stop_at, ticks}
use Rattle.play_types.specs.declared.event.TheConstants.{MAX_TICKS}
use Rattle.history_model.specs.declared.limits.TheConstants.{MAX_TICKS_PER_LINE}
use Rattle.history_model.specs.scripts.Line.{meaning}
use Rattle.history_model.specs.scripts.History.{Playout, PlayedLine, events_at, goes_on, script_events}
use Rattle.history_model.specs.scripts.Input.{ended_lines, unended}
use Rattle.history_model.specs.scripts.Memory.{reply_at, with_memory}
use Rattle.history_model.proofs.OneLines.{stripped_one_line}
use Rattle.history_model.proofs.Outputs.{goes_on-none}
use Rattle.history_model.proofs.Parts.{ended_lines-more}
use Rattle.script_player.specs.declared.player.Player.{Player}
use Rattle.script_player.specs.Player.{IsReady, Represents, events_in, playout_in}
use Rattle.script_player.specs.Shown.{Replies}
use Rattle.script_player.specs.Ticks.{ticks_per_byte}
use Rattle.script_player.proofs.Counting.{stripped_shorter}
use Rattle.history_reader.specs.HistoryText.{events_before_stop, fault_after, faulty_line, has_stop, is_kept, is_some_event, past_of, text_events, text_lines, with_memory_for}
use Rattle.history_reader.specs.declared.fault.ReadHistoryFault.{ReadHistoryFault}
use Rattle.history_reader.specs.declared.fault.ReadHistoryFault.TheVariants as fault
use Rattle.history_reader.specs.declared.line_player.LineFault.{LineFault}
use Rattle.history_reader.specs.declared.line_player.LineFault.TheVariants as line_fault
use Rattle.history_reader.specs.declared.line_player.LineTaken.{LineTaken}
use Rattle.history_reader.specs.declared.line_player.LineTaken.TheVariants as line_taken
use Rattle.history_reader.specs.inner.PlayedLines.{HasPlayed, IsReadyAfter, IsStopLine, TakesLine}
use Rattle.history_reader.specs.inner.PlayedText.{EndsLines, HasText, IsCutAtFeed, IsKilled, IsPlayedUpTo, PlaysText}
use Rattle.history_reader.proofs.FaultyLines.{fault_after-more, fault_at, fault-snoc}
use Rattle.history_reader.proofs.Stopped.{before_stop-all}
use Rattle.history_reader.proofs.Taking.{events_before}
use Rattle.history_reader.proofs.Texts.{kept, line_ended, lines-more, with_line}

-- no line was played
pub none_played : (playout : Playout) (player : Player) → Represents Replies playout player [] → HasPlayed playout player []
unfolding fault_after
none_played playout player represents = record {
  played = [];
  said = refl;
  whole = tt;
  memory = tt;
  runs_on = goes_on-none playout;
  goes = goes_on-none playout;
  right = refl;
  represents = represents;
}

pub at_begin : (playout : Playout) (text : List ℕ) (player : Player) → IsReady player → events_in player ≡ [] → HasPlayed playout player []
    → IsPlayedUpTo playout text text player 0
unfolding ended_lines unended
at_begin playout text player ready empty played = record {
  done = [];
  parts = refl;
  whole = refl;
  played = played;
  number = refl;
  few = omega arith;
  ready = ready;
  time = (let none = ap ticks empty in omega (arith, none));
}

-- a line after a stop is faulty
pub over_now : (playout : Playout) (before : List PlayedLine) (line : PlayedLine) → goes_on playout before ≡ false → fault_at playout before line ≡ Some (length before + 1)
over_now playout before line over =
    let here = is_some_event (events_at playout (past_of playout before) line line.line) || is_kept (reply_at playout before line line.line) in
    ap (λ (b : Bool). cond (b && here) None (Some (length before + 1))) over

module _ (playout : Playout) (text rest : List ℕ) (player : Player) (count : ℕ) (upto : IsPlayedUpTo playout text rest player count) where
  pub text_length : length text ≡ length upto.done + length rest
  text_length = ap length upto.parts ∙ length-append upto.done rest

  -- the time that is left suffices for a line
  pub time_left : length text < 2 ^ 32 → ticks (events_in player) + MAX_TICKS_PER_LINE ≤ MAX_TICKS
  time_left few =
      let time = upto.time in
      let all = text_length in
      omega (arith, time, all, few)

  -- the text ends after the lines that were played
  pub text_ends : list_any is_line_end rest ≡ false → HasText playout text (length rest) false player
  text_ends none =
      let same = kept upto.done rest none in
      let lines : ended_lines text ≡ ended_lines upto.done = ap ended_lines upto.parts ∙ same.0 in
      let left : unended text ≡ rest = ap unended upto.parts ∙ same.1 ∙ ap (λ t. t ++ rest) upto.whole in
      let made : events_in player ≡ script_events playout (text_lines text) =
      events_before playout player (ended_lines upto.done) upto.played [] ∙ ap (λ ls. script_events playout (with_memory_for ls)) (sym lines) in
      record {
        right = ap (λ ls. fault_after playout [] (with_memory_for ls)) lines ∙ upto.played.right;
        events = sym (before_stop-all (events_in player) upto.ready.running) ∙ ap events_before_stop made;
        on = upto.played.represents.on;
        ready = upto.ready;
        left = ap length (sym left);
        stop = sym (ap is_some upto.ready.running) ∙ ap (λ es. is_some (stop_at es)) made;
      }

  module _ (line after : List ℕ) (cut : IsCutAtFeed rest line after) where
    -- the next line
    abbrev pub next : List ℕ
    next = strip_carriage_return line

    abbrev all : List (List ℕ)
    all = ended_lines upto.done ++ next ∷ []

    pub next_one : list_any is_line_end next ≡ false
    next_one = stripped_one_line next line refl cut.1

    -- the text with the line that was cut off
    more : text ≡ with_line upto.done line ++ after
    more =
        upto.parts ∙ ap (λ t. upto.done ++ t) cut.0 ∙ sym (append_assoc upto.done line (10 ∷ after))
        ∙ sym (append_assoc (upto.done ++ line) (10 ∷ []) after)

    ended : (ended_lines (with_line upto.done line) ≡ all) × (unended (with_line upto.done line) ≡ [])
    ended = line_ended upto.done line upto.whole cut.1

    longer : length (with_line upto.done line) ≡ length upto.done + length line + 1
    longer =
        let both = length-append (upto.done ++ line) (10 ∷ []) in
        let front = length-append upto.done line in
        omega (arith, both, front)

    -- the rest is shorter
    pub shorter : length after < length rest
    shorter =
        let both = ap length cut.0 ∙ length-append line (10 ∷ after) in
        omega (arith, both)

    -- the line was played
    pub next_played : (new : Player) → HasPlayed playout new all → IsReady new → ticks (events_in new) ≤ ticks (events_in player) + ticks_per_byte * (length next + 1)
        → IsPlayedUpTo playout text after new (count + 1)
    next_played new played ready grows =
        let before = upto.time in
        let short = stripped_shorter line in
        let long = longer in
        let few = upto.few in
        record {
          done = with_line upto.done line;
          parts = more;
          whole = ended.1;
          played = subst (HasPlayed playout new) (sym ended.0) played;
          number = ap (λ n. n + 1) upto.number ∙ sym (length-append (ended_lines upto.done) (next ∷ [])) ∙ ap length (sym ended.0);
          few = omega (arith, few, long);
          ready = ready;
          time = omega (arith, before, grows, short, long);
        }

    -- the line was taken and played
    pub line_played : (given : List ℕ) → given ≡ next → (taken : LineTaken) → taken ≡ line_taken.Played → (new : Player)
        → TakesLine playout (ended_lines upto.done) given (Ok taken) new → IsReadyAfter player given taken new → IsPlayedUpTo playout text after new (count + 1)
    line_played given same taken is new takes ready =
        let played = subst₂ (λ l t. TakesLine playout (ended_lines upto.done) l (Ok t) new) same is takes in
        let on = subst₂ (λ l t. IsReadyAfter player l t new) same is ready in
        next_played new played on.0 on.1

    -- lines after which the text goes on
    lines_so_far : (rest' : List (List ℕ)) × (ended_lines text ≡ all ++ rest')
    lines_so_far =
        let found = ended_lines-more (with_line upto.done line) after in
        (found.0, ap ended_lines more ∙ found.1 ∙ ap (λ ls. ls ++ found.0) ended.0)

    -- the line is faulty
    pub next_faulty : (number : ℕ) → number ≡ count + 1 → fault_after playout [] (with_memory_for all) ≡ Some (length (ended_lines upto.done) + 1)
        → faulty_line playout text ≡ Some number
    next_faulty number is fault =
        let found = lines_so_far in
        ap (λ ls. fault_after playout [] (with_memory_for ls)) found.1
        ∙ ap (fault_after playout []) (lines-more all found.0)
        ∙ fault_after-more playout [] (with_memory_for all) (with_memory_for found.0) (length (ended_lines upto.done) + 1) fault
        ∙ ap (λ n. Some (n + 1)) (sym upto.number) ∙ ap Some (sym is)

    pub line_refused : (given : List ℕ) → given ≡ next → (fault : LineFault) → fault ≡ line_fault.Refused → (new : Player)
        → TakesLine playout (ended_lines upto.done) given (Err fault) new → faulty_line playout text ≡ Some (count + 1)
    line_refused given same fault is new takes =
        next_faulty (count + 1) refl (subst₂ (λ l f. TakesLine playout (ended_lines upto.done) l (Err f) new) same is takes)

    -- the line is a stop, and another line follows it
    module _ (stop : IsStopLine playout (ended_lines upto.done) next) where
      pub follows_stop : (number : ℕ) (line' after' : List ℕ) → IsCutAtFeed after line' after' → number ≡ count + 1 + 1 → faulty_line playout text ≡ Some number
      follows_stop number line' after' cut' is =
          let done' = with_line (with_line upto.done line) line' in
          let one = strip_carriage_return line' in
          let lines' = line_ended (with_line upto.done line) line' ended.1 cut'.1 in
          let whole : text ≡ done' ++ after' =
          more ∙ ap (λ t. with_line upto.done line ++ t) cut'.0 ∙ sym (append_assoc (with_line upto.done line) line' (10 ∷ after'))
          ∙ sym (append_assoc (with_line upto.done line ++ line') (10 ∷ []) after') in
          let found = ended_lines-more done' after' in
          let lines : ended_lines text ≡ (all ++ one ∷ []) ++ found.0 =
          ap ended_lines whole ∙ found.1 ∙ ap (λ ls. ls ++ found.0) (lines'.0 ∙ ap (λ ls. ls ++ one ∷ []) ended.0) in
          let plain = with_memory_for all in
          let fault : fault_after playout [] (with_memory_for (all ++ one ∷ [])) ≡ Some (length plain + 1) =
          ap (fault_after playout []) (lines-more all (one ∷ [])) ∙ fault-snoc playout plain (with_memory (meaning one)) stop.right
          ∙ over_now playout plain (with_memory (meaning one)) stop.over in
          let size : length plain ≡ count + 1 =
          length-map (map meaning all) with_memory ∙ length-map all meaning ∙ length-append (ended_lines upto.done) (next ∷ []) ∙ ap (λ n. n + 1) (sym upto.number) in
          ap (λ ls. fault_after playout [] (with_memory_for ls)) lines
          ∙ ap (fault_after playout []) (lines-more (all ++ one ∷ []) found.0)
          ∙ fault_after-more playout [] (with_memory_for (all ++ one ∷ [])) (with_memory_for found.0) (length plain + 1) fault
          ∙ ap (λ n. Some (n + 1)) size ∙ ap Some (sym is)

      module _ (none : list_any is_line_end after ≡ false) where
        last_lines : ended_lines text ≡ all
        last_lines = ap ended_lines more ∙ (kept (with_line upto.done line) after none).0 ∙ ended.0

        last_left : unended text ≡ after
        last_left = ap unended more ∙ (kept (with_line upto.done line) after none).1 ∙ ap (λ t. t ++ after) ended.1

        right : faulty_line playout text ≡ None
        right = ap (λ ls. fault_after playout [] (with_memory_for ls)) last_lines ∙ stop.right

        events_then : text_events playout text ≡ script_events playout (with_memory_for (ended_lines upto.done))
        events_then = ap (λ ls. events_before_stop (script_events playout (with_memory_for ls))) last_lines ∙ stop.events

        stopped : has_stop playout text ≡ true
        stopped = ap (λ ls. is_some (stop_at (script_events playout (with_memory_for ls)))) last_lines ∙ stop.stop

        -- the server's own stop, which was not played
        pub stop_last : (new : Player) → HasPlayed playout new (ended_lines upto.done) → IsReady new → HasText playout text (length after) true new
        stop_last new played ready = record {
          right = right;
          events = events_before playout new (ended_lines upto.done) played [] ∙ sym events_then;
          on = played.represents.on;
          ready = ready;
          left = ap length (sym last_left);
          stop = sym stopped;
        }

        -- a kill
        pub kill_last : (new : Player) → playout_in new ≡ playout → IsKilled playout text (length text - length rest) (length after) new
        kill_last new on =
            let all_bytes = text_length in
            let front : length text - length rest ≡ length upto.done = omega (arith, all_bytes) in
            let taken : take (length text - length rest) text ≡ upto.done =
            ap (λ t. take (length text - length rest) t) upto.parts ∙ take_at upto.done rest (length text - length rest) (sym front) in
            record {
              right = right;
              over = ap (λ ls. goes_on playout (with_memory_for ls)) last_lines ∙ stop.over;
              within = omega arith;
              right_before = ap (faulty_line playout) taken ∙ upto.played.right;
              goes = ap (λ t. goes_on playout (text_lines t)) taken ∙ upto.played.goes;
              events = events_then
                  ∙ sym (before_stop-all (script_events playout (with_memory_for (ended_lines upto.done))) running)
                  ∙ ap (text_events playout) (sym taken);
              on = on;
              left = ap length (sym last_left);
              stop = stopped;
            }
          where
            running : stop_at (script_events playout (with_memory_for (ended_lines upto.done))) ≡ None
            running = ap stop_at (sym (events_before playout player (ended_lines upto.done) upto.played [])) ∙ upto.ready.running

    -- a stop is followed by another line, which is faulty
    stop_followed : (stop : IsStopLine playout (ended_lines upto.done) next) (fault : ReadHistoryFault) (new : Player) → EndsLines (count + 1) after (Err fault)
        → PlaysText playout text (Err fault) new
    stop_followed stop (fault.Line number) new ends = follows_stop stop number ends.1.line ends.1.rest ends.1.cut ends.0
    stop_followed stop fault.OutOfMemory new ends = tt
    stop_followed stop fault.Device new ends = ends
    stop_followed stop fault.TooLong new ends = ends

    module _ (given : List ℕ) (same : given ≡ next) (taken : LineTaken) (new : Player) (takes : TakesLine playout (ended_lines upto.done) given (Ok taken) new) where
      -- the server's own stop
      stop_taken : taken ≡ line_taken.Stop → IsStopLine playout (ended_lines upto.done) next × HasPlayed playout new (ended_lines upto.done)
      stop_taken is = subst₂ (λ l t. TakesLine playout (ended_lines upto.done) l (Ok t) new) same is takes

      pub stop_not_last : taken ≡ line_taken.Stop → (fault : ReadHistoryFault) → EndsLines (count + 1) after (Err fault) → PlaysText playout text (Err fault) new
      stop_not_last is fault ends = stop_followed (stop_taken is).0 fault new ends

      pub stop_is_last : taken ≡ line_taken.Stop → IsReadyAfter player given taken new → list_any is_line_end after ≡ false → HasText playout text (length after) true new
      stop_is_last is ready none = stop_last (stop_taken is).0 none new (stop_taken is).1 (subst (λ t. IsReadyAfter player given t new) is ready)

      -- a kill
      kill_taken : taken ≡ line_taken.Kill → IsStopLine playout (ended_lines upto.done) next × (playout_in new ≡ playout)
      kill_taken is = subst₂ (λ l t. TakesLine playout (ended_lines upto.done) l (Ok t) new) same is takes

      pub kill_not_last : taken ≡ line_taken.Kill → (fault : ReadHistoryFault) → EndsLines (count + 1) after (Err fault) → PlaysText playout text (Err fault) new
      kill_not_last is fault ends = stop_followed (kill_taken is).0 fault new ends

      pub kill_is_last : taken ≡ line_taken.Kill → list_any is_line_end after ≡ false → IsKilled playout text (length text - length rest) (length after) new
      kill_is_last is none = kill_last (kill_taken is).0 none new (kill_taken is).1
