-- A script that is taken byte by byte.
use Rattle.std.proofs.Common.{◌≡◌, ◌≢◌, ℕ, ◌+◌, ◌<◌, ◌≤◌, Bool, false, List, [], ◌∷◌, ◌++◌, length, refl, sym, ap, ◌∙◌, subst, arith, append-nil, append_assoc, take, get_or, length-append}
use Rattle.std.specs.Prelude.{Err, Option}
use Rattle.play_types.specs.declared.reply.Reply.{Reply}
use Rattle.std.specs.List.{list_any}
use Rattle.std.specs.Str.Lines.{strip_carriage_return}
use Rattle.std.proofs.lemmas.Bool.{ne_eqb, or_from}
use Rattle.std.proofs.lemmas.Bool.Decides.{nat_tests}
use Rattle.std.proofs.lemmas.List.{map-append, length-map, take_more}
use Rattle.std.proofs.lemmas.List.Folds.{list_any-append}
use Rattle.amcp_text.specs.Lines.{is_line_end}
use Rattle.play_outside.specs.SinkState.{SinkState, after_taking}
use Rattle.play_outside.specs.Sink.{Fails}
use Rattle.play_outside.proofs.Taking.{after_taking-after_taking}
use Rattle.play_outside.proofs.Sending.{Fails-after}
use Rattle.history_model.specs.scripts.Line.{ScriptLine, Rejected, meaning}
use Rattle.history_model.specs.scripts.History.{PlayedLine}
use Rattle.history_model.specs.scripts.Input.{ended_lines, unended, overlong, received}
use Rattle.history_model.proofs.Parts.{ended_lines-feed, unended-feed, ended_lines-other, unended-other}
use Rattle.history_model.proofs.Outputs.{goes_on-snoc}
use Rattle.history_model.proofs.Replied.{HasMemory-snoc}
use Rattle.script_player.specs.Shown.{shown_line, shown_output}
use Rattle.script_player.proofs.Shown.{shown_output-snoc}
use Rattle.script_player.specs.declared.ending.Halt.{Halt}
use Rattle.script_player.specs.declared.ending.Halt.TheVariants as halt
use Rattle.script_player.specs.declared.script.Script.{Script}
use Rattle.script_player.specs.declared.player.Player.{Player}
use Rattle.script_player.specs.Script.{Run, Reading, lines_of_reading, meanings, played_meanings, IsDone, IsAtLast, StopsAt, RejectsAt, FailsAt}
use Rattle.script_player.specs.Player.{Represents, NextLine, Marks, no_marks, IsLineDone, IsLastLine, IsLineFailed, PlaysLine}
use Rattle.script_player.specs.Taken.{HasTaken, StopsWith, TakesBytes}

-- the meanings of one line more
pub said-snoc : (played : List PlayedLine) (last : PlayedLine) (lines all : List (List ℕ)) (line : List ℕ) → played_meanings played ≡ meanings lines → all ≡ lines ++ line ∷ [] → last.line ≡ meaning line
    → played_meanings (played ++ last ∷ []) ≡ meanings all
said-snoc played last lines all line said is same =
    map-append (λ (one : PlayedLine). one.line) played (last ∷ [])
    ∙ ap (λ (ms : List ScriptLine). ms ++ last.line ∷ []) said
    ∙ ap (λ (m : ScriptLine). meanings lines ++ m ∷ []) same
    ∙ sym (map-append meaning lines (line ∷ []))
    ∙ ap meanings (sym is)

said-length : (played : List PlayedLine) (lines : List (List ℕ)) → played_meanings played ≡ meanings lines → length played ≡ length lines
said-length played lines said =
    sym (length-map played (λ (one : PlayedLine). one.line)) ∙ ap length said ∙ length-map lines meaning

-- a line as it was played
abbrev pub played_as : List ℕ → Marks → PlayedLine
played_as line marks = record { line = meaning line; given_up = marks.given_up; no_memory = marks.no_memory }

-- the next line after those that are done
abbrev pub next_line : (run : Run) (lines : List (List ℕ)) (state : SinkState) → IsDone run lines state → List ℕ → NextLine
next_line run lines state done line = record { playout = run.playout; shown = run.shown; before = done.played; line = meaning line }

module _ (run : Run) (lines : List (List ℕ)) (line : List ℕ) (before after : SinkState) (done : IsDone run lines before) where
  -- the output of one line more
  pub written-snoc : (marks : Marks) → after ≡ after_taking before (shown_line run.shown run.playout done.played (played_as line marks) (meaning line))
      → after ≡ after_taking run.first (shown_output run.shown run.playout (done.played ++ played_as line marks ∷ []))
  written-snoc marks step =
      let text = shown_line run.shown run.playout done.played (played_as line marks) (meaning line) in
      step
      ∙ ap (λ (s : SinkState). after_taking s text) done.written
      ∙ after_taking-after_taking run.first (shown_output run.shown run.playout done.played) text
      ∙ ap (after_taking run.first) (sym (shown_output-snoc run.shown run.playout done.played (played_as line marks) done.runs_on))

  -- one line more is done
  abbrev pub line_done : {replied : Option Reply} (player : Player) (all : List (List ℕ)) → all ≡ lines ++ line ∷ [] → (plays : IsLineDone (next_line run lines before done line) replied player before after)
      → IsDone run all after
  line_done player all is plays = record {
    played = done.played ++ played_as line plays.marks ∷ [];
    said = said-snoc done.played (played_as line plays.marks) lines all line done.said is refl;
    memory = λ needs. HasMemory-snoc run.playout done.played (played_as line plays.marks) done.runs_on (done.memory needs) (plays.memory needs);
    runs_on = goes_on-snoc run.playout done.played (played_as line plays.marks) done.runs_on plays.goes_on;
    written = written-snoc plays.marks plays.written;
  }

  module _ (reading : Reading) (is : lines_of_reading reading ≡ lines ++ line ∷ []) where
    abbrev at_last : (marks : Marks) → IsAtLast run.playout reading
    at_last marks = record {
      before = done.played;
      last = played_as line marks;
      said = said-snoc done.played (played_as line marks) lines (lines_of_reading reading) line done.said is refl;
      runs_on = done.runs_on;
    }

    -- the line ends the run
    abbrev pub line_stops : (player : Player) → IsLastLine (next_line run lines before done line) player before after → StopsAt run reading after
    line_stops player plays = record {
      at = at_last plays.marks;
      accepted = plays.accepted;
      ends = plays.ends;
      memory = λ needs. HasMemory-snoc run.playout done.played (played_as line plays.marks) done.runs_on (done.memory needs) (plays.memory needs);
      written = written-snoc plays.marks plays.written;
    }

    -- and the player has the history of the lines
    pub line_stops_with : (player : Player) → IsLastLine (next_line run lines before done line) player before after → StopsWith run player reading after
    line_stops_with player plays = record { stops = line_stops player plays; history = plays.history }

    -- the line is rejected
    pub line_rejected : (count : ℕ) → count ≡ length lines → meaning line ≡ Rejected → after ≡ before → RejectsAt run reading (count + 1) after
    line_rejected count counts rejected same = record {
      at = at_last no_marks;
      rejected = rejected;
      place = ap (λ (n : ℕ). n + 1) (counts ∙ sym (said-length done.played lines done.said));
      memory = done.memory;
      written = same ∙ done.written;
    }

    -- a write of the text of the line failed
    pub line_fails : IsLineFailed (next_line run lines before done line) before after → FailsAt run reading after
    line_fails plays =
        let text = shown_line run.shown run.playout done.played (played_as line plays.marks) (meaning line) in
        record {
          at = at_last plays.marks;
          accepted = plays.accepted;
          written = subst (λ t. Fails t run.first after) (sym (shown_output-snoc run.shown run.playout done.played (played_as line plays.marks) done.runs_on))
              (Fails-after (shown_output run.shown run.playout done.played) text run.first after (subst (λ s. Fails text s after) done.written plays.fails));
        }

-- the lines stay done if nothing was written
pub still_done : (run : Run) (lines : List (List ℕ)) (before after : SinkState) → IsDone run lines before → after ≡ before → IsDone run lines after
still_done run lines before after done same =
    record { played = done.played; said = done.said; memory = done.memory; runs_on = done.runs_on; written = same ∙ done.written }

-- bytes with the end of the input after them, or not
abbrev pub reading_of : List ℕ → Bool → Reading
reading_of bytes ended = record { bytes = bytes; ended = ended }

-- a line feed ends the line that waits
received-feed : (bytes : List ℕ) → received (bytes ++ 10 ∷ []) false ≡ ended_lines bytes ++ strip_carriage_return (unended bytes) ∷ []
received-feed bytes =
    ap (λ (text : List ℕ). ended_lines (bytes ++ 10 ∷ []) ++ overlong text) (unended-feed bytes)
    ∙ append-nil (ended_lines (bytes ++ 10 ∷ []))
    ∙ ended_lines-feed bytes

none_there : (text : List ℕ) → text ≡ [] → list_any is_line_end text ≡ false
none_there text none = ap (list_any is_line_end) none

-- the line that waits after bytes that were taken, with a line feed
abbrev pub fed_line : List ℕ → List ℕ
fed_line bytes = strip_carriage_return (unended bytes)

-- all was taken: the line that waited is done
pub fed_done : {replied : Option Reply} (run : Run) (old new : Script) (bytes : List ℕ) (before after : SinkState) → (taken : HasTaken run old bytes before)
    → (plays : IsLineDone (next_line run (ended_lines bytes) before taken.done (fed_line bytes)) replied new.player before after)
    → new.waiting.items ≡ [] → new.lines ≡ old.lines + 1
    → HasTaken run new (bytes ++ 10 ∷ []) after
fed_done run old new bytes before after taken plays empty count = record {
  done = line_done run (ended_lines bytes) (fed_line bytes) before after taken.done new.player (ended_lines (bytes ++ 10 ∷ [])) (ended_lines-feed bytes) plays;
  waiting = empty ∙ sym (unended-feed bytes);
  one_line = none_there (unended (bytes ++ 10 ∷ [])) (unended-feed bytes);
  short = rw (unended-feed bytes) (omega arith);
  count = count ∙ ap (λ (n : ℕ). n + 1) taken.count ∙ sym (length-append (ended_lines bytes) (fed_line bytes ∷ [])) ∙ ap length (sym (ended_lines-feed bytes));
  player = plays.represents;
}

-- the line that waited stopped the run
pub fed_stops : (run : Run) (old new : Script) (bytes : List ℕ) (before after : SinkState) → (taken : HasTaken run old bytes before) → (reason : Halt)
    → PlaysLine (next_line run (ended_lines bytes) before taken.done (fed_line bytes)) (Err reason) new.player before after
    → new.lines ≡ old.lines
    → TakesBytes run (Err reason) new (bytes ++ 10 ∷ []) after
fed_stops run old new bytes before after taken halt.Memory plays count =
    (bytes, 10 ∷ [], refl, still_done run (ended_lines bytes) before after taken.done plays)
fed_stops run old new bytes before after taken halt.Rejected plays count = (
  bytes ++ 10 ∷ [],
  [],
  sym (append-nil (bytes ++ 10 ∷ [])),
  line_rejected run (ended_lines bytes) (fed_line bytes) before after taken.done (reading_of (bytes ++ 10 ∷ []) false) (received-feed bytes) new.lines
      (count ∙ taken.count) plays.0 plays.1,
)
fed_stops run old new bytes before after taken halt.Stop plays count = (
  bytes ++ 10 ∷ [],
  [],
  sym (append-nil (bytes ++ 10 ∷ [])),
  line_stops_with run (ended_lines bytes) (fed_line bytes) before after taken.done (reading_of (bytes ++ 10 ∷ []) false) (received-feed bytes) new.player plays,
)
fed_stops run old new bytes before after taken halt.Write plays count = (
  bytes ++ 10 ∷ [],
  [],
  sym (append-nil (bytes ++ 10 ∷ [])),
  line_fails run (ended_lines bytes) (fed_line bytes) before after taken.done (reading_of (bytes ++ 10 ∷ []) false) (received-feed bytes) plays,
)

-- a byte that ends no line waits
pub byte_kept : (run : Run) (old new : Script) (bytes : List ℕ) (byte : ℕ) (state : SinkState)
    → byte ≢ 10 → HasTaken run old bytes state
    → new.player ≡ old.player → new.lines ≡ old.lines → new.waiting.items ≡ old.waiting.items ++ byte ∷ [] → length new.waiting.items < 8194
    → HasTaken run new (bytes ++ byte ∷ []) state
byte_kept run old new bytes byte state other taken player count items short =
    let is_other = ne_eqb byte 10 other in
    let lines = ended_lines-other bytes byte is_other in
    let more = unended-other bytes byte is_other in
    let rest : new.waiting.items ≡ unended (bytes ++ byte ∷ []) =
    items ∙ ap (λ (text : List ℕ). text ++ byte ∷ []) taken.waiting ∙ sym more in
    record {
      done = record {
        played = taken.done.played;
        said = taken.done.said ∙ ap meanings (sym lines);
        memory = taken.done.memory;
        runs_on = taken.done.runs_on;
        written = taken.done.written;
      };
      waiting = rest;
      one_line = ap (list_any is_line_end) more ∙ list_any-append is_line_end (unended bytes) (byte ∷ []) ∙ or_from _ _ taken.one_line (or_from _ _ is_other refl);
      short = subst (λ text. length text < 8194) rest short;
      count = count ∙ taken.count ∙ ap length (sym lines);
      player = subst (λ p. Represents run.shown run.playout p taken.done.played) (sym player) taken.player;
    }

overlong-is : (text : List ℕ) → 8194 ≤ length text → overlong text ≡ text ∷ []
overlong-is text long = grind (arith, nat_tests)

pub long-meaning : (text : List ℕ) → 8193 ≤ length text → meaning text ≡ Rejected
long-meaning text long = grind (arith, nat_tests)

-- a line that has too many bytes stops the run before its end
pub too_long : (run : Run) (old new : Script) (bytes : List ℕ) (byte : ℕ) (state : SinkState)
    → byte ≢ 10 → HasTaken run old bytes state
    → new.lines ≡ old.lines → new.waiting.items ≡ old.waiting.items ++ byte ∷ [] → 8194 ≤ length new.waiting.items
    → TakesBytes run (Err halt.Rejected) new (bytes ++ byte ∷ []) state
too_long run old new bytes byte state other taken count waiting long =
    let is_other = ne_eqb byte 10 other in
    let line = unended (bytes ++ byte ∷ []) in
    let rest : new.waiting.items ≡ line =
    waiting ∙ ap (λ (text : List ℕ). text ++ byte ∷ []) taken.waiting ∙ sym (unended-other bytes byte is_other) in
    let many : 8194 ≤ length line = subst (λ text. 8194 ≤ length text) rest long in
    let all : received (bytes ++ byte ∷ []) false ≡ ended_lines bytes ++ line ∷ [] =
    ap (λ (ls : List (List ℕ)). ls ++ overlong line) (ended_lines-other bytes byte is_other)
    ∙ ap (λ (ls : List (List ℕ)). ended_lines bytes ++ ls) (overlong-is line many) in (
      bytes ++ byte ∷ [],
      [],
      sym (append-nil (bytes ++ byte ∷ [])),
      line_rejected run (ended_lines bytes) line state state taken.done (reading_of (bytes ++ byte ∷ []) false) all new.lines (count ∙ taken.count)
          (long-meaning line (omega arith)) refl,
    )

-- out of memory the byte is not kept
pub byte_dropped : (run : Run) (old new : Script) (bytes : List ℕ) (byte : ℕ) (state : SinkState) → HasTaken run old bytes state → TakesBytes run (Err halt.Memory) new (bytes ++ byte ∷ []) state
byte_dropped run old new bytes byte state taken = (bytes, byte ∷ [], refl, taken.done)

-- the bytes so far and the next one
pub bytes_more : (bytes piece : List ℕ) (i : ℕ) → i < length piece → (bytes ++ take i piece) ++ get_or piece i 0 ∷ [] ≡ bytes ++ take (i + 1) piece
bytes_more bytes piece i inside = append_assoc bytes (take i piece) (get_or piece i 0 ∷ []) ∙ ap (λ (l : List ℕ). bytes ++ l) (sym (take_more piece i 0 inside))

-- a run that stopped within some bytes stopped within more of them
pub stopped_before : (run : Run) (reason : Halt) (script : Script) (bytes more : List ℕ) (state : SinkState) → TakesBytes run (Err reason) script bytes state → TakesBytes run (Err reason) script (bytes ++ more) state
stopped_before run reason script bytes more state stops =
    (stops.0, stops.1 ++ more, ap (λ (l : List ℕ). l ++ more) stops.2 ∙ append_assoc stops.0 stops.1 more, stops.3)
