-- A script without a line that changes nothing has the events, and the rest of the output, of the script with it.
use Rattle.std.proofs.Common.{◌≡◌, ℕ, Bool, true, false, cond, List, [], ◌∷◌, ◌++◌, refl, sym, ap, ◌∙◌, subst, append_assoc, append-nil, if◌then◌else◌}
use Rattle.std.specs.Prelude.{Some, None}
use Rattle.std.specs.List.{list_any}
use Rattle.std.proofs.lemmas.Bool.{false≢true}
use Rattle.amcp_text.specs.Lines.{is_line_end}
use Rattle.play_types.specs.declared.event.Tag.{Tag}
use Rattle.history_model.specs.scripts.Line.{ScriptLine, Comment, Ticks, Said, Stop, Rejected}
use Rattle.history_model.specs.scripts.History.{Playout, PlayedLine, Past, ends_at, events_after, events_at, goes_on, goes_on_after, is_kill, said_step, same_tag, script_events, step_events, text_by, turn_of}
use Rattle.history_model.specs.scripts.Output.{output_after, answer_output, output_at, script_output, step_reply, ticks_output}
use Rattle.history_model.specs.sessions.Request.{text_token}
use Rattle.history_model.specs.scripts.Memory.{AreLines, IsOneLine, lines_played}
use Rattle.history_model.specs.scripts.Struck.{ChangesNothing, IsIdleLine}
use Rattle.history_model.proofs.OpenBatch.{LeavesBatch}
use Rattle.history_model.proofs.Outputs.{goes_on-snoc, script_events-snoc}
use Rattle.history_model.proofs.Sides.{Side, Side-none, Side-other, Side-said, has_ended, own_step, said_step-own}
use Rattle.history_model.proofs.Tags.{same_tag-equal, text_by-else, text_by-own}
use Rattle.history_model.proofs.Besides.{Beside, Beside-other, Beside-said, Beside-struck, Beside-untouched, no_events, no_kill, own_idle, said_step-same}

-- both runs go on after these lines, and have equal events
record AtBoth (playout : Playout) (a b : List PlayedLine) : Type 0 where
  long : goes_on playout a ≡ true
  short : goes_on playout b ≡ true
  events : script_events playout a ≡ script_events playout b
  beside : (tag : Tag) → Beside playout tag a b

abbrev past_of : Playout → List PlayedLine → Past
past_of playout before = record { lines = before; events = script_events playout before }

-- a line has equal output and events after both
record IsLike (playout : Playout) (a b : List PlayedLine) (line : PlayedLine) (says : ScriptLine) : Type 0 where
  output : output_at playout a line says ≡ output_at playout b line says
  events : events_at playout (past_of playout a) line says ≡ events_at playout (past_of playout b) line says
  ends : ends_at playout a line says ≡ ends_at playout b line says
  beside : (tag : Tag) → Beside playout tag (a ++ line ∷ []) (b ++ line ∷ [])

beside_by : (playout : Playout) (a b : List PlayedLine) (line : PlayedLine) (tag other : Tag) (text : List ℕ) (same : Bool) →
    line.line ≡ Said tag text → same_tag other tag ≡ same → Beside playout other a b → Beside playout tag (a ++ line ∷ []) (b ++ line ∷ []) →
    Beside playout other (a ++ line ∷ []) (b ++ line ∷ [])
beside_by playout a b line tag other text true says is was now =
    subst (λ t. Beside playout t (a ++ line ∷ []) (b ++ line ∷ [])) (sym (same_tag-equal other tag is)) now
beside_by playout a b line tag other text false says is was now =
    Beside-other playout other a b line (text_by-else tag other line text says is) was

line_like : (playout : Playout) (a b : List PlayedLine) (line : PlayedLine) (says : ScriptLine) → line.line ≡ says → AtBoth playout a b →
    IsOneLine says → IsLike playout a b line says
line_like playout a b line Comment is h one = record {
  output = refl;
  events = refl;
  ends = refl;
  beside = λ tag. Beside-other playout tag a b line (ap (text_by tag) is) (h.beside tag);
}
line_like playout a b line (Ticks count) is h one = record {
  output = ap (λ events. ticks_output playout events count) h.events;
  events = refl;
  ends = refl;
  beside = λ tag. Beside-other playout tag a b line (ap (text_by tag) is) (h.beside tag);
}
line_like playout a b line (Said tag text) is h one =
    let same = said_step-same playout tag a b line text (text_by-own tag line text is) one (h.beside tag) in
    record {
      output = λ i. answer_output playout tag (text_token text) (step_reply (turn_of playout (h.events i) line tag) (same i));
      events = λ i. step_events (turn_of playout (h.events i) line tag) (same i);
      ends = ap is_kill same;
      beside = λ other.
          beside_by playout a b line tag other text (same_tag other tag) is refl (h.beside other)
          (Beside-said playout tag a b line text (text_by-own tag line text is) one (h.beside tag));
    }
line_like playout a b line Stop is h one = record {
  output = refl;
  events = refl;
  ends = refl;
  beside = λ tag. Beside-other playout tag a b line (ap (text_by tag) is) (h.beside tag);
}
line_like playout a b line Rejected is h one = record {
  output = refl;
  events = refl;
  ends = refl;
  beside = λ tag. Beside-other playout tag a b line (ap (text_by tag) is) (h.beside tag);
}

AtBoth-next : (playout : Playout) (a b : List PlayedLine) (line : PlayedLine) → AtBoth playout a b → IsLike playout a b line line.line →
    ends_at playout a line line.line ≡ false → AtBoth playout (a ++ line ∷ []) (b ++ line ∷ [])
AtBoth-next playout a b line h like goes = record {
  long = goes_on-snoc playout a line h.long goes;
  short = goes_on-snoc playout b line h.short (sym like.ends ∙ goes);
  events =
      script_events-snoc playout a line h.long
      ∙ (λ i. h.events i ++ like.events i)
      ∙ sym (script_events-snoc playout b line h.short);
  beside = like.beside;
}

-- the lines that follow have equal output and events after both
record AreLike (playout : Playout) (a b lines : List PlayedLine) : Type 0 where
  output : output_after playout a lines ≡ output_after playout b lines
  events : events_after playout (past_of playout a) lines ≡ events_after playout (past_of playout b) lines

-- the lines and the events that were played once one more line is
abbrev next_past : Playout → List PlayedLine → PlayedLine → Past
next_past playout before line = record {
  lines = before ++ line ∷ [];
  events = script_events playout before ++ events_at playout (past_of playout before) line line.line;
}

like_ended : (playout : Playout) (a b : List PlayedLine) (line : PlayedLine) (lines : List PlayedLine) → AtBoth playout a b →
    IsLike playout a b line line.line → ends_at playout a line line.line ≡ true → AreLike playout a b (line ∷ lines)
unfolding output_after events_after
like_ended playout a b line lines h like is =
    let is' = sym like.ends ∙ is in
    record {
      output =
          ap (λ (ends : Bool). output_at playout a line line.line ++ cond ends [] (output_after playout (a ++ line ∷ []) lines)) is
          ∙ (λ i. like.output i ++ [])
          ∙ sym (ap (λ (ends : Bool). output_at playout b line line.line ++ cond ends [] (output_after playout (b ++ line ∷ []) lines)) is');
      events =
          ap (λ (ends : Bool). cond ends (next_past playout a line).events (events_after playout (next_past playout a line) lines)) is
          ∙ (λ i. h.events i ++ like.events i)
          ∙ sym (ap (λ (ends : Bool). cond ends (next_past playout b line).events (events_after playout (next_past playout b line) lines)) is');
    }

like_going : (playout : Playout) (a b : List PlayedLine) (line : PlayedLine) (lines : List PlayedLine) → AtBoth playout a b →
    IsLike playout a b line line.line → ends_at playout a line line.line ≡ false → AreLike playout (a ++ line ∷ []) (b ++ line ∷ []) lines →
    AreLike playout a b (line ∷ lines)
unfolding output_after events_after
like_going playout a b line lines h like is later =
    let is' = sym like.ends ∙ is in
    record {
      output =
          ap (λ (ends : Bool). output_at playout a line line.line ++ cond ends [] (output_after playout (a ++ line ∷ []) lines)) is
          ∙ (λ i. like.output i ++ later.output i)
          ∙ sym (ap (λ (ends : Bool). output_at playout b line line.line ++ cond ends [] (output_after playout (b ++ line ∷ []) lines)) is');
      events =
          ap (λ (ends : Bool). cond ends (next_past playout a line).events (events_after playout (next_past playout a line) lines)) is
          ∙ ap (λ events. events_after playout (record { lines = a ++ line ∷ []; events = events }) lines) (sym (script_events-snoc playout a line h.long))
          ∙ later.events
          ∙ ap (λ events. events_after playout (record { lines = b ++ line ∷ []; events = events }) lines) (script_events-snoc playout b line h.short)
          ∙ sym (ap (λ (ends : Bool). cond ends (next_past playout b line).events (events_after playout (next_past playout b line) lines)) is');
    }

like_by : (playout : Playout) (a b : List PlayedLine) (line : PlayedLine) (lines : List PlayedLine) (ends : Bool) →
    ends_at playout a line line.line ≡ ends → AtBoth playout a b → IsLike playout a b line line.line →
    (AtBoth playout (a ++ line ∷ []) (b ++ line ∷ []) → AreLike playout (a ++ line ∷ []) (b ++ line ∷ []) lines) →
    AreLike playout a b (line ∷ lines)
like_by playout a b line lines true is h like each = like_ended playout a b line lines h like is
like_by playout a b line lines false is h like each =
    like_going playout a b line lines h like is (each (AtBoth-next playout a b line h like is))

all_like : (playout : Playout) (a b lines : List PlayedLine) → AtBoth playout a b → AreLines (lines_played lines) → AreLike playout a b lines
unfolding output_after events_after
all_like playout a b [] h whole = record { output = refl; events = h.events }
all_like playout a b (line ∷ lines) h whole =
    let like = line_like playout a b line line.line refl h whole.0 in
    like_by playout a b line lines (ends_at playout a line line.line) refl h like
    (λ at. all_like playout (a ++ line ∷ []) (b ++ line ∷ []) lines at whole.1)

-- `Side` holds of each connection after one more line
side_by : (other tag : Tag) (before : List PlayedLine) (line : PlayedLine) (text : List ℕ) (same : Bool) → line.line ≡ Said tag text →
    same_tag other tag ≡ same → list_any is_line_end text ≡ false → Side other before → Side other (before ++ line ∷ [])
side_by other tag before line text true says is one h =
    Side-said other before line text (ap (text_by other) says ∙ ap (λ (b : Bool). if b then Some text else None) is) one h
side_by other tag before line text false says is one h = Side-other other before line (text_by-else tag other line text says is) h

side_after : (other : Tag) (before : List PlayedLine) (line : PlayedLine) (says : ScriptLine) → line.line ≡ says →
    IsOneLine says → Side other before → Side other (before ++ line ∷ [])
side_after other before line Comment is one h = Side-other other before line (ap (text_by other) is) h
side_after other before line (Ticks count) is one h = Side-other other before line (ap (text_by other) is) h
side_after other before line (Said tag text) is one h = side_by other tag before line text (same_tag other tag) is refl one h
side_after other before line Stop is one h = Side-other other before line (ap (text_by other) is) h
side_after other before line Rejected is one h = Side-other other before line (ap (text_by other) is) h

sides : (tag : Tag) (before lines : List PlayedLine) → Side tag before → AreLines (lines_played lines) → Side tag (before ++ lines)
sides tag before [] h whole = subst (Side tag) (sym (append-nil before)) h
sides tag before (line ∷ lines) h whole =
    subst (Side tag) (append_assoc before (line ∷ []) lines)
    (sides tag (before ++ line ∷ []) lines (side_after tag before line line.line refl whole.0 h) whole.1)

-- no text of the lines before and after one, or of that one, has a line end
line_parts : (before : List PlayedLine) (line : PlayedLine) (later : List PlayedLine) → AreLines (lines_played (before ++ line ∷ later)) →
    AreLines (lines_played before) × AreLines (lines_played (line ∷ later))
line_parts [] line later whole = (tt, whole)
line_parts (first ∷ before) line later whole = let rest = line_parts before line later whole.1 in ((whole.0, rest.0), rest.1)

-- a connection after the struck line and without it
struck_by : (playout : Playout) (before : List PlayedLine) (line : PlayedLine) (tag other : Tag) (text : List ℕ) (same : Bool) →
    line.line ≡ Said tag text → same_tag other tag ≡ same → list_any is_line_end text ≡ false →
    (has_ended playout tag before ≡ false → LeavesBatch (own_step playout tag before text line.given_up)) →
    Side tag before → Side other before → Beside playout other (before ++ line ∷ []) before
struck_by playout before line tag other text true says is one idle own h =
    subst (λ t. Beside playout t (before ++ line ∷ []) before) (sym (same_tag-equal other tag is))
    (Beside-struck playout tag before line text (text_by-own tag line text says) one idle own)
struck_by playout before line tag other text false says is one idle own h =
    Beside-untouched playout other before line (text_by-else tag other line text says is) h

-- what is known of a struck line
record IsStruck (playout : Playout) (before : List PlayedLine) (line : PlayedLine) : Type 0 where
  at : AtBoth playout (before ++ line ∷ []) before
  goes : ends_at playout before line line.line ≡ false

struck_said : (playout : Playout) (before : List PlayedLine) (line : PlayedLine) (tag : Tag) (text : List ℕ) → line.line ≡ Said tag text →
    goes_on playout before ≡ true → list_any is_line_end text ≡ false → ((one : Tag) → Side one before) →
    ChangesNothing (turn_of playout (script_events playout before) line tag) (said_step playout before line tag) → IsStruck playout before line
struck_said playout before line tag text says goes one each idle =
    let turn = turn_of playout (script_events playout before) line tag in
    let own = said_step-own playout tag before line text (text_by-own tag line text says) one (each tag) in
    let still : ends_at playout before line line.line ≡ false = ap (ends_at playout before line) says ∙ no_kill turn (said_step playout before line tag) idle in
    let none : events_at playout (past_of playout before) line line.line ≡ [] =
    ap (events_at playout (past_of playout before) line) says ∙ no_events turn (said_step playout before line tag) idle in
    record {
      at = record {
        long = goes_on-snoc playout before line goes still;
        short = goes;
        events =
            script_events-snoc playout before line goes ∙ ap (λ events. script_events playout before ++ events) none
            ∙ append-nil (script_events playout before);
        beside = λ other.
            struck_by playout before line tag other text (same_tag other tag) says refl one
            (own_idle turn (has_ended playout tag before) (own_step playout tag before text line.given_up) (subst (ChangesNothing turn) own idle))
            (each tag) (each other);
      };
      goes = still;
    }

-- a comment changes nothing for any connection
struck_comment : (playout : Playout) (before : List PlayedLine) (line : PlayedLine) → line.line ≡ Comment →
    goes_on playout before ≡ true → ((one : Tag) → Side one before) → IsStruck playout before line
struck_comment playout before line says goes each =
    let still : ends_at playout before line line.line ≡ false = ap (ends_at playout before line) says in
    record {
      at = record {
        long = goes_on-snoc playout before line goes still;
        short = goes;
        events =
            script_events-snoc playout before line goes
            ∙ ap (λ says. script_events playout before ++ events_at playout (past_of playout before) line says) says
            ∙ append-nil (script_events playout before);
        beside = λ other. Beside-untouched playout other before line (ap (text_by other) says) (each other);
      };
      goes = still;
    }

struck : (playout : Playout) (before : List PlayedLine) (line : PlayedLine) (says : ScriptLine) → line.line ≡ says →
    goes_on playout before ≡ true → IsOneLine says → ((one : Tag) → Side one before) →
    IsIdleLine playout before line says → IsStruck playout before line
struck playout before line Comment is goes one each idle = struck_comment playout before line is goes each
struck playout before line (Ticks count) is goes one each idle = absurd idle
struck playout before line (Said tag text) is goes one each idle = struck_said playout before line tag text is goes one each idle
struck playout before line Stop is goes one each idle = absurd idle
struck playout before line Rejected is goes one each idle = absurd idle

-- the output and the events of lines after which the run goes on, and of lines after them
goes_first : (b more : Bool) → cond b false more ≡ true → (b ≡ false) × (more ≡ true)
goes_first true more on = absurd (false≢true on)
goes_first false more on = (refl, on)

output-parts : (playout : Playout) (before lines later : List PlayedLine) → goes_on_after playout before lines ≡ true →
    output_after playout before (lines ++ later) ≡ output_after playout before lines ++ output_after playout (before ++ lines) later
unfolding output_after goes_on_after
output-parts playout before [] later on = ap (λ ls. output_after playout ls later) (sym (append-nil before))
output-parts playout before (line ∷ lines) later on =
    let here = output_at playout before line line.line in
    let next = before ++ line ∷ [] in
    let parts = goes_first (ends_at playout before line line.line) (goes_on_after playout next lines) on in
    ap (λ (ends : Bool). here ++ cond ends [] (output_after playout next (lines ++ later))) parts.0
    ∙ ap (λ rest. here ++ rest) (output-parts playout next lines later parts.1)
    ∙ ap (λ ls. here ++ (output_after playout next lines ++ output_after playout ls later)) (append_assoc before (line ∷ []) lines)
    ∙ sym (append_assoc here (output_after playout next lines) (output_after playout (before ++ line ∷ lines) later))
    ∙ ap (λ (ends : Bool). (here ++ cond ends [] (output_after playout next lines)) ++ output_after playout (before ++ line ∷ lines) later) (sym parts.0)

events-parts : (playout : Playout) (past : Past) (lines later : List PlayedLine) → goes_on_after playout past.lines lines ≡ true →
    events_after playout past (lines ++ later)
    ≡ events_after playout (record { lines = past.lines ++ lines; events = events_after playout past lines }) later
unfolding events_after goes_on_after
events-parts playout past [] later on =
    ap (λ ls. events_after playout (record { lines = ls; events = past.events }) later) (sym (append-nil past.lines))
events-parts playout past (line ∷ lines) later on =
    let next : Past = record { lines = past.lines ++ line ∷ []; events = past.events ++ events_at playout past line line.line } in
    let parts = goes_first (ends_at playout past.lines line line.line) (goes_on_after playout next.lines lines) on in
    ap (λ (ends : Bool). cond ends next.events (events_after playout next (lines ++ later))) parts.0
    ∙ events-parts playout next lines later parts.1
    ∙ ap (λ ls. events_after playout (record { lines = ls; events = events_after playout next lines }) later) (append_assoc past.lines (line ∷ []) lines)
    ∙ ap (λ (ends : Bool). events_after playout (record { lines = past.lines ++ line ∷ lines; events = cond ends next.events (events_after playout next lines) }) later)
    (sym parts.0)

after_struck : (playout : Playout) (before : List PlayedLine) (line : PlayedLine) (later : List PlayedLine) → AreLines (lines_played (before ++ line ∷ later)) →
    goes_on playout before ≡ true → IsIdleLine playout before line line.line →
    IsStruck playout before line × AreLike playout (before ++ line ∷ []) before later
after_struck playout before line later whole goes idle =
    let parts = line_parts before line later whole in
    let is : IsStruck playout before line = struck playout before line line.line refl goes parts.1.0
    (λ tag. sides tag [] before (Side-none tag) parts.0) idle in
    (is, all_like playout (before ++ line ∷ []) before later is.at parts.1.1)

pub output-struck : (playout : Playout) (before : List PlayedLine) (line : PlayedLine) (later : List PlayedLine) → AreLines (lines_played (before ++ line ∷ later)) →
    goes_on playout before ≡ true → IsIdleLine playout before line line.line →
    (rest : List ℕ)
    × (script_output playout (before ++ line ∷ later) ≡ script_output playout before ++ output_at playout before line line.line ++ rest)
    × (script_output playout (before ++ later) ≡ script_output playout before ++ rest)
unfolding script_output output_after goes_on
output-struck playout before line later whole goes idle =
    let (is, like) = after_struck playout before line later whole goes idle in
    let here = output_at playout before line line.line in (
      output_after playout before later,
      output-parts playout [] before (line ∷ later) goes
          ∙ ap (λ (ends : Bool). output_after playout [] before ++ (here ++ cond ends [] (output_after playout (before ++ line ∷ []) later))) is.goes
          ∙ ap (λ rest. output_after playout [] before ++ (here ++ rest)) like.output
          ∙ sym (append_assoc (output_after playout [] before) here (output_after playout before later)),
      output-parts playout [] before later goes,
    )

pub events-struck : (playout : Playout) (before : List PlayedLine) (line : PlayedLine) (later : List PlayedLine) → AreLines (lines_played (before ++ line ∷ later)) →
    goes_on playout before ≡ true → IsIdleLine playout before line line.line →
    script_events playout (before ++ line ∷ later) ≡ script_events playout (before ++ later)
unfolding script_events goes_on
events-struck playout before line later whole goes idle =
    let (is, like) = after_struck playout before line later whole goes idle in
    let start : Past = record { lines = []; events = [] } in
    ap (events_after playout start) (sym (append_assoc before (line ∷ []) later))
    ∙ events-parts playout start (before ++ line ∷ []) later is.at.long
    ∙ like.events
    ∙ sym (events-parts playout start before later goes)
