-- Two runs of equal lines in which memory does not run out are equal: each is the run of its lines without marks.
use Rattle.std.proofs.Common.{◌≡◌, ℕ, Bool, true, false, true≢false, cond, inl, inr, List, [], ◌∷◌, ◌++◌, length, map, refl, sym, ap, ◌∙◌, subst, if◌then◌else◌}
use Rattle.std.specs.Prelude.{Option, Some, None}
use Rattle.play_types.specs.Commands.{command_name}
use Rattle.play_types.specs.declared.answer.Answer.{Answer}
use Rattle.play_types.specs.declared.event.Event.TheVariants as event
use Rattle.play_types.specs.declared.event.Tag.{Tag}
use Rattle.play_types.specs.declared.reply.Name.{Name}
use Rattle.play_types.specs.declared.reply.Name.TheVariants as name
use Rattle.play_types.specs.declared.reply.Reply.{Reply}
use Rattle.play_types.specs.declared.reply.Reply.TheVariants as reply
use Rattle.history_model.specs.stage.Acts.{is_refused}
use Rattle.history_model.specs.stage.Answer.{command_answer, outcome_of}
use Rattle.history_model.specs.sessions.Session.{Step, Local, Ask, AskBatch, KillServer, EndConnection, Skip}
use Rattle.history_model.specs.scripts.Line.{ScriptLine, Comment, Ticks, Said, Stop, Rejected}
use Rattle.history_model.specs.scripts.History.{Playout, PlayedLine, Past, Turn, Verdict, JournalFull, OutOfMemory, Taken, ends_at, events_after, events_at, goes_on, is_full, is_kill, said_step, same_tag, script_events, setup_of, step_events, text_by, turn_of, verdict, verdict_events}
use Rattle.history_model.specs.scripts.Replies.{replies_after, reply_list, script_replies}
use Rattle.history_model.specs.scripts.Output.{output_after, output_at, answer_output, script_output, step_reply, ticks_output, verdict_reply}
use Rattle.history_model.specs.sessions.Request.{text_token}
use Rattle.history_model.specs.scripts.Memory.{AreLines, HasMemory, HasMemoryAfter, HadMemoryIfAny, HadMemory, IsOneLine, UnlessEnded, lines_played, reply_at}
use Rattle.history_model.proofs.Outputs.{goes_on-none, goes_on-snoc, script_events-snoc}
use Rattle.history_model.proofs.Tags.{same_tag-equal, text_by-else, text_by-own}
use Rattle.history_model.proofs.Unmarked.{Keeps, Keeps-none, Keeps-other, Outcome, outcome, unmarked, unmarked-append}

-- if memory does not run out, no line is answered 500
no_500 : (turn : Turn) (found : Option Step) → found ≡ Some (Local reply.NoMemory) → HadMemoryIfAny (step_reply turn found) → ⊥
no_500 turn found is h = absurd (true≢false (subst (λ f. HadMemoryIfAny (step_reply turn f)) is h))

-- nor is a command or a batch answered 501, so its verdict is that with memory
verdict_by : Bool → Bool → Verdict
verdict_by full no_memory = if full then JournalFull else if no_memory then OutOfMemory else Taken

with_memory_by : (asked : Name) (found : Answer) (full no_memory : Bool) →
    HadMemory (verdict_reply asked found (verdict_by full no_memory)) → verdict_by full no_memory ≡ verdict_by full false
unfolding verdict_by
with_memory_by asked found true no_memory h = refl
with_memory_by asked found false false h = refl
with_memory_by asked found false true h = absurd (true≢false h)

-- a request to the stage, with memory for it
abbrev with_memory : Turn → Turn
with_memory turn = record { playout = turn.playout; events = turn.events; tag = turn.tag; no_memory = false }

verdict-with_memory : (turn : Turn) (asked : Name) (found : Answer) (commands : ℕ) →
    HadMemory (verdict_reply asked found (verdict turn commands)) → verdict turn commands ≡ verdict (with_memory turn) commands
unfolding verdict_by
verdict-with_memory turn asked found commands h =
    with_memory_by asked found (is_full turn.playout turn.events commands) turn.no_memory h

-- the reply and the events of a step are those of the request with memory
record IsWithMemory (turn : Turn) (found : Option Step) : Type 0 where
  reply : step_reply turn found ≡ step_reply (with_memory turn) found
  events : step_events turn found ≡ step_events (with_memory turn) found

step-with_memory : (turn : Turn) (found : Option Step) → HadMemoryIfAny (step_reply turn found) → IsWithMemory turn found
step-with_memory turn None h = record { reply = refl; events = refl }
step-with_memory turn (Some (Local answer)) h = record { reply = refl; events = refl }
step-with_memory turn (Some (Ask command)) h =
    let asked : Name = command_name command in
    let found : Answer = command_answer (setup_of turn.playout) turn.events (is_refused turn.events (event.Do turn.tag command)) command in
    let same = verdict-with_memory turn asked found 1 h in
    record {
      reply = ap (λ v. Some (verdict_reply asked found v)) same;
      events = ap (verdict_events (event.Do turn.tag command)) same;
    }
step-with_memory turn (Some (AskBatch commands)) h =
    let found : Answer = outcome_of (is_refused turn.events (event.Batch turn.tag commands)) in
    let same = verdict-with_memory turn name.Commit found (length commands) h in
    record {
      reply = ap (λ v. Some (verdict_reply name.Commit found v)) same;
      events = ap (verdict_events (event.Batch turn.tag commands)) same;
    }
step-with_memory turn (Some KillServer) h = record { reply = refl; events = refl }
step-with_memory turn (Some EndConnection) h = record { reply = refl; events = refl }
step-with_memory turn (Some Skip) h = record { reply = refl; events = refl }

-- after these lines the run goes on, with marks and without, and both have equal events
record At (playout : Playout) (before : List PlayedLine) : Type 0 where
  goes : goes_on playout before ≡ true
  goes_unmarked : goes_on playout (map unmarked before) ≡ true
  events : script_events playout before ≡ script_events playout (map unmarked before)
  keeps : (tag : Tag) → Keeps playout tag before

abbrev past_of : Playout → List PlayedLine → Past
past_of playout before = record { lines = before; events = script_events playout before }

-- a line has the output and the events that it has without marks
record IsLike (playout : Playout) (before : List PlayedLine) (line : PlayedLine) (says : ScriptLine) : Type 0 where
  output : output_at playout before line says ≡ output_at playout (map unmarked before) (unmarked line) says
  reply : reply_at playout before line says ≡ reply_at playout (map unmarked before) (unmarked line) says
  events : events_at playout (past_of playout before) line says ≡ events_at playout (past_of playout (map unmarked before)) (unmarked line) says
  ends : ends_at playout before line says ≡ ends_at playout (map unmarked before) (unmarked line) says
  keeps : (tag : Tag) → Keeps playout tag (before ++ line ∷ [])

-- `Keeps` holds of each connection after a line of one of them
keeps_by : (playout : Playout) (before : List PlayedLine) (line : PlayedLine) (tag other : Tag) (text : List ℕ) (same : Bool) →
    line.line ≡ Said tag text → same_tag other tag ≡ same → Keeps playout other before → Keeps playout tag (before ++ line ∷ []) →
    Keeps playout other (before ++ line ∷ [])
keeps_by playout before line tag other text true says is was now =
    subst (λ t. Keeps playout t (before ++ line ∷ [])) (sym (same_tag-equal other tag is)) now
keeps_by playout before line tag other text false says is was now =
    Keeps-other playout other before line (text_by-else tag other line text says is) was

said_like : (playout : Playout) (before : List PlayedLine) (line : PlayedLine) (tag : Tag) (text : List ℕ) → line.line ≡ Said tag text →
    At playout before → HadMemoryIfAny (reply_at playout before line (Said tag text)) → Outcome playout tag before line →
    IsLike playout before line (Said tag text)
said_like playout before line tag text says h without (inl lost) =
    absurd (no_500 (turn_of playout (script_events playout before) line tag) (said_step playout before line tag) lost without)
said_like playout before line tag text says h without (inr (same, now)) =
    let turn = turn_of playout (script_events playout before) line tag in
    let like = step-with_memory turn (said_step playout before line tag) without in
    let reply = like.reply ∙ λ i. step_reply (record { playout = playout; events = h.events i; tag = tag; no_memory = false }) (same i) in
    record {
      output = ap (answer_output playout tag (text_token text)) reply;
      reply = reply;
      events = like.events ∙ λ i. step_events (record { playout = playout; events = h.events i; tag = tag; no_memory = false }) (same i);
      ends = ap is_kill same;
      keeps = λ other. keeps_by playout before line tag other text (same_tag other tag) says refl (h.keeps other) now;
    }

line_like : (playout : Playout) (before : List PlayedLine) (line : PlayedLine) (says : ScriptLine) → line.line ≡ says → At playout before →
    IsOneLine says → HadMemoryIfAny (reply_at playout before line says) → IsLike playout before line says
line_like playout before line Comment is h one without = record {
  output = refl;
  reply = refl;
  events = refl;
  ends = refl;
  keeps = λ tag. Keeps-other playout tag before line (ap (text_by tag) is) (h.keeps tag);
}
line_like playout before line (Ticks count) is h one without = record {
  output = ap (λ events. ticks_output playout events count) h.events;
  reply = refl;
  events = refl;
  ends = refl;
  keeps = λ tag. Keeps-other playout tag before line (ap (text_by tag) is) (h.keeps tag);
}
line_like playout before line (Said tag text) is h one without =
    said_like playout before line tag text is h without
    (outcome playout tag before line text (text_by-own tag line text is) one (h.keeps tag))
line_like playout before line Stop is h one without = record {
  output = refl;
  reply = refl;
  events = refl;
  ends = refl;
  keeps = λ tag. Keeps-other playout tag before line (ap (text_by tag) is) (h.keeps tag);
}
line_like playout before line Rejected is h one without = record {
  output = refl;
  reply = refl;
  events = refl;
  ends = refl;
  keeps = λ tag. Keeps-other playout tag before line (ap (text_by tag) is) (h.keeps tag);
}

-- both runs go on after the line
At-next : (playout : Playout) (before : List PlayedLine) (line : PlayedLine) → At playout before → IsLike playout before line line.line →
    ends_at playout before line line.line ≡ false → At playout (before ++ line ∷ [])
At-next playout before line h like goes =
    let whole = unmarked-append before line in
    record {
      goes = goes_on-snoc playout before line h.goes goes;
      goes_unmarked =
          ap (goes_on playout) (sym whole) ∙ goes_on-snoc playout (map unmarked before) (unmarked line) h.goes_unmarked (sym like.ends ∙ goes);
      events =
          script_events-snoc playout before line h.goes
          ∙ (λ i. h.events i ++ like.events i)
          ∙ sym (script_events-snoc playout (map unmarked before) (unmarked line) h.goes_unmarked)
          ∙ ap (script_events playout) whole;
      keeps = like.keeps;
    }

-- lines that follow have the output and the events that they have without marks
record AreLike (playout : Playout) (before lines : List PlayedLine) : Type 0 where
  output : output_after playout before lines ≡ output_after playout (map unmarked before) (map unmarked lines)
  replies : replies_after playout before lines ≡ replies_after playout (map unmarked before) (map unmarked lines)
  events : events_after playout (past_of playout before) lines ≡ events_after playout (past_of playout (map unmarked before)) (map unmarked lines)

-- a line at which the run ends
like_ended : (playout : Playout) (before : List PlayedLine) (line : PlayedLine) (lines : List PlayedLine) → At playout before →
    IsLike playout before line line.line → ends_at playout before line line.line ≡ true → AreLike playout before (line ∷ lines)
unfolding output_after replies_after events_after
like_ended playout before line lines h like is =
    let is' = sym like.ends ∙ is in
    let next : Past = record { lines = before ++ line ∷ []; events = script_events playout before ++ events_at playout (past_of playout before) line line.line } in
    let plain : List PlayedLine = map unmarked before in
    let next' : Past = record {
      lines = plain ++ unmarked line ∷ [];
      events = script_events playout plain ++ events_at playout (past_of playout plain) (unmarked line) line.line;
    } in
    record {
      output = λ i. like.output i ++ ended_rest (output_after playout next.lines lines) (output_after playout next'.lines (map unmarked lines)) is is' i;
      replies =
          λ i. reply_list (like.reply i) ++ ended_rest (replies_after playout next.lines lines) (replies_after playout next'.lines (map unmarked lines)) is is' i;
      events =
          ap (λ (b : Bool). cond b next.events (events_after playout next lines)) is
          ∙ (λ i. h.events i ++ like.events i)
          ∙ sym (ap (λ (b : Bool). cond b next'.events (events_after playout next' (map unmarked lines))) is');
    }
  where
    ended_rest : {A : Type 0} {one other : Bool} (x y : List A) → one ≡ true → other ≡ true → cond one [] x ≡ cond other [] y
    ended_rest x y p q = ap (λ (b : Bool). cond b [] x) p ∙ sym (ap (λ (b : Bool). cond b [] y) q)

-- a line after which the run goes on
like_going : (playout : Playout) (before : List PlayedLine) (line : PlayedLine) (lines : List PlayedLine) → At playout before →
    IsLike playout before line line.line → ends_at playout before line line.line ≡ false → AreLike playout (before ++ line ∷ []) lines →
    AreLike playout before (line ∷ lines)
unfolding output_after replies_after events_after
like_going playout before line lines h like is later =
    let is' = sym like.ends ∙ is in
    let whole = unmarked-append before line in
    let plain : List PlayedLine = map unmarked before in
    let next : Past = record { lines = before ++ line ∷ []; events = script_events playout before ++ events_at playout (past_of playout before) line line.line } in
    let next' : Past = record {
      lines = plain ++ unmarked line ∷ [];
      events = script_events playout plain ++ events_at playout (past_of playout plain) (unmarked line) line.line;
    } in
    let made : script_events playout next.lines ≡ next.events = script_events-snoc playout before line h.goes in
    let made' : script_events playout (map unmarked next.lines) ≡ next'.events =
    ap (script_events playout) (sym whole) ∙ script_events-snoc playout plain (unmarked line) h.goes_unmarked in
    record {
      output =
          (λ i. like.output i ++ cond (is i) [] (output_after playout next.lines lines))
          ∙ ap (λ (rest : List ℕ). output_at playout plain (unmarked line) line.line ++ rest)
          (later.output ∙ ap (λ ls. output_after playout ls (map unmarked lines)) (sym whole))
          ∙ ap (λ (b : Bool). output_at playout plain (unmarked line) line.line ++ cond b [] (output_after playout next'.lines (map unmarked lines))) (sym is');
      replies =
          (λ i. reply_list (like.reply i) ++ cond (is i) [] (replies_after playout next.lines lines))
          ∙ ap (λ (rest : List Reply). reply_list (reply_at playout plain (unmarked line) line.line) ++ rest)
          (later.replies ∙ ap (λ ls. replies_after playout ls (map unmarked lines)) (sym whole))
          ∙ ap (λ (b : Bool). reply_list (reply_at playout plain (unmarked line) line.line) ++ cond b [] (replies_after playout next'.lines (map unmarked lines))) (sym is');
      events =
          ap (λ (b : Bool). cond b next.events (events_after playout next lines)) is
          ∙ ap (λ events. events_after playout (record { lines = next.lines; events = events }) lines) (sym made)
          ∙ later.events
          ∙ (λ i. events_after playout (record { lines = sym whole i; events = made' i }) (map unmarked lines))
          ∙ sym (ap (λ (b : Bool). cond b next'.events (events_after playout next' (map unmarked lines))) is');
    }

like_by : (playout : Playout) (before : List PlayedLine) (line : PlayedLine) (lines : List PlayedLine) (ends : Bool) →
    ends_at playout before line line.line ≡ ends → At playout before → IsLike playout before line line.line →
    UnlessEnded (ends_at playout before line line.line) (HasMemoryAfter playout (before ++ line ∷ []) lines) →
    (At playout (before ++ line ∷ []) → HasMemoryAfter playout (before ++ line ∷ []) lines → AreLike playout (before ++ line ∷ []) lines) →
    AreLike playout before (line ∷ lines)
like_by playout before line lines true is h like without each = like_ended playout before line lines h like is
like_by playout before line lines false is h like without each =
    like_going playout before line lines h like is
    (each (At-next playout before line h like is)
    (subst (λ (b : Bool). UnlessEnded b (HasMemoryAfter playout (before ++ line ∷ []) lines)) is without))

all_like : (playout : Playout) (before lines : List PlayedLine) → At playout before → AreLines (lines_played lines) →
    HasMemoryAfter playout before lines → AreLike playout before lines
unfolding output_after replies_after events_after
all_like playout before [] h one without = record { output = refl; replies = refl; events = h.events }
all_like playout before (line ∷ lines) h one without =
    let like = line_like playout before line line.line refl h one.0 without.0 in
    like_by playout before line lines (ends_at playout before line line.line) refl h like without.1
    (λ at later. all_like playout (before ++ line ∷ []) lines at one.1 later)

-- a run in which memory does not run out is the run of its lines without marks
start : (playout : Playout) → At playout []
start playout = record {
  goes = goes_on-none playout;
  goes_unmarked = goes_on-none playout;
  events = refl;
  keeps = λ tag. Keeps-none playout tag;
}

pub output-unmarked : (playout : Playout) (lines : List PlayedLine) → AreLines (lines_played lines) → HasMemory playout lines →
    script_output playout lines ≡ script_output playout (map unmarked lines)
unfolding script_output
output-unmarked playout lines one without = (all_like playout [] lines (start playout) one without).output

pub replies-unmarked : (playout : Playout) (lines : List PlayedLine) → AreLines (lines_played lines) → HasMemory playout lines →
    script_replies playout lines ≡ script_replies playout (map unmarked lines)
unfolding script_replies
replies-unmarked playout lines one without = (all_like playout [] lines (start playout) one without).replies

pub events-unmarked : (playout : Playout) (lines : List PlayedLine) → AreLines (lines_played lines) → HasMemory playout lines →
    script_events playout lines ≡ script_events playout (map unmarked lines)
unfolding script_output script_events events_after
events-unmarked playout lines one without = (all_like playout [] lines (start playout) one without).events

-- equal lines have one run without marks
played_as : ScriptLine → PlayedLine
played_as line = record { line = line; given_up = false; no_memory = false }

unmarked-lines : (lines : List PlayedLine) → map unmarked lines ≡ map played_as (lines_played lines)
unfolding played_as
unmarked-lines [] = refl
unmarked-lines (line ∷ lines) = ap (λ l. unmarked line ∷ l) (unmarked-lines lines)

unmarked-equal : (one other : List PlayedLine) → lines_played one ≡ lines_played other → map unmarked one ≡ map unmarked other
unmarked-equal one other same = unmarked-lines one ∙ ap (map played_as) same ∙ sym (unmarked-lines other)

pub output-equal : (playout : Playout) (one other : List PlayedLine) → AreLines (lines_played one) → lines_played one ≡ lines_played other →
    HasMemory playout one → HasMemory playout other →
    script_output playout one ≡ script_output playout other
output-equal playout one other lines same without without' =
    output-unmarked playout one lines without ∙ ap (script_output playout) (unmarked-equal one other same)
    ∙ sym (output-unmarked playout other (subst AreLines same lines) without')

pub replies-equal : (playout : Playout) (one other : List PlayedLine) → AreLines (lines_played one) → lines_played one ≡ lines_played other →
    HasMemory playout one → HasMemory playout other →
    script_replies playout one ≡ script_replies playout other
replies-equal playout one other lines same without without' =
    replies-unmarked playout one lines without ∙ ap (script_replies playout) (unmarked-equal one other same)
    ∙ sym (replies-unmarked playout other (subst AreLines same lines) without')

pub events-equal : (playout : Playout) (one other : List PlayedLine) → AreLines (lines_played one) → lines_played one ≡ lines_played other →
    HasMemory playout one → HasMemory playout other →
    script_events playout one ≡ script_events playout other
events-equal playout one other lines same without without' =
    events-unmarked playout one lines without ∙ ap (script_events playout) (unmarked-equal one other same)
    ∙ sym (events-unmarked playout other (subst AreLines same lines) without')
