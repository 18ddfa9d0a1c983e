-- A connection after lines that include one that changes nothing, and after the lines without it.
use Rattle.std.proofs.Common.{◌≡◌, ℕ, Bool, true, false, cond, ◌||◌, List, [], ◌∷◌, ◌++◌, refl, sym, ap, ◌∙◌, subst, subst₂, append-nil, if◌then◌else◌}
use Rattle.std.specs.Prelude.{Option, Some, None}
use Rattle.std.specs.List.{cons_option, list_any}
use Rattle.std.proofs.lemmas.Bool.{false≢true, or_parts}
use Rattle.amcp_text.specs.Lines.{is_line_end, line_of_text, lines_of}
use Rattle.play_types.specs.declared.event.Event.{Event}
use Rattle.play_types.specs.declared.event.Event.TheVariants as event
use Rattle.play_types.specs.declared.event.Tag.{Tag}
use Rattle.play_types.specs.declared.parsed.Parsed.{Parsed}
use Rattle.play_types.specs.declared.reply.Reply.TheVariants as reply
use Rattle.history_model.specs.sessions.Line.{line_meaning}
use Rattle.history_model.specs.sessions.Session.{Step, Local, Ask, AskBatch, KillServer, EndConnection, Skip, asks, is_end, line_steps, step_of_meaning}
use Rattle.history_model.specs.scripts.History.{Playout, PlayedLine, Turn, Verdict, JournalFull, OutOfMemory, Taken, is_kill, said_step, step_events, text_by, verdict, verdict_events}
use Rattle.history_model.specs.scripts.Struck.{ChangesNothing, IsNotTaken}
use Rattle.history_model.proofs.OpenBatch.{IsSameBatch, IsSameBatch-snoc, LeavesBatch, batch-left, same_batch, step-same}
use Rattle.history_model.proofs.Sides.{Side, Side-other, Side-said, asked_of, asked_of-said, has_ended, has_ended-said, own_ask, own_step, said_step-own}
use Rattle.history_model.proofs.Streams.{given_up_of-other, stream_of-other}

-- a connection after lines with the struck line and without it: it has ended in both, or both have one open batch
pub record Beside (playout : Playout) (tag : Tag) (a b : List PlayedLine) : Type 0 where
  pub long : Side tag a
  pub short : Side tag b
  pub ended : has_ended playout tag a ≡ has_ended playout tag b
  pub batch : has_ended playout tag a ≡ false → IsSameBatch (asked_of playout tag a) (asked_of playout tag b)

pub same_asks : (playout : Playout) (tag : Tag) (before : List PlayedLine) (line : PlayedLine) → text_by tag line.line ≡ None →
    asked_of playout tag (before ++ line ∷ []) ≡ asked_of playout tag before
same_asks playout tag before line other =
    λ i. asks playout.config playout.names (given_up_of-other tag before line other i) (lines_of (stream_of-other tag before line other i))

pub same_ended : (playout : Playout) (tag : Tag) (before : List PlayedLine) (line : PlayedLine) → text_by tag line.line ≡ None →
    has_ended playout tag (before ++ line ∷ []) ≡ has_ended playout tag before
same_ended playout tag before line other =
    λ i. list_any is_end (line_steps playout.config playout.names (given_up_of-other tag before line other i) (lines_of (stream_of-other tag before line other i)))

pub Beside-other : (playout : Playout) (tag : Tag) (a b : List PlayedLine) (line : PlayedLine) → text_by tag line.line ≡ None →
    Beside playout tag a b → Beside playout tag (a ++ line ∷ []) (b ++ line ∷ [])
Beside-other playout tag a b line other h = record {
  long = Side-other tag a line other h.long;
  short = Side-other tag b line other h.short;
  ended = same_ended playout tag a line other ∙ h.ended ∙ sym (same_ended playout tag b line other);
  batch = λ going.
      subst₂ IsSameBatch (sym (same_asks playout tag a line other)) (sym (same_asks playout tag b line other))
      (h.batch (sym (same_ended playout tag a line other) ∙ going));
}

more_asked : (a b : List Parsed) (ask : Option Parsed) → IsSameBatch a b → IsSameBatch (a ++ cons_option ask []) (b ++ cons_option ask [])
more_asked a b None h = subst₂ IsSameBatch (sym (append-nil a)) (sym (append-nil b)) h
more_asked a b (Some ask) h = IsSameBatch-snoc a b ask h

-- a connection that goes on has one step for its next line in both
own_step-same : (playout : Playout) (tag : Tag) (a b : List PlayedLine) (text : List ℕ) (given_up : Bool) → Beside playout tag a b →
    has_ended playout tag a ≡ false → own_step playout tag a text given_up ≡ own_step playout tag b text given_up
own_step-same playout tag a b text given_up h going =
    ap (λ (step : Step). if given_up then Local reply.NoMemory else step)
    (step-same (asked_of playout tag a) (asked_of playout tag b) (line_meaning playout.config playout.names (line_of_text text)) (h.batch going))

-- the next line has one step in both, also if the connection has ended in both
both_ways : {C : Type 0} (playout : Playout) (tag : Tag) (a b : List PlayedLine) (text : List ℕ) (given_up : Bool) (ended : Bool) (by : Bool → Step → C) →
    ((one other : Step) → by true one ≡ by true other) → Beside playout tag a b → has_ended playout tag a ≡ ended →
    by (has_ended playout tag a) (own_step playout tag a text given_up) ≡ by (has_ended playout tag b) (own_step playout tag b text given_up)
both_ways playout tag a b text given_up true by any h is =
    ap (λ (ended : Bool). by ended (own_step playout tag a text given_up)) is
    ∙ any (own_step playout tag a text given_up) (own_step playout tag b text given_up)
    ∙ sym (ap (λ (ended : Bool). by ended (own_step playout tag b text given_up)) (sym h.ended ∙ is))
both_ways playout tag a b text given_up false by any h is = λ i. by (h.ended i) (own_step-same playout tag a b text given_up h is i)

pub said_step-same : (playout : Playout) (tag : Tag) (a b : List PlayedLine) (line : PlayedLine) (text : List ℕ) → text_by tag line.line ≡ Some text →
    list_any is_line_end text ≡ false → Beside playout tag a b → said_step playout a line tag ≡ said_step playout b line tag
said_step-same playout tag a b line text said one h =
    said_step-own playout tag a line text said one h.long
    ∙ both_ways playout tag a b text line.given_up (has_ended playout tag a) (λ ended step. cond ended None (Some step)) (λ one other. refl) h refl
    ∙ sym (said_step-own playout tag b line text said one h.short)

pub Beside-said : (playout : Playout) (tag : Tag) (a b : List PlayedLine) (line : PlayedLine) (text : List ℕ) → text_by tag line.line ≡ Some text →
    list_any is_line_end text ≡ false → Beside playout tag a b → Beside playout tag (a ++ line ∷ []) (b ++ line ∷ [])
Beside-said playout tag a b line text said one h = record {
  long = Side-said tag a line text said one h.long;
  short = Side-said tag b line text said one h.short;
  ended =
      has_ended-said playout tag a line text said one h.long
      ∙ both_ways playout tag a b text line.given_up (has_ended playout tag a) (λ ended step. ended || is_end step) (λ one other. refl) h refl
      ∙ sym (has_ended-said playout tag b line text said one h.short);
  batch = λ going.
      let parts = or_parts (has_ended playout tag a) (is_end (own_step playout tag a text line.given_up))
      (sym (has_ended-said playout tag a line text said one h.long) ∙ going) in
      subst₂ IsSameBatch (sym (asked_of-said playout tag a line text said one h.long)) (sym (asked_of-said playout tag b line text said one h.short))
      (more_asked (asked_of playout tag a) (asked_of playout tag b) (own_ask playout text line.given_up) (h.batch parts.0));
}

-- the step of the struck line does not change the open batch
leaves_batch : (turn : Turn) (step : Step) → ChangesNothing turn (Some step) → LeavesBatch step
leaves_batch turn (Local answer) idle = idle
leaves_batch turn (Ask command) idle = tt
leaves_batch turn (AskBatch commands) idle = absurd idle
leaves_batch turn KillServer idle = absurd idle
leaves_batch turn EndConnection idle = absurd idle
leaves_batch turn Skip idle = tt

goes_by : (step : Step) → LeavesBatch step → is_end step ≡ false
goes_by (Local answer) idle = refl
goes_by (Ask command) idle = refl
goes_by (AskBatch commands) idle = refl
goes_by KillServer idle = absurd idle
goes_by EndConnection idle = absurd idle
goes_by Skip idle = refl

pub no_kill : (turn : Turn) (found : Option Step) → ChangesNothing turn found → is_kill found ≡ false
no_kill turn None idle = refl
no_kill turn (Some (Local answer)) idle = refl
no_kill turn (Some (Ask command)) idle = refl
no_kill turn (Some (AskBatch commands)) idle = refl
no_kill turn (Some KillServer) idle = absurd idle
no_kill turn (Some EndConnection) idle = refl
no_kill turn (Some Skip) idle = refl

not_taken : (event : Event) (what : Verdict) → IsNotTaken what → verdict_events event what ≡ []
not_taken event JournalFull idle = refl
not_taken event OutOfMemory idle = refl
not_taken event Taken idle = absurd idle

pub no_events : (turn : Turn) (found : Option Step) → ChangesNothing turn found → step_events turn found ≡ []
no_events turn None idle = refl
no_events turn (Some (Local answer)) idle = refl
no_events turn (Some (Ask command)) idle = not_taken (event.Do turn.tag command) (verdict turn 1) idle
no_events turn (Some (AskBatch commands)) idle = absurd idle
no_events turn (Some KillServer) idle = absurd idle
no_events turn (Some EndConnection) idle = refl
no_events turn (Some Skip) idle = refl

pub own_idle : (turn : Turn) (ended : Bool) (step : Step) → ChangesNothing turn (cond ended None (Some step)) → ended ≡ false → LeavesBatch step
own_idle turn true step idle going = absurd (false≢true (sym going))
own_idle turn false step idle going = leaves_batch turn step idle

-- the struck line does not change what the connection asked for, given up or not
asked-left : (playout : Playout) (asked : List Parsed) (text : List ℕ) (given_up : Bool) →
    LeavesBatch (if given_up then Local reply.NoMemory else step_of_meaning asked (line_meaning playout.config playout.names (line_of_text text))) →
    IsSameBatch (asked ++ cons_option (own_ask playout text given_up) []) asked
asked-left playout asked text true idle = subst (λ more. IsSameBatch more asked) (sym (append-nil asked)) (same_batch asked)
asked-left playout asked text false idle = batch-left asked (line_meaning playout.config playout.names (line_of_text text)) idle

still_ended : (ended : Bool) (step : Step) → (ended ≡ false → LeavesBatch step) → (ended || is_end step) ≡ ended
still_ended true step idle = refl
still_ended false step idle = goes_by step (idle refl)

pub Beside-struck : (playout : Playout) (tag : Tag) (before : List PlayedLine) (line : PlayedLine) (text : List ℕ) → text_by tag line.line ≡ Some text →
    list_any is_line_end text ≡ false → (has_ended playout tag before ≡ false → LeavesBatch (own_step playout tag before text line.given_up)) →
    Side tag before → Beside playout tag (before ++ line ∷ []) before
Beside-struck playout tag before line text said one idle h =
    let same : has_ended playout tag (before ++ line ∷ []) ≡ has_ended playout tag before =
    has_ended-said playout tag before line text said one h
    ∙ still_ended (has_ended playout tag before) (own_step playout tag before text line.given_up) idle in
    record {
      long = Side-said tag before line text said one h;
      short = h;
      ended = same;
      batch = λ going.
          subst (λ asked. IsSameBatch asked (asked_of playout tag before)) (sym (asked_of-said playout tag before line text said one h))
          (asked-left playout (asked_of playout tag before) text line.given_up (idle (sym same ∙ going)));
    }

pub Beside-untouched : (playout : Playout) (tag : Tag) (before : List PlayedLine) (line : PlayedLine) → text_by tag line.line ≡ None → Side tag before →
    Beside playout tag (before ++ line ∷ []) before
Beside-untouched playout tag before line other h = record {
  long = Side-other tag before line other h;
  short = h;
  ended = same_ended playout tag before line other;
  batch = λ going.
      subst (λ asked. IsSameBatch asked (asked_of playout tag before)) (sym (same_asks playout tag before line other))
      (same_batch (asked_of playout tag before));
}
