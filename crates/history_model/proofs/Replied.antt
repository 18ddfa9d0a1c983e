-- The replies to a script that grows by one line.
use Rattle.std.proofs.Common.{◌≡◌, Bool, true, false, cond, List, [], ◌∷◌, ◌++◌, refl, sym, ap, ◌∙◌, subst, append_assoc, append-nil}
use Rattle.std.proofs.lemmas.Bool.{false≢true}
use Rattle.play_types.specs.declared.reply.Reply.{Reply}
use Rattle.play_types.specs.declared.event.Event.{Event}
use Rattle.history_model.specs.scripts.History.{Playout, PlayedLine, Past, ends_at, events_after, events_at, goes_on, goes_on_after, script_events}
use Rattle.history_model.specs.scripts.Memory.{HasMemory, HasMemoryAfter, HadMemoryIfAny, UnlessEnded, reply_at}
use Rattle.history_model.specs.scripts.Replies.{replies_after, reply_list, script_replies}
use Rattle.history_model.proofs.Outputs.{first_goes_on}

last_replies : (b : Bool) (replies : List Reply) → (replies ++ cond b [] []) ≡ replies
last_replies true replies = append-nil replies
last_replies false replies = append-nil replies

replies_after-snoc : (playout : Playout) (before lines : List PlayedLine) (line : PlayedLine) → goes_on_after playout before lines ≡ true
    → replies_after playout before (lines ++ line ∷ []) ≡ replies_after playout before lines ++ reply_list (reply_at playout (before ++ lines) line line.line)
unfolding replies_after goes_on_after
replies_after-snoc playout before [] line on =
    last_replies (ends_at playout before line line.line) (reply_list (reply_at playout before line line.line))
    ∙ ap (λ ls. reply_list (reply_at playout ls line line.line)) (sym (append-nil before))
replies_after-snoc playout before (first ∷ lines) line on =
    let here = reply_list (reply_at playout before first first.line) in
    let parts = first_goes_on (ends_at playout before first first.line) (goes_on_after playout (before ++ first ∷ []) lines) on in
    let later = replies_after-snoc playout (before ++ first ∷ []) lines line parts.1 in
    ap (λ (b : Bool). here ++ cond b [] (replies_after playout (before ++ first ∷ []) (lines ++ line ∷ []))) parts.0
    ∙ ap (λ (more : List Reply). here ++ more)
    (later ∙ ap (λ ls. replies_after playout (before ++ first ∷ []) lines ++ reply_list (reply_at playout ls line line.line)) (append_assoc before (first ∷ []) lines))
    ∙ sym (append_assoc here (replies_after playout (before ++ first ∷ []) lines) (reply_list (reply_at playout (before ++ first ∷ lines) line line.line)))
    ∙ ap (λ (b : Bool). (here ++ cond b [] (replies_after playout (before ++ first ∷ []) lines)) ++ reply_list (reply_at playout (before ++ first ∷ lines) line line.line))
    (sym parts.0)

-- the reply to a line comes after those to the lines before it
pub script_replies-snoc : (playout : Playout) (lines : List PlayedLine) (line : PlayedLine) → goes_on playout lines ≡ true
    → script_replies playout (lines ++ line ∷ []) ≡ script_replies playout lines ++ reply_list (reply_at playout lines line line.line)
unfolding script_replies goes_on
script_replies-snoc playout lines line on = replies_after-snoc playout [] lines line on

pub script_replies-none : (playout : Playout) → script_replies playout [] ≡ []
unfolding script_replies replies_after
script_replies-none playout = refl

-- one more line whose reply does not say that memory ran out
HasMemoryAfter-snoc : (playout : Playout) (before lines : List PlayedLine) (line : PlayedLine) → goes_on_after playout before lines ≡ true
    → HasMemoryAfter playout before lines → HadMemoryIfAny (reply_at playout (before ++ lines) line line.line)
    → HasMemoryAfter playout before (lines ++ line ∷ [])
unfolding goes_on_after
HasMemoryAfter-snoc playout before [] line on without one =
    (subst (λ ls. HadMemoryIfAny (reply_at playout ls line line.line)) (append-nil before) one, nothing_after (ends_at playout before line line.line))
  where
    nothing_after : (b : Bool) → UnlessEnded b (Unit {0})
    nothing_after true = tt
    nothing_after false = tt
HasMemoryAfter-snoc playout before (first ∷ lines) line on without one =
    let parts = first_goes_on (ends_at playout before first first.line) (goes_on_after playout (before ++ first ∷ []) lines) on in
    let later : HasMemoryAfter playout (before ++ first ∷ []) lines =
    subst (λ b. UnlessEnded b (HasMemoryAfter playout (before ++ first ∷ []) lines)) parts.0 without.1 in (
      without.0,
      subst (λ b. UnlessEnded b (HasMemoryAfter playout (before ++ first ∷ []) (lines ++ line ∷ []))) (sym parts.0)
          (HasMemoryAfter-snoc playout (before ++ first ∷ []) lines line parts.1 later
          (subst (λ ls. HadMemoryIfAny (reply_at playout ls line line.line)) (sym (append_assoc before (first ∷ []) lines)) one)),
    )

pub HasMemory-snoc : (playout : Playout) (lines : List PlayedLine) (line : PlayedLine) → goes_on playout lines ≡ true
    → HasMemory playout lines → HadMemoryIfAny (reply_at playout lines line line.line) → HasMemory playout (lines ++ line ∷ [])
unfolding goes_on
HasMemory-snoc playout lines line on without one = HasMemoryAfter-snoc playout [] lines line on without one

-- lines after one at which the run ends have no events
events_after-ended : (playout : Playout) (past : Past) (lines : List PlayedLine) (line : PlayedLine) (rest : List PlayedLine)
    → goes_on_after playout past.lines lines ≡ true → ends_at playout (past.lines ++ lines) line line.line ≡ true
    → events_after playout past (lines ++ line ∷ rest) ≡ events_after playout past (lines ++ line ∷ [])
unfolding events_after goes_on_after
events_after-ended playout past [] line rest on ends =
    let here = past.events ++ events_at playout past line line.line in
    let next : Past = record { lines = past.lines ++ line ∷ []; events = here } in
    let is = ap (λ ls. ends_at playout ls line line.line) (sym (append-nil past.lines)) ∙ ends in
    ap (λ (b : Bool). cond b here (events_after playout next rest)) is ∙ ap (λ (b : Bool). cond b here here) (sym is)
events_after-ended playout past (first ∷ lines) line rest on ends =
    let here = past.events ++ events_at playout past first first.line in
    let next : Past = record { lines = past.lines ++ first ∷ []; events = here } in
    let parts = first_goes_on (ends_at playout past.lines first first.line) (goes_on_after playout (past.lines ++ first ∷ []) lines) on in
    ap (λ (es : List Event). cond (ends_at playout past.lines first first.line) here es)
    (events_after-ended playout next lines line rest parts.1 (ap (λ ls. ends_at playout ls line line.line) (append_assoc past.lines (first ∷ []) lines) ∙ ends))

pub script_events-ended : (playout : Playout) (lines : List PlayedLine) (line : PlayedLine) (rest : List PlayedLine) → goes_on playout lines ≡ true
    → ends_at playout lines line line.line ≡ true → script_events playout (lines ++ line ∷ rest) ≡ script_events playout (lines ++ line ∷ [])
unfolding script_events goes_on
script_events-ended playout lines line rest on ends = events_after-ended playout (record { lines = []; events = [] }) lines line rest on ends

-- such lines have no replies
replies_after-ended : (playout : Playout) (before lines : List PlayedLine) (line : PlayedLine) (rest : List PlayedLine)
    → goes_on_after playout before lines ≡ true → ends_at playout (before ++ lines) line line.line ≡ true
    → replies_after playout before (lines ++ line ∷ rest) ≡ replies_after playout before (lines ++ line ∷ [])
unfolding replies_after goes_on_after
replies_after-ended playout before [] line rest on ends =
    let is = ap (λ ls. ends_at playout ls line line.line) (sym (append-nil before)) ∙ ends in
    let here = reply_list (reply_at playout before line line.line) in
    ap (λ (b : Bool). here ++ cond b [] (replies_after playout (before ++ line ∷ []) rest)) is ∙ ap (λ (b : Bool). here ++ cond b [] []) (sym is)
replies_after-ended playout before (first ∷ lines) line rest on ends =
    let parts = first_goes_on (ends_at playout before first first.line) (goes_on_after playout (before ++ first ∷ []) lines) on in
    ap (λ (more : List Reply). reply_list (reply_at playout before first first.line) ++ cond (ends_at playout before first first.line) [] more)
    (replies_after-ended playout (before ++ first ∷ []) lines line rest parts.1
    (ap (λ ls. ends_at playout ls line line.line) (append_assoc before (first ∷ []) lines) ∙ ends))

pub script_replies-ended : (playout : Playout) (lines : List PlayedLine) (line : PlayedLine) (rest : List PlayedLine) → goes_on playout lines ≡ true
    → ends_at playout lines line line.line ≡ true → script_replies playout (lines ++ line ∷ rest) ≡ script_replies playout (lines ++ line ∷ [])
unfolding script_replies goes_on
script_replies-ended playout lines line rest on ends = replies_after-ended playout [] lines line rest on ends

-- no reply to such lines says that memory ran out
HasMemoryAfter-ended : (playout : Playout) (before lines : List PlayedLine) (line : PlayedLine) (rest : List PlayedLine)
    → goes_on_after playout before lines ≡ true → ends_at playout (before ++ lines) line line.line ≡ true
    → HasMemoryAfter playout before lines → HadMemoryIfAny (reply_at playout (before ++ lines) line line.line)
    → HasMemoryAfter playout before (lines ++ line ∷ rest)
unfolding goes_on_after
HasMemoryAfter-ended playout before [] line rest on ends without one = (
  subst (λ ls. HadMemoryIfAny (reply_at playout ls line line.line)) (append-nil before) one,
  subst (λ b. UnlessEnded b (HasMemoryAfter playout (before ++ line ∷ []) rest))
      (sym (ap (λ ls. ends_at playout ls line line.line) (sym (append-nil before)) ∙ ends)) tt,
)
HasMemoryAfter-ended playout before (first ∷ lines) line rest on ends without one =
    let parts = first_goes_on (ends_at playout before first first.line) (goes_on_after playout (before ++ first ∷ []) lines) on in
    let later : HasMemoryAfter playout (before ++ first ∷ []) lines =
    subst (λ b. UnlessEnded b (HasMemoryAfter playout (before ++ first ∷ []) lines)) parts.0 without.1 in (
      without.0,
      subst (λ b. UnlessEnded b (HasMemoryAfter playout (before ++ first ∷ []) (lines ++ line ∷ rest))) (sym parts.0)
          (HasMemoryAfter-ended playout (before ++ first ∷ []) lines line rest parts.1
          (ap (λ ls. ends_at playout ls line line.line) (append_assoc before (first ∷ []) lines) ∙ ends) later
          (subst (λ ls. HadMemoryIfAny (reply_at playout ls line line.line)) (sym (append_assoc before (first ∷ []) lines)) one)),
    )

pub HasMemory-ended : (playout : Playout) (lines : List PlayedLine) (line : PlayedLine) (rest : List PlayedLine) → goes_on playout lines ≡ true
    → ends_at playout lines line line.line ≡ true → HasMemory playout lines → HadMemoryIfAny (reply_at playout lines line line.line)
    → HasMemory playout (lines ++ line ∷ rest)
unfolding goes_on
HasMemory-ended playout lines line rest on ends without one = HasMemoryAfter-ended playout [] lines line rest on ends without one
