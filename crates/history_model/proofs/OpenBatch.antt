-- The open batch after one more thing that is asked for, and what leaves it unchanged.
use Rattle.std.proofs.Common.{◌≡◌, ℕ, ◌+◌, ◌-◌, ◌<◌, Bool, true, false, cond, not, ◌||◌, List, [], ◌∷◌, ◌++◌, take, length, refl, sym, ap, ◌∙◌, arith, inl, inr, append-nil}
use Rattle.std.specs.Prelude.{Option, None, nat_lt, filter_map}
use Rattle.std.specs.List.{list_any, suffix_len, after_first, after_last, position_or_len, cons_option}
use Rattle.std.proofs.lemmas.Bool.{cases_Bool, cases_lt, lt-ltb, le-ltb, false≢true}
use Rattle.std.proofs.lemmas.List.{reverse-append, length-append, length-take, take_all, take-append-le, drop_all, drop-append-le}
use Rattle.std.proofs.lemmas.List.Elements.{filter_map-append}
use Rattle.std.proofs.lemmas.List.Folds.{list_any-append}
use Rattle.amcp_text.proofs.FirstEnd.{after_first_at, position_or_len_some}
use Rattle.play_types.specs.Commands.{is_query, command_name}
use Rattle.play_types.specs.declared.command.Cmd.{Cmd}
use Rattle.play_types.specs.declared.command.TheConstants.{MAX_BATCH_COMMANDS}
use Rattle.play_types.specs.declared.reply.Reply.TheVariants as reply
use Rattle.play_types.specs.declared.parsed.Parsed.{Parsed}
use Rattle.play_types.specs.declared.parsed.Parsed.TheVariants.{Stage, Begin, Commit, Discard, Cls, Version, Bye, Kill}
use Rattle.history_model.specs.sessions.Line.{LineMeaning, Blank, Wrong, Asks, asked_by}
use Rattle.history_model.specs.sessions.Session.{Step, Local, Ask, AskBatch, KillServer, EndConnection, Skip, is_begin, is_closing, since_closing, is_open, batched, batch, step_after, step_commit, step_inside, step_of_meaning, step_outside}
use Rattle.history_model.specs.scripts.Struck.{ReportsNoChange}
use Rattle.history_model.proofs.Sessions.{position_or_len-append}

-- the step of a line that does not change the batch: a reply that reports no change, a command that the stage is asked for, or none
abbrev pub LeavesBatch : Step → Type 0
LeavesBatch (Local answer) = ReportsNoChange answer
LeavesBatch (Ask command) = Unit {0}
LeavesBatch (AskBatch commands) = ⊥
LeavesBatch KillServer = ⊥
LeavesBatch EndConnection = ⊥
LeavesBatch Skip = Unit {0}

-- the elements after the last one that passes, in a list with one more element at its end
after_last-passes : {X : Type 0} (p : X → Bool) (xs : List X) (x : X) → p x ≡ true → after_last p (xs ++ x ∷ []) ≡ []
after_last-passes p xs x passes =
    let none : suffix_len (λ y. not (p y)) (xs ++ x ∷ []) ≡ 0 = rw (reverse-append xs (x ∷ []), passes) refl in
    rw none (drop_all (length (xs ++ x ∷ []) - 0) (xs ++ x ∷ []) (omega arith))

after_last-fails : {X : Type 0} (p : X → Bool) (xs : List X) (x : X) → p x ≡ false → after_last p (xs ++ x ∷ []) ≡ after_last p xs ++ x ∷ []
after_last-fails p xs x fails =
    let k = suffix_len (λ y. not (p y)) xs in
    let more : suffix_len (λ y. not (p y)) (xs ++ x ∷ []) ≡ 1 + k = rw (reverse-append xs (x ∷ []), fails) refl in
    let same : length (xs ++ x ∷ []) - (1 + k) ≡ length xs - k = omega (arith, length-append xs (x ∷ [])) in
    rw (more, same) (drop-append-le (length xs - k) xs (x ∷ []) (omega arith))

-- the elements after the first one that passes, in a list with more elements at its end
after_first-append : {X : Type 0} (p : X → Bool) (xs ys : List X) → list_any p xs ≡ true → after_first p (xs ++ ys) ≡ after_first p xs ++ ys
after_first-append p xs ys h =
    let within = position_or_len_some p xs h in
    rw (position_or_len-append p xs ys h) (drop-append-le (position_or_len p xs + 1) xs ys (omega arith))

-- a prefix of a list with one more element at its end
take-snoc : {X : Type 0} (n : ℕ) (xs : List X) (x : X)
    → cond (nat_lt (length (take n xs)) n) (take n xs ++ x ∷ []) (take n xs) ≡ take n (xs ++ x ∷ [])
take-snoc n xs x = elim (cases_lt (length xs) n) [
  | inl short ↦
      rw (
        take_all n xs (omega arith),
        lt-ltb (length xs) n short,
        take_all n (xs ++ x ∷ []) (omega (arith, length-append xs (x ∷ []))),
      ) refl
  | inr long ↦
      rw (take-append-le n xs (x ∷ []) long, le-ltb (length (take n xs)) n (omega (arith, length-take n xs))) refl
]

-- whether a batch is open after one more thing is asked for
pub is_open-closing : (asked : List Parsed) (ask : Parsed) → is_closing ask ≡ true → is_open (asked ++ ask ∷ []) ≡ false
is_open-closing asked ask closes = ap (list_any is_begin) (after_last-passes is_closing asked ask closes)

pub is_open-other : (asked : List Parsed) (ask : Parsed) → is_closing ask ≡ false
    → is_open (asked ++ ask ∷ []) ≡ (is_open asked || list_any is_begin (ask ∷ []))
is_open-other asked ask other =
    ap (list_any is_begin) (after_last-fails is_closing asked ask other)
    ∙ list_any-append is_begin (since_closing asked) (ask ∷ [])

-- the commands of the open batch after one more thing is asked for
batch-other : (asked : List Parsed) (ask : Parsed) → is_closing ask ≡ false → is_open asked ≡ true
    → batch (asked ++ ask ∷ [])
    ≡ take MAX_BATCH_COMMANDS (filter_map batched (after_first is_begin (since_closing asked)) ++ filter_map batched (ask ∷ []))
batch-other asked ask other opened =
    ap (λ (since : List Parsed). take MAX_BATCH_COMMANDS (filter_map batched (after_first is_begin since))) (after_last-fails is_closing asked ask other)
    ∙ ap (λ (since : List Parsed). take MAX_BATCH_COMMANDS (filter_map batched since)) (after_first-append is_begin (since_closing asked) (ask ∷ []) opened)
    ∙ ap (take MAX_BATCH_COMMANDS) (filter_map-append batched (after_first is_begin (since_closing asked)) (ask ∷ []))

-- what is no command for the batch does not change it
pub batch-same : (asked : List Parsed) (ask : Parsed) → is_closing ask ≡ false → is_open asked ≡ true → batched ask ≡ None
    → batch (asked ++ ask ∷ []) ≡ batch asked
batch-same asked ask other opened none =
    let all = filter_map batched (after_first is_begin (since_closing asked)) in
    batch-other asked ask other opened
    ∙ ap (λ (o : Option Cmd). take MAX_BATCH_COMMANDS (all ++ cons_option o [])) none
    ∙ ap (take MAX_BATCH_COMMANDS) (append-nil all)

-- the commands of an open batch after one more: a query is never added, nor is any if there is no room
abbrev pub added : List Cmd → Cmd → List Cmd
added commands command =
    cond (is_query command) commands (cond (nat_lt (length commands) MAX_BATCH_COMMANDS) (commands ++ command ∷ []) commands)

pub batch-command : (asked : List Parsed) (command : Cmd) → is_open asked ≡ true
    → batch (asked ++ Stage command ∷ []) ≡ added (batch asked) command
batch-command asked command opened = elim (cases_Bool (is_query command)) [
  | inl query ↦ rw query (batch-same asked (Stage command) refl opened (rw query refl))
  | inr other ↦
      let all = filter_map batched (after_first is_begin (since_closing asked)) in
      let one : filter_map batched (Stage command ∷ []) ≡ command ∷ [] = rw other refl in
      rw other (sym (take-snoc MAX_BATCH_COMMANDS all command ∙ ap (λ (cs : List Cmd). take MAX_BATCH_COMMANDS (all ++ cs)) (sym one)
      ∙ sym (batch-other asked (Stage command) refl opened)))
]

-- a command that is no query is added if there is room
pub batch-waits : (asked : List Parsed) (command : Cmd) → is_open asked ≡ true → is_query command ≡ false → length (batch asked) < MAX_BATCH_COMMANDS
    → batch (asked ++ Stage command ∷ []) ≡ batch asked ++ command ∷ []
batch-waits asked command opened acts room =
    batch-command asked command opened ∙ rw (acts, lt-ltb (length (batch asked)) MAX_BATCH_COMMANDS room) refl

pub batch-begin : (asked : List Parsed) → is_open asked ≡ false → batch (asked ++ Begin ∷ []) ≡ []
batch-begin asked closed =
    ap (λ (since : List Parsed). take MAX_BATCH_COMMANDS (filter_map batched (after_first is_begin since))) (after_last-fails is_closing asked Begin refl)
    ∙ ap (λ (since : List Parsed). take MAX_BATCH_COMMANDS (filter_map batched since)) (after_first_at is_begin (since_closing asked) Begin [] closed refl)

-- two lists of what was asked for leave one batch open in both, or none
pub record IsSameBatch (a b : List Parsed) : Type 0 where
  pub opened : is_open a ≡ is_open b
  pub commands : is_open a ≡ true → batch a ≡ batch b

-- they do so after one more thing is asked for
both_closed : (a b : List Parsed) (ask : Parsed) → is_closing ask ≡ true → IsSameBatch (a ++ ask ∷ []) (b ++ ask ∷ [])
both_closed a b ask closes = record {
  opened = is_open-closing a ask closes ∙ sym (is_open-closing b ask closes);
  commands = λ opens. absurd (false≢true (sym (is_open-closing a ask closes) ∙ opens));
}

both_opened : (a b : List Parsed) (ask : Parsed) → is_closing ask ≡ false → IsSameBatch a b →
    is_open (a ++ ask ∷ []) ≡ is_open (b ++ ask ∷ [])
both_opened a b ask other h =
    is_open-other a ask other ∙ ap (λ o. o || list_any is_begin (ask ∷ [])) h.opened ∙ sym (is_open-other b ask other)

-- what is no BEGIN opens no batch
was_open : (a : List Parsed) (ask : Parsed) → is_closing ask ≡ false → list_any is_begin (ask ∷ []) ≡ false → is_open (a ++ ask ∷ []) ≡ true → is_open a ≡ true
was_open a ask other none opens = or_false (is_open a) (ap (λ b. is_open a || b) (sym none) ∙ sym (is_open-other a ask other) ∙ opens)
  where
    or_false : (b : Bool) → (b || false) ≡ true → b ≡ true
    or_false true e = refl
    or_false false e = e

both_other : (a b : List Parsed) (ask : Parsed) → is_closing ask ≡ false → list_any is_begin (ask ∷ []) ≡ false → batched ask ≡ None →
    IsSameBatch a b → IsSameBatch (a ++ ask ∷ []) (b ++ ask ∷ [])
both_other a b ask other none out h = record {
  opened = both_opened a b ask other h;
  commands = λ opens.
      let now = was_open a ask other none opens in
      batch-same a ask other now out ∙ h.commands now ∙ sym (batch-same b ask other (sym h.opened ∙ now) out);
}

begin_by : (a b : List Parsed) (was : Bool) → is_open a ≡ was → IsSameBatch a b → batch (a ++ Begin ∷ []) ≡ batch (b ++ Begin ∷ [])
begin_by a b true is h = batch-same a Begin refl is refl ∙ h.commands is ∙ sym (batch-same b Begin refl (sym h.opened ∙ is) refl)
begin_by a b false is h = batch-begin a is ∙ sym (batch-begin b (sym h.opened ∙ is))

pub IsSameBatch-snoc : (a b : List Parsed) (ask : Parsed) → IsSameBatch a b → IsSameBatch (a ++ ask ∷ []) (b ++ ask ∷ [])
IsSameBatch-snoc a b (Stage command) h = record {
  opened = both_opened a b (Stage command) refl h;
  commands = λ opens.
      let now = was_open a (Stage command) refl refl opens in
      batch-command a command now ∙ ap (λ cs. added cs command) (h.commands now) ∙ sym (batch-command b command (sym h.opened ∙ now));
}
IsSameBatch-snoc a b Begin h = record {
  opened = both_opened a b Begin refl h;
  commands = λ opens. begin_by a b (is_open a) refl h;
}
IsSameBatch-snoc a b Commit h = both_closed a b Commit refl
IsSameBatch-snoc a b Discard h = both_closed a b Discard refl
IsSameBatch-snoc a b Cls h = both_other a b Cls refl refl refl h
IsSameBatch-snoc a b Version h = both_other a b Version refl refl refl h
IsSameBatch-snoc a b Bye h = both_other a b Bye refl refl refl h
IsSameBatch-snoc a b Kill h = both_other a b Kill refl refl refl h

-- after both lists what is asked for next has one step
step_by : (open_now : Bool) (a b : List Parsed) (ask : Parsed) → is_open a ≡ open_now → IsSameBatch a b → step_after a ask ≡ step_after b ask
step_by true a b ask is h =
    ap (λ (o : Bool). cond o (step_inside (batch a) ask) (step_outside ask)) is
    ∙ ap (λ commands. step_inside commands ask) (h.commands is)
    ∙ sym (ap (λ (o : Bool). cond o (step_inside (batch b) ask) (step_outside ask)) (sym h.opened ∙ is))
step_by false a b ask is h =
    ap (λ (o : Bool). cond o (step_inside (batch a) ask) (step_outside ask)) is
    ∙ sym (ap (λ (o : Bool). cond o (step_inside (batch b) ask) (step_outside ask)) (sym h.opened ∙ is))

pub step-same : (a b : List Parsed) (meaning : LineMeaning) → IsSameBatch a b → step_of_meaning a meaning ≡ step_of_meaning b meaning
step-same a b Blank h = refl
step-same a b (Wrong answer) h = refl
step-same a b (Asks ask) h = step_by (is_open a) a b ask refl h

-- what is asked for with a step that leaves the batch does not change it
closed_still : (a : List Parsed) (ask : Parsed) → is_open a ≡ false → is_open (a ++ ask ∷ []) ≡ false → IsSameBatch (a ++ ask ∷ []) a
closed_still a ask was now = record {
  opened = now ∙ sym was;
  commands = λ opens. absurd (false≢true (sym now ∙ opens));
}

no_begin : (a : List Parsed) (ask : Parsed) → is_open a ≡ false → is_closing ask ≡ false → list_any is_begin (ask ∷ []) ≡ false → IsSameBatch (a ++ ask ∷ []) a
no_begin a ask was other none =
    closed_still a ask was (is_open-other a ask other ∙ ap (λ o. o || list_any is_begin (ask ∷ [])) was ∙ none)

outside_left : (a : List Parsed) (ask : Parsed) → is_open a ≡ false → LeavesBatch (step_outside ask) → IsSameBatch (a ++ ask ∷ []) a
outside_left a (Stage command) was refused = no_begin a (Stage command) was refl refl
outside_left a Begin was refused = absurd refused
outside_left a Commit was refused = closed_still a Commit was (is_open-closing a Commit refl)
outside_left a Discard was refused = closed_still a Discard was (is_open-closing a Discard refl)
outside_left a Cls was refused = no_begin a Cls was refl refl
outside_left a Version was refused = no_begin a Version was refl refl
outside_left a Bye was refused = absurd refused
outside_left a Kill was refused = absurd refused

open_still : (a : List Parsed) (ask : Parsed) → is_open a ≡ true → is_closing ask ≡ false → batch (a ++ ask ∷ []) ≡ batch a → IsSameBatch (a ++ ask ∷ []) a
open_still a ask was other same = record {
  opened = is_open-other a ask other ∙ ap (λ o. o || list_any is_begin (ask ∷ [])) was ∙ sym was;
  commands = λ opens. same;
}

refused_waiting : (commands : List Cmd) (command : Cmd) (query room : Bool) →
    LeavesBatch (cond query (Local (reply.Refused 403 (command_name command)))
    (cond room (Local (reply.Done (command_name command))) (Local (reply.Refused 403 (command_name command))))) →
    cond query commands (cond room (commands ++ command ∷ []) commands) ≡ commands
refused_waiting commands command true room refused = refl
refused_waiting commands command false true refused = absurd refused
refused_waiting commands command false false refused = refl

refused_commit : (commands : List Cmd) → LeavesBatch (step_commit commands) → ⊥
refused_commit [] refused = refused
refused_commit (command ∷ commands) refused = refused

inside_left : (a : List Parsed) (ask : Parsed) → is_open a ≡ true → LeavesBatch (step_inside (batch a) ask) → IsSameBatch (a ++ ask ∷ []) a
inside_left a (Stage command) was refused =
    open_still a (Stage command) was refl
    (batch-command a command was ∙ refused_waiting (batch a) command (is_query command) (nat_lt (length (batch a)) MAX_BATCH_COMMANDS) refused)
inside_left a Begin was refused = open_still a Begin was refl (batch-same a Begin refl was refl)
inside_left a Commit was refused = absurd (refused_commit (batch a) refused)
inside_left a Discard was refused = absurd refused
inside_left a Cls was refused = open_still a Cls was refl (batch-same a Cls refl was refl)
inside_left a Version was refused = open_still a Version was refl (batch-same a Version refl was refl)
inside_left a Bye was refused = open_still a Bye was refl (batch-same a Bye refl was refl)
inside_left a Kill was refused = open_still a Kill was refl (batch-same a Kill refl was refl)

left_by : (open_now : Bool) (a : List Parsed) (ask : Parsed) → is_open a ≡ open_now →
    LeavesBatch (cond open_now (step_inside (batch a) ask) (step_outside ask)) → IsSameBatch (a ++ ask ∷ []) a
left_by true a ask is refused = inside_left a ask is refused
left_by false a ask is refused = outside_left a ask is refused

pub same_batch : (a : List Parsed) → IsSameBatch a a
same_batch a = record { opened = refl; commands = λ opens. refl }

-- a line with a step that leaves the batch does not change it
pub batch-left : (a : List Parsed) (meaning : LineMeaning) → LeavesBatch (step_of_meaning a meaning) → IsSameBatch (a ++ cons_option (asked_by meaning) []) a
batch-left a Blank refused = rw (append-nil a) (same_batch a)
batch-left a (Wrong answer) refused = rw (append-nil a) (same_batch a)
batch-left a (Asks ask) refused = left_by (is_open a) a ask refl refused
