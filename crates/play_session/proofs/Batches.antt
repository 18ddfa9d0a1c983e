-- The open batch after one more ask.
use Rattle.std.proofs.Common.{◌≡◌, ◌≢◌, Bool, true, false, ◌||◌, List, [], ◌∷◌, ◌++◌, refl, sym, ap, ◌∙◌, subst, inl, inr, append-nil}
use Rattle.std.specs.Prelude.{None, if◌then◌else◌}
use Rattle.std.specs.List.{list_any, cons_option}
use Rattle.std.proofs.lemmas.Bool.{cases_Bool, cond-true, cond-false, false≢true}
use Rattle.play_types.specs.declared.command.Cmd.{Cmd}
use Rattle.play_types.specs.declared.reply.Reply.TheVariants as reply
use Rattle.play_types.specs.declared.parsed.Parsed.{Parsed}
use Rattle.play_types.specs.declared.parsed.Parsed.TheVariants.{Stage, Begin, Commit, Discard, Cls, Version, Bye, Kill}
use Rattle.history_model.specs.sessions.Line.{LineMeaning, Blank, Wrong, Asks, asked_by}
use Rattle.history_model.specs.sessions.Session.{is_begin, is_closing, is_open, batched, batch, step_commit, step_inside, step_outside, step_of_meaning}
use Rattle.history_model.specs.sessions.Session as model
use Rattle.history_model.proofs.EachAsk.{asked-holds}
use Rattle.history_model.proofs.OpenBatch.{batch-begin, batch-command, batch-same, is_open-closing, is_open-other}
use Rattle.play_session.specs.inner.BatchState.{BatchState, with_command, after_outside, after_inside, after_meaning, step_for}

-- the batch is open if the asks leave one open, and then it holds their commands
pub record IsBatchOf (b : BatchState) (asked : List Parsed) : Type 0 where
  pub opened : b.is_open ≡ is_open asked
  pub commands : b.is_open ≡ true → b.commands ≡ batch asked

-- an ask that leaves an open batch as it is
kept_inside : (b : BatchState) (asked : List Parsed) (ask : Parsed) → IsBatchOf b asked → b.is_open ≡ true → is_closing ask ≡ false → batched ask ≡ None
    → IsBatchOf b (asked ++ ask ∷ [])
kept_inside b asked ask is opened other none =
    let open_before = sym is.opened ∙ opened in
    record {
      opened = opened ∙ sym (is_open-other asked ask other ∙ ap (λ (o : Bool). o || list_any is_begin (ask ∷ [])) open_before);
      commands = λ _. is.commands opened ∙ sym (batch-same asked ask other open_before none);
    }

closed_inside : (b : BatchState) (asked : List Parsed) (ask : Parsed) → is_closing ask ≡ true
    → IsBatchOf (record { is_open = false; commands = b.commands }) (asked ++ ask ∷ [])
closed_inside b asked ask closes =
    record { opened = sym (is_open-closing asked ask closes); commands = λ e. absurd (false≢true e) }

IsBatchOf-inside : (b : BatchState) (asked : List Parsed) (ask : Parsed) → IsBatchOf b asked → b.is_open ≡ true
    → IsBatchOf (after_inside b ask) (asked ++ ask ∷ [])
IsBatchOf-inside b asked (Stage command) is opened =
    let open_before = sym is.opened ∙ opened in
    record {
      opened = opened ∙ sym (is_open-other asked (Stage command) refl ∙ ap (λ (o : Bool). o || false) open_before);
      commands = λ _. ap (λ (cs : List Cmd). with_command cs command) (is.commands opened) ∙ sym (batch-command asked command open_before);
    }
IsBatchOf-inside b asked Begin is opened = kept_inside b asked Begin is opened refl refl
IsBatchOf-inside b asked Commit is opened = closed_inside b asked Commit refl
IsBatchOf-inside b asked Discard is opened = closed_inside b asked Discard refl
IsBatchOf-inside b asked Cls is opened = kept_inside b asked Cls is opened refl refl
IsBatchOf-inside b asked Version is opened = kept_inside b asked Version is opened refl refl
IsBatchOf-inside b asked Bye is opened = kept_inside b asked Bye is opened refl refl
IsBatchOf-inside b asked Kill is opened = kept_inside b asked Kill is opened refl refl

-- an ask that leaves a closed batch closed
kept_outside : (b : BatchState) (asked : List Parsed) (ask : Parsed) → IsBatchOf b asked → b.is_open ≡ false
    → is_open (asked ++ ask ∷ []) ≡ false → IsBatchOf b (asked ++ ask ∷ [])
kept_outside b asked ask is closed still =
    record { opened = closed ∙ sym still; commands = λ e. absurd (false≢true (sym closed ∙ e)) }

still_closed : (b : BatchState) (asked : List Parsed) (ask : Parsed) → IsBatchOf b asked → b.is_open ≡ false → is_closing ask ≡ false
    → is_begin ask ≡ false → is_open (asked ++ ask ∷ []) ≡ false
still_closed b asked ask is closed other no_begin =
    let closed_before = sym is.opened ∙ closed in
    is_open-other asked ask other ∙ rw (closed_before, no_begin) refl

IsBatchOf-outside : (b : BatchState) (asked : List Parsed) (ask : Parsed) → IsBatchOf b asked → b.is_open ≡ false
    → IsBatchOf (after_outside b ask) (asked ++ ask ∷ [])
IsBatchOf-outside b asked (Stage command) is closed = kept_outside b asked (Stage command) is closed (still_closed b asked (Stage command) is closed refl refl)
IsBatchOf-outside b asked Begin is closed =
    let closed_before = sym is.opened ∙ closed in
    record {
      opened = sym (is_open-other asked Begin refl ∙ rw closed_before refl);
      commands = λ _. sym (batch-begin asked closed_before);
    }
IsBatchOf-outside b asked Commit is closed = kept_outside b asked Commit is closed (is_open-closing asked Commit refl)
IsBatchOf-outside b asked Discard is closed = kept_outside b asked Discard is closed (is_open-closing asked Discard refl)
IsBatchOf-outside b asked Cls is closed = kept_outside b asked Cls is closed (still_closed b asked Cls is closed refl refl)
IsBatchOf-outside b asked Version is closed = kept_outside b asked Version is closed (still_closed b asked Version is closed refl refl)
IsBatchOf-outside b asked Bye is closed = kept_outside b asked Bye is closed (still_closed b asked Bye is closed refl refl)
IsBatchOf-outside b asked Kill is closed = kept_outside b asked Kill is closed (still_closed b asked Kill is closed refl refl)

-- the batch after a line of this meaning
pub IsBatchOf-line : (b : BatchState) (asked : List Parsed) (meaning : LineMeaning) → IsBatchOf b asked
    → IsBatchOf (after_meaning b meaning) (asked ++ cons_option (asked_by meaning) [])
IsBatchOf-line b asked Blank is = rw (append-nil asked) is
IsBatchOf-line b asked (Wrong answer) is = rw (append-nil asked) is
IsBatchOf-line b asked (Asks ask) is = elim (cases_Bool b.is_open) [
  | inl opened ↦
      let same : after_meaning b (Asks ask) ≡ after_inside b ask = cond-true b.is_open (after_inside b ask) (after_outside b ask) opened in
      subst (λ (s : BatchState). IsBatchOf s (asked ++ ask ∷ [])) (sym same) (IsBatchOf-inside b asked ask is opened)
  | inr closed ↦
      let same : after_meaning b (Asks ask) ≡ after_outside b ask = cond-false b.is_open (after_inside b ask) (after_outside b ask) closed in
      subst (λ (s : BatchState). IsBatchOf s (asked ++ ask ∷ [])) (sym same) (IsBatchOf-outside b asked ask is closed)
]

-- the step of a line of this meaning
pub step_for_line : (b : BatchState) (asked : List Parsed) (meaning : LineMeaning) → IsBatchOf b asked
    → step_for b meaning ≡ step_of_meaning asked meaning
step_for_line b asked Blank is = refl
step_for_line b asked (Wrong answer) is = refl
step_for_line b asked (Asks ask) is = elim (cases_Bool b.is_open) [
  | inl opened ↦
      let open_before = sym is.opened ∙ opened in
      rw (opened, open_before, is.commands opened) refl
  | inr closed ↦
      let closed_before = sym is.opened ∙ closed in
      rw (closed, closed_before) refl
]

-- no ask has the step of a line that is given up, out of memory
abbrev HasMemory : model.Step → Type 0
HasMemory step = step ≢ model.Local reply.NoMemory

commit_has_memory : (commands : List Cmd) → HasMemory (step_commit commands)
commit_has_memory [] = λ e. cc
commit_has_memory (command ∷ commands) = λ e. cc

ask_has_memory : (open_now : Bool) (commands : List Cmd) (ask : Parsed) → HasMemory (if open_now then step_inside commands ask else step_outside ask)
ask_has_memory open_now commands ask =
    asked-holds HasMemory
    (record { done = λ command e. cc; refused = λ command e. cc; cls = λ e. cc; version = λ e. cc; kill = λ e. cc; ended = λ e. cc })
    open_now commands ask (commit_has_memory commands) (λ command same e. cc)

-- a line with the step of one that is given up, out of memory, leaves the batch as it was
pub kept_at_no_memory : (b : BatchState) (meaning : LineMeaning) → step_for b meaning ≡ model.Local reply.NoMemory → after_meaning b meaning ≡ b
kept_at_no_memory b Blank e = refl
kept_at_no_memory b (Wrong answer) e = refl
kept_at_no_memory b (Asks ask) e = absurd (ask_has_memory b.is_open b.commands ask e)
