-- The step of the next line of a stream.
use Rattle.std.proofs.Common.{◌≡◌, ℕ, ◌+◌, ◌<◌, ◌≤◌, true, false, ◌==◌, List, [], ◌∷◌, ◌++◌, length, refl, sym, ap, ◌∙◌, subst, arith, inl, inr, append-nil, eq-eqb}
use Rattle.std.proofs.Math.Bool.{or-false}
use Rattle.std.specs.Prelude.{Some, Result, Ok, Err, IfOk, slice_get, All}
use Rattle.std.specs.List.{list_any, cons_option}
use Rattle.std.proofs.lemmas.Bool.{cases_Bool, or_right, ne_eqb}
use Rattle.std.proofs.lemmas.List.{length-append, take_all}
use Rattle.std.proofs.lemmas.List.Elements.{All-nil, All-cons, All-append}
use Rattle.std.proofs.lemmas.List.Folds.{list_any-append, list_any_none}
use Rattle.amcp_text.specs.Lines.{Line, lines_of}
use Rattle.amcp_text.specs.Reader as reader
use Rattle.amcp_text.proofs.LineLaws.{lines_of-append, IsEnded-append}
use Rattle.amcp_text.proofs.ReaderLaws.{lines_held}
use Rattle.play_types.specs.Config.{ConfigView}
use Rattle.play_types.specs.Media.{MediaNameView}
use Rattle.play_types.specs.declared.command.Cmd.{Cmd}
use Rattle.play_types.specs.declared.parsed.Parsed.{Parsed}
use Rattle.play_types.specs.declared.reply.Reply.{Reply}
use Rattle.play_types.specs.declared.reply.Reply.TheVariants as reply
use Rattle.history_model.specs.sessions.Line.{line_meaning, asked_by}
use Rattle.history_model.specs.sessions.Session.{is_given_up, is_end, asks, step_of_line, step_of_meaning, line_steps, until_end, steps}
use Rattle.history_model.specs.sessions.Session as model
use Rattle.history_model.proofs.Sessions.{asks-append, asks-later, line_steps-later, line_steps-snoc, length-line_steps, until_end-going}
use Rattle.play_session.specs.SessionState.{SessionState}
use Rattle.play_session.specs.inner.BatchState.{after_meaning, step_for}
use Rattle.play_session.specs.inner.Following.{Follows, batch_of}
use Rattle.play_session.specs.declared.meaning.ReadLine.{ReadLine}
use Rattle.play_session.specs.Step.{viewed, ends, gives_up, is_out_of_memory}
use Rattle.play_session.specs.inner.Meaning.{meaning_view}
use Rattle.play_session.specs.Session.{Progress, Represents, Gives, GivesStep, after_step}
use Rattle.play_session.specs.declared.step.Step.{Step}
use Rattle.play_session.specs.declared.step.Step.TheVariants as step
use Rattle.play_session.proofs.Batches.{IsBatchOf, IsBatchOf-line, step_for_line, kept_at_no_memory}

-- a whole line was taken from the reader
pub record TookLine (before after : SessionState) (line : Line) : Type 0 where
  pub going : before.ended ≡ false
  pub held : before.reader.held ≡ true
  pub tells : (bytes : List ℕ) → reader.Represents before.reader bytes → (rest : List ℕ) → lines_of (bytes ++ rest) ≡ line ∷ lines_of rest
  pub dropped : reader.Represents after.reader []

-- the element after those of a list
pub slice_get_after : {X : Type 0} (xs : List X) (x : X) → slice_get (xs ++ x ∷ []) (length xs) ≡ Some x
slice_get_after [] x = refl
slice_get_after (y ∷ ys) x = slice_get_after ys x

until_end_one : (s : model.Step) → until_end (s ∷ []) ≡ s ∷ []
until_end_one s = elim (cases_Bool (is_end s)) [ inl ends_it ↦ rw ends_it refl | inr goes ↦ rw goes refl ]

-- a step of the code ends the connection exactly if the step of the definition does
ends-viewed : (result : Step) (commands : List Cmd) (s : model.Step) → viewed result commands ≡ Some s → ends result ≡ is_end s
ends-viewed (step.Local answer) commands s e = let same : model.Local answer ≡ s = cc in ap is_end same
ends-viewed (step.Ask command) commands s e = let same : model.Ask command ≡ s = cc in ap is_end same
ends-viewed step.AskBatch commands s e = let same : model.AskBatch commands ≡ s = cc in ap is_end same
ends-viewed step.Kill commands s e = let same : model.KillServer ≡ s = cc in ap is_end same
ends-viewed step.Bye commands s e = let same : model.EndConnection ≡ s = cc in ap is_end same
ends-viewed step.Skip commands s e = let same : model.Skip ≡ s = cc in ap is_end same
ends-viewed step.NeedMore commands s e = cc

-- the last number of a list of given-up lines is in the list, and a number greater than all is not
given_up-last : (given_up : List ℕ) (number : ℕ) → is_given_up (given_up ++ number ∷ []) number ≡ true
given_up-last given_up number =
    let last : list_any (λ k. k == number) (number ∷ []) ≡ true = rw (eq-eqb number number refl) refl in
    list_any-append (λ k. k == number) given_up (number ∷ []) ∙ or_right (is_given_up given_up number) (list_any (λ k. k == number) (number ∷ [])) last

given_up-none : (given_up : List ℕ) (number : ℕ) → All (λ k. k < number) given_up → is_given_up given_up number ≡ false
given_up-none given_up number known =
    list_any_none (λ k. k == number) given_up (λ k d inside. ne_eqb _ number (λ e. omega (arith, known k d inside, e)))

-- the lines of a stream before its next line
pub record LinesBefore : Type 0 where
  -- the configuration with which lines are read
  pub config : ConfigView
  -- the media table with which lines are read
  pub media : List MediaNameView
  -- the numbers of the lines that were given up, out of memory
  pub given_up : List ℕ
  -- the lines
  pub lines : List Line

-- the next line of a stream, and what becomes of it
pub record NextLine : Type 0 where
  -- the line
  pub line : Line
  -- the number of the line, if it is given up, and else none
  pub later : List ℕ
  -- the step of the line
  pub step : model.Step
  -- what the lines up to and with this one ask for
  pub asked : List Parsed

-- the step of the next line and what is asked for with it are those of the definition
pub record LineStep (earlier : LinesBefore) (next : NextLine) : Type 0 where
  pub is : step_of_line earlier.config earlier.media (earlier.given_up ++ next.later) earlier.lines (length earlier.lines, next.line) ≡ next.step
  pub asks_is : asks earlier.config earlier.media (earlier.given_up ++ next.later) (earlier.lines ++ next.line ∷ []) ≡ next.asked

-- the lines whose steps a session gave
abbrev pub lines_before : ConfigView → List MediaNameView → Progress → List Line → LinesBefore
lines_before config media progress lines = record { config = config; media = media; given_up = progress.given_up; lines = lines }

-- the next line, if it is read
abbrev pub line_read : LinesBefore → Line → NextLine
line_read earlier line =
    let asked = asks earlier.config earlier.media earlier.given_up earlier.lines in
    let meaning = line_meaning earlier.config earlier.media line in
    record { line = line; later = []; step = step_of_meaning asked meaning; asked = asked ++ cons_option (asked_by meaning) [] }

-- the next line, if it is given up
abbrev line_given_up : LinesBefore → Line → NextLine
line_given_up earlier line = record {
  line = line;
  later = length earlier.lines ∷ [];
  step = model.Local reply.NoMemory;
  asked = asks earlier.config earlier.media earlier.given_up earlier.lines;
}

-- the progress of a session after one more step, with these numbers added to the lines that were given up
abbrev one_further : Progress → List ℕ → Progress
one_further progress later = record progress { given_up = progress.given_up ++ later; given = progress.given + 1 }

-- the state after a line, for each step that the line may have
module _ (config : ConfigView) (media : List MediaNameView) (before after : SessionState) (next : NextLine) (took : TookLine before after next.line) where
  pub lines_with : (progress : Progress) (s : Represents config media before progress)
      → lines_of progress.stream ≡ lines_of s.before ++ next.line ∷ []
  lines_with progress s =
      ap lines_of s.parts ∙ lines_of-append s.before s.rest s.whole
      ∙ ap (λ (ls : List Line). lines_of s.before ++ ls) (ap lines_of (sym (append-nil s.rest)) ∙ took.tells s.rest s.reads [])

  steps_with : (progress : Progress) (s : Represents config media before progress)
      → All (λ k. length (lines_of s.before) ≤ k) next.later → LineStep (lines_before config media progress (lines_of s.before)) next
      → line_steps config media (progress.given_up ++ next.later) (lines_of s.before ++ next.line ∷ []) ≡ line_steps config media progress.given_up (lines_of s.before) ++ next.step ∷ []
  steps_with progress s high l =
      let given_up = progress.given_up in
      rw (line_steps-snoc config media (given_up ++ next.later) (lines_of s.before) next.line, line_steps-later config media given_up next.later (lines_of s.before) high, l.is) refl

  -- the step of the line is the next one of the stream
  next_step : (progress : Progress) (s : Represents config media before progress)
      → All (λ k. length (lines_of s.before) ≤ k) next.later → LineStep (lines_before config media progress (lines_of s.before)) next
      → slice_get (steps config media (progress.given_up ++ next.later) progress.stream) progress.given ≡ Some next.step
  unfolding steps
  next_step progress s high l =
      let given_up = progress.given_up in
      let one = next.step in
      let earlier = line_steps config media given_up (lines_of s.before) in
      let all : until_end (line_steps config media (given_up ++ next.later) (lines_of progress.stream)) ≡ earlier ++ one ∷ [] =
      ap (λ (ls : List Line). until_end (line_steps config media (given_up ++ next.later) ls)) (lines_with progress s)
      ∙ ap until_end (steps_with progress s high l)
      ∙ until_end-going earlier (one ∷ []) (sym s.ended ∙ took.going) ∙ ap (λ (ss : List model.Step). earlier ++ ss) (until_end_one one) in
      let place : length earlier ≡ progress.given = length-line_steps config media given_up (lines_of s.before) ∙ s.count in
      rw (all, ← place) (slice_get_after earlier one)

  -- the session has come one step further
  represents_next : (progress : Progress) (s : Represents config media before progress)
      → All (λ k. progress.given ≤ k) next.later → All (λ k. k < progress.given + 1) next.later → LineStep (lines_before config media progress (lines_of s.before)) next
      → IsBatchOf (batch_of after) next.asked → after.ended ≡ is_end next.step
      → Represents config media after (one_further progress next.later)
  represents_next progress s high low l is ends_so =
      let given_up = progress.given_up in
      let given = progress.given in
      let whole = lines_held before.reader s.rest s.reads took.held in
      let same : lines_of (s.before ++ s.rest) ≡ lines_of s.before ++ next.line ∷ [] = ap lines_of (sym s.parts) ∙ lines_with progress s in
      let earlier = line_steps config media given_up (lines_of s.before) in
      record {
        before = s.before ++ s.rest;
        rest = [];
        parts = s.parts ∙ sym (append-nil (s.before ++ s.rest));
        whole = IsEnded-append s.before s.rest s.whole whole.ended;
        count = rw same (omega (arith, length-append (lines_of s.before) (next.line ∷ []), s.count));
        known = All-append (λ k. k < given + 1) given_up next.later (λ k d inside. omega (arith, s.known k d inside)) low;
        reads = took.dropped;
        batch_open = rw (same, l.asks_is) is.opened;
        batch = λ e. rw (same, l.asks_is) (is.commands e);
        ended = rw (same, steps_with progress s (subst (λ (n : ℕ). All (λ k. n ≤ k) next.later) (sym s.count) high) l, list_any-append is_end earlier (next.step ∷ []), ← s.ended, took.going, ends_so) (sym (or-false (is_end next.step)));
      }

-- the step of a line that was read
LineStep-read : (earlier : LinesBefore) (line : Line) → All (λ k. k < length earlier.lines) earlier.given_up → LineStep earlier (line_read earlier line)
LineStep-read earlier line known =
    let none = given_up-none earlier.given_up (length earlier.lines) known in
    record {
      is = rw (append-nil earlier.given_up, none, take_all (length earlier.lines) earlier.lines (omega arith)) refl;
      asks_is = rw (append-nil earlier.given_up, asks-append earlier.config earlier.media earlier.given_up earlier.lines (line ∷ []), none) refl;
    }

-- the step of a line that was given up
LineStep-given_up : (earlier : LinesBefore) (line : Line) → LineStep earlier (line_given_up earlier line)
LineStep-given_up earlier line =
    let number : List ℕ = length earlier.lines ∷ [] in
    let all = earlier.given_up ++ number in
    let last = given_up-last earlier.given_up (length earlier.lines) in
    let high = All-cons (λ k. length earlier.lines ≤ k) (length earlier.lines) [] (omega arith) (All-nil (λ k. length earlier.lines ≤ k)) in
    record {
      is = rw last refl;
      asks_is = asks-append earlier.config earlier.media all earlier.lines (line ∷ [])
          ∙ rw last (append-nil (asks earlier.config earlier.media all earlier.lines) ∙ asks-later earlier.config earlier.media earlier.given_up number earlier.lines high);
    }

-- what a caller learns of a step that was returned
Gives-step : (config : ConfigView) (media : List MediaNameView) (result : Step) (after : SessionState) (progress : Progress) (one : model.Step)
    → viewed result after.batch ≡ Some one
    → GivesStep config media result after progress
    → Gives config media result after progress
Gives-step config media (step.Local answer) after progress one is gives = gives
Gives-step config media (step.Ask command) after progress one is gives = gives
Gives-step config media step.AskBatch after progress one is gives = gives
Gives-step config media step.Kill after progress one is gives = gives
Gives-step config media step.Bye after progress one is gives = gives
Gives-step config media step.Skip after progress one is gives = gives
Gives-step config media step.NeedMore after progress one is gives = cc

gives_step : (config : ConfigView) (media : List MediaNameView) (result : Step) (after : SessionState) (progress further : Progress)
    → further ≡ after_step progress result
    → slice_get (steps config media further.given_up progress.stream) progress.given ≡ viewed result after.batch
    → Represents config media after further → GivesStep config media result after progress
gives_step config media result after progress further same next represents =
    subst (λ (q : Progress). (slice_get (steps config media q.given_up progress.stream) progress.given ≡ viewed result after.batch) × Represents config media after q)
    same (next, represents)

-- the reply that memory ran out is NoMemory
out_of_memory-is : (answer : Reply) → is_out_of_memory answer ≡ true → answer ≡ reply.NoMemory
out_of_memory-is (reply.Done name) is = cc
out_of_memory-is (reply.Value values) is = cc
out_of_memory-is (reply.Info list) is = cc
out_of_memory-is reply.Cls is = cc
out_of_memory-is reply.Version is = cc
out_of_memory-is (reply.Unknown text) is = cc
out_of_memory-is (reply.Refused code name) is = cc
out_of_memory-is reply.NoMemory is = refl

gives_up-is : (result : Step) → gives_up result ≡ true → result ≡ step.Local reply.NoMemory
gives_up-is (step.Local answer) is = ap step.Local (out_of_memory-is answer is)
gives_up-is (step.Ask command) is = cc
gives_up-is step.AskBatch is = cc
gives_up-is step.Kill is = cc
gives_up-is step.Bye is = cc
gives_up-is step.Skip is = cc
gives_up-is step.NeedMore is = cc

-- a line is given up, and the batch is as before
pub Gives-given_up : (config : ConfigView) (media : List MediaNameView) (result : Step) (before after : SessionState) (line : Line)
    → TookLine before after line → result ≡ step.Local reply.NoMemory → batch_of after ≡ batch_of before → after.ended ≡ ends result
    → (progress : Progress) → Represents config media before progress
    → Gives config media result after progress
Gives-given_up config media result before after line took none kept ends_so progress s =
    let given = progress.given in
    let lines = lines_of s.before in
    let earlier = lines_before config media progress lines in
    let next = line_given_up earlier line in
    let l = LineStep-given_up earlier line in
    let high_lines = All-cons (λ k. length lines ≤ k) (length lines) [] (omega arith) (All-nil (λ k. length lines ≤ k)) in
    let high = All-cons (λ k. given ≤ k) (length lines) [] (omega (arith, s.count)) (All-nil (λ k. given ≤ k)) in
    let low = All-cons (λ k. k < given + 1) (length lines) [] (omega (arith, s.count)) (All-nil (λ k. k < given + 1)) in
    let was : IsBatchOf (batch_of before) next.asked = record { opened = s.batch_open; commands = s.batch } in
    let is : IsBatchOf (batch_of after) next.asked = rw kept was in
    let further : after_step progress result ≡ one_further progress next.later = rw (none, s.count) refl in
    let told : viewed result after.batch ≡ Some next.step = rw none refl in
    let step_is = next_step config media before after next took progress s high_lines l in
    let represents = represents_next config media before after next took progress s high low l is (ends_so ∙ ap ends none) in
    Gives-step config media result after progress next.step told
    (gives_step config media result after progress (one_further progress next.later) (sym further) (step_is ∙ sym told) represents)

-- a line was read, and the step is that of its meaning
pub Gives-read : (config : ConfigView) (media : List MediaNameView) (result : Step) (before after : SessionState) (line : Line)
    → TookLine before after line
    → viewed result after.batch ≡ Some (step_for (batch_of before) (line_meaning config media line))
    → batch_of after ≡ after_meaning (batch_of before) (line_meaning config media line) → after.ended ≡ ends result
    → (progress : Progress) → Represents config media before progress
    → Gives config media result after progress
Gives-read config media result before after line took told became ends_so progress s = elim (cases_Bool (gives_up result)) [
  | inl gives ↦
      let none = gives_up-is result gives in
      let meant : step_for (batch_of before) (line_meaning config media line) ≡ model.Local reply.NoMemory = cc (rw none at told) in
      let kept = became ∙ kept_at_no_memory (batch_of before) (line_meaning config media line) meant in
      Gives-given_up config media result before after line took none kept ends_so progress s
  | inr keeps ↦
      let lines = lines_of s.before in
      let meaning = line_meaning config media line in
      let asked = asks config media progress.given_up lines in
      let earlier = lines_before config media progress lines in
      let next = line_read earlier line in
      let l = LineStep-read earlier line (rw s.count s.known) in
      let was : IsBatchOf (batch_of before) asked = record { opened = s.batch_open; commands = s.batch } in
      let is : IsBatchOf (batch_of after) next.asked = rw became (IsBatchOf-line (batch_of before) asked meaning was) in
      let told_one : viewed result after.batch ≡ Some next.step = told ∙ ap (λ (m : model.Step). Some m) (step_for_line (batch_of before) asked meaning was) in
      let further : after_step progress result ≡ one_further progress next.later = rw (keeps, append-nil progress.given_up) refl in
      let step_is = next_step config media before after next took progress s (All-nil (λ k. length lines ≤ k)) l in
      let represents = represents_next config media before after next took progress s (All-nil (λ k. progress.given ≤ k)) (All-nil (λ k. k < progress.given + 1)) l is (ends_so ∙ ends-viewed result after.batch next.step told_one) in
      Gives-step config media result after progress next.step told_one
      (gives_step config media result after progress (one_further progress next.later) (sym further) (step_is ∙ sym told_one) represents)
]

-- a line was taken, and what it means was followed, or it was given up
pub Gives-followed : {E : Type 0} (config : ConfigView) (media : List MediaNameView) (read : Result ReadLine E) (result : Step) (before after : SessionState) (line : Line)
    → TookLine before after line → IfOk read (λ (r : ReadLine). meaning_view r.meaning ≡ line_meaning config media line) → Follows read result (batch_of before) (batch_of after) → after.ended ≡ ends result
    → (progress : Progress) → Represents config media before progress
    → Gives config media result after progress
Gives-followed config media (Ok read) result before after line took meant follows ends_so =
    Gives-read config media result before after line took (rw meant at follows.0) (rw meant at follows.1) ends_so
Gives-followed config media (Err fault) result before after line took meant follows ends_so =
    Gives-given_up config media result before after line took follows.0 follows.1 ends_so
