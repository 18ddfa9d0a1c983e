-- What was replied without the stage before a step that asks for a batch.
use Rattle.std.proofs.Common.{◌≡◌, ℕ, ◌+◌, ◌≤◌, Bool, true, false, cond, List, [], ◌∷◌, ◌++◌, drop, length, length-append, length-take-le, refl, sym, take, ap, subst, ◌∙◌, arith, append_assoc}
use Rattle.std.specs.Prelude.{flat_map, nat_lt}
use Rattle.std.specs.List.{position_or_len}
use Rattle.std.proofs.lemmas.List.{drop_at, take-append-drop, take_at}
use mathlib.Core.List.{IsPrefix}
use Rattle.amcp_text.specs.Lines.{Line, lines_of}
use Rattle.play_types.specs.declared.command.Cmd.{Cmd}
use Rattle.play_types.specs.declared.parsed.Parsed.{Parsed}
use Rattle.play_types.specs.declared.parsed.Parsed.TheVariants.{Stage, Begin, Commit, Discard, Cls, Version, Bye, Kill}
use Rattle.play_types.specs.declared.reply.Reply.TheVariants as reply
use Rattle.play_types.specs.declared.event.Tag.{Tag}
use Rattle.play_types.specs.Commands.{command_name, is_query}
use Rattle.play_types.specs.declared.command.TheConstants.{MAX_BATCH_COMMANDS}
use Rattle.history_model.specs.scripts.History.{Playout}
use Rattle.history_model.specs.sessions.Line.{LineMeaning, Blank, Wrong, Asks, line_meaning}
use Rattle.history_model.specs.sessions.Session.{Step, Local, AskBatch, batch, is_end, is_given_up, is_open, step_commit, step_inside, step_of_line, step_of_meaning, step_outside, step_waiting, steps}
use Rattle.history_model.proofs.Sessions.{length-line_steps, line_steps-append}
use Rattle.history_replay.proofs.Opened.{OpenedBy, asked_in, begun, local, opened_by_lines, steps_for, waiting}

heads : (x y : Step) (xs ys : List Step) → x ∷ xs ≡ y ∷ ys → x ≡ y
heads x y xs ys same = cc same

-- a batch is asked for only if it is open
waiting_asks : (commands found : List Cmd) (command : Cmd) → step_waiting commands command ≡ AskBatch found → ⊥
waiting_asks commands found command is = by_tests (is_query command) (nat_lt (length commands) MAX_BATCH_COMMANDS) is
  where
    by_tests : (query room : Bool)
        → cond query (Local (reply.Refused 403 (command_name command))) (cond room (Local (reply.Done (command_name command))) (Local (reply.Refused 403 (command_name command)))) ≡ AskBatch found → ⊥
    by_tests true room same = absurd cc
    by_tests false true same = absurd cc
    by_tests false false same = absurd cc

commit_asks : (commands found : List Cmd) → step_commit commands ≡ AskBatch found → commands ≡ found
commit_asks [] found is = absurd cc
commit_asks (command ∷ commands) found is = cc is

inside_asks : (commands found : List Cmd) (ask : Parsed) → step_inside commands ask ≡ AskBatch found → commands ≡ found
inside_asks commands found (Stage command) is = absurd (waiting_asks commands found command is)
inside_asks commands found Begin is = absurd cc
inside_asks commands found Commit is = commit_asks commands found is
inside_asks commands found Discard is = absurd cc
inside_asks commands found Cls is = absurd cc
inside_asks commands found Version is = absurd cc
inside_asks commands found Bye is = absurd cc
inside_asks commands found Kill is = absurd cc

outside_asks : (found : List Cmd) (ask : Parsed) → step_outside ask ≡ AskBatch found → ⊥
outside_asks found (Stage command) is = absurd cc
outside_asks found Begin is = absurd cc
outside_asks found Commit is = absurd cc
outside_asks found Discard is = absurd cc
outside_asks found Cls is = absurd cc
outside_asks found Version is = absurd cc
outside_asks found Bye is = absurd cc
outside_asks found Kill is = absurd cc

record IsOfBatch (asked : List Parsed) (found : List Cmd) : Type 0 where
  opened : is_open asked ≡ true
  commands : batch asked ≡ found

meaning_asks : (asked : List Parsed) (found : List Cmd) (meant : LineMeaning) → step_of_meaning asked meant ≡ AskBatch found → IsOfBatch asked found
meaning_asks asked found Blank is = absurd cc
meaning_asks asked found (Wrong answer) is = absurd cc
meaning_asks asked found (Asks ask) is = by_open (is_open asked) refl is
  where
    by_open : (b : Bool) → is_open asked ≡ b → cond b (step_inside (batch asked) ask) (step_outside ask) ≡ AskBatch found → IsOfBatch asked found
    by_open true opens same = record { opened = opens; commands = inside_asks (batch asked) found ask same }
    by_open false closed same = absurd (outside_asks found ask same)

line_asks : (asked : List Parsed) (found : List Cmd) (meant : LineMeaning) (lost : Bool) → cond lost (Local reply.NoMemory) (step_of_meaning asked meant) ≡ AskBatch found → IsOfBatch asked found
line_asks asked found meant true is = absurd cc
line_asks asked found meant false is = meaning_asks asked found meant is

-- the parts of two equal lists
first_parts : (xs ys zs ws : List Step) → length xs ≡ length zs → xs ++ ys ≡ zs ++ ws → xs ≡ zs
first_parts xs ys zs ws many same = sym (take_at xs ys (length zs) many) ∙ ap (take (length zs)) same ∙ take_at zs ws (length zs) refl

last_parts : (xs ys zs ws : List Step) → length xs ≡ length zs → xs ++ ys ≡ zs ++ ws → ys ≡ ws
last_parts xs ys zs ws many same = sym (drop_at xs ys (length zs) many) ∙ ap (drop (length zs)) same ∙ drop_at zs ws (length zs) refl

module _ (playout : Playout) (tag : Tag) (given_up : List ℕ) where
  -- what was replied before a step that asks for a batch
  before_batch : (lines : List Line) (before later : List Step) (found : List Cmd) → steps_for playout tag given_up lines ≡ before ++ AskBatch found ∷ later
      → OpenedBy playout tag (asked_in playout tag given_up (take (length before) lines)) before × (batch (asked_in playout tag given_up (take (length before) lines)) ≡ found)
  before_batch lines before later found whole = by_rest (drop (length before) lines) refl
    where
      many : length before + 1 ≤ length lines
      many =
          let all : length (steps_for playout tag given_up lines) ≡ length before + length (AskBatch found ∷ later) =
          ap length whole ∙ length-append before (AskBatch found ∷ later) in
          omega (arith, all, length-line_steps playout.config playout.names given_up lines)

      by_rest : (rest : List Line) → drop (length before) lines ≡ rest
          → OpenedBy playout tag (asked_in playout tag given_up (take (length before) lines)) before × (batch (asked_in playout tag given_up (take (length before) lines)) ≡ found)
      by_rest [] is =
          let none : length lines ≡ length (take (length before) lines) + 0 =
          ap length (sym (take-append-drop (length before) lines)) ∙ length-append (take (length before) lines) (drop (length before) lines) ∙ ap (λ (l : List Line). length (take (length before) lines) + length l) is in
          let short : length (take (length before) lines) ≡ length before = length-take-le (length before) lines (omega (arith, many)) in
          absurd (omega (arith, none, short, many))
      by_rest (line ∷ more) is =
          let front = take (length before) lines in
          let short : length front ≡ length before = length-take-le (length before) lines (omega (arith, many)) in
          let joined : front ++ line ∷ more ≡ lines = ap (λ (l : List Line). front ++ l) (sym is) ∙ take-append-drop (length before) lines in
          let same = sym (line_steps-append playout.config playout.names given_up front (line ∷ more)) ∙ ap (steps_for playout tag given_up) joined ∙ whole in
          let sized : length (steps_for playout tag given_up front) ≡ length before = length-line_steps playout.config playout.names given_up front ∙ short in
          let steps_are : steps_for playout tag given_up front ≡ before = first_parts _ _ before (AskBatch found ∷ later) sized same in
          let step_is : step_of_line playout.config playout.names given_up (front ++ line ∷ more) (length front, line) ≡ AskBatch found =
          heads _ (AskBatch found) _ later (last_parts _ _ before (AskBatch found ∷ later) sized same) in
          let asked = asked_in playout tag given_up front in
          let of : IsOfBatch asked found =
          line_asks asked found (line_meaning playout.config playout.names line) (is_given_up given_up (length front))
          (subst (λ (ls : List Line). cond (is_given_up given_up (length front)) (Local reply.NoMemory) (step_of_meaning (asked_in playout tag given_up ls) (line_meaning playout.config playout.names line)) ≡ AskBatch found)
          (take_at front (line ∷ more) (length front) refl) step_is) in
          (subst (OpenedBy playout tag asked) steps_are (opened_by_lines playout tag given_up front of.opened), of.commands)

  -- before a step of a stream that asks for a batch the replies 202 without the stage are, at their end, those to its BEGIN and to its commands
  pub record IsToldBefore (before : List Step) (found : List Cmd) : Type 0 where
    pub earlier : List Step
    pub since : List Step
    pub whole : before ≡ earlier ++ since
    pub output : flat_map (local playout tag) since ≡ begun playout tag ++ waiting playout tag found

  pub told_before : (stream : List ℕ) (before later : List Step) (found : List Cmd)
      → IsPrefix (before ++ AskBatch found ∷ later) (steps playout.config playout.names given_up stream) → IsToldBefore before found
  unfolding steps
  told_before stream before later found given =
      let lines = lines_of stream in
      let all = steps_for playout tag given_up lines in
      let many = position_or_len is_end all + 1 in
      let stands : all ≡ before ++ AskBatch found ∷ (later ++ (given.0 ++ drop many all)) =
      sym (take-append-drop many all) ∙ ap (λ (l : List Step). l ++ drop many all) (sym given.1)
      ∙ append_assoc (before ++ AskBatch found ∷ later) given.0 (drop many all) ∙ append_assoc before (AskBatch found ∷ later) (given.0 ++ drop many all) in
      let h = before_batch lines before (later ++ (given.0 ++ drop many all)) found stands in
      record {
        earlier = h.0.earlier;
        since = h.0.since;
        whole = h.0.whole;
        output = h.0.output ∙ ap (λ (commands : List Cmd). begun playout tag ++ waiting playout tag commands) h.1;
      }
