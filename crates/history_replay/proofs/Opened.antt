-- The replies since the BEGIN of an open batch, line by line.
use Rattle.std.proofs.Common.{◌≡◌, ℕ, Bool, true, false, cond, List, [], ◌∷◌, ◌++◌, length, refl, sym, ap, subst, ◌∙◌, arith, append_assoc, append-nil, inl, inr, ◌||◌}
use Rattle.std.specs.Prelude.{None, Some, flat_map, Result, Ok, Err}
use Rattle.std.specs.List.{cons_option, list_any}
use Rattle.std.proofs.lemmas.Bool.{cases_lt, false≢true, le-ltb, lt-ltb}
use Rattle.std.proofs.lemmas.Grind.{flat_map-append}
use Rattle.std.proofs.lemmas.List.{take_all}
use Rattle.amcp_text.specs.Lines.{Line, Text, TooLong, NotUtf8}
use Rattle.amcp_text.specs.Tokens.{words_of}
use Rattle.amcp_text.specs.declared.token.TokenFault.{TokenFault}
use Rattle.play_types.specs.Commands.{command_name, is_query}
use Rattle.play_types.specs.declared.command.Cmd.{Cmd}
use Rattle.play_types.specs.declared.command.TheConstants.{MAX_BATCH_COMMANDS}
use Rattle.play_types.specs.declared.event.Tag.{Tag}
use Rattle.play_types.specs.declared.parsed.Parsed.{Parsed}
use Rattle.play_types.specs.declared.parsed.Parsed.TheVariants.{Stage, Begin, Commit, Discard, Cls, Version, Bye, Kill}
use Rattle.play_types.specs.declared.parsed.Refusal.{Refusal}
use Rattle.play_types.specs.declared.parsed.Refusal.TheVariants as refusal
use Rattle.play_types.specs.declared.reply.Name.TheVariants as name
use Rattle.play_types.specs.declared.reply.Reply.TheVariants as reply
use Rattle.history_model.specs.scripts.History.{Playout}
use Rattle.history_model.specs.scripts.Output.{reply_output}
use Rattle.history_model.specs.sessions.Request.{requested}
use Rattle.history_model.specs.sessions.Line.{LineMeaning, Blank, Wrong, Asks, asked_by, line_meaning, meaning_of_parsed, meaning_of_words, refusal_reply}
use Rattle.history_model.specs.sessions.Session.{Step, Local, Skip, asked_by_line, asks, batch, is_begin, is_closing, is_given_up, is_open, line_steps, step_after, step_inside, step_of_meaning, step_outside, step_waiting}
use Rattle.history_model.proofs.OpenBatch.{IsSameBatch, LeavesBatch, batch-begin, batch-left, batch-waits, is_open-closing, is_open-other}
use Rattle.history_model.proofs.Sessions.{asks-append, line_steps-snoc}
use Rattle.history_replay.specs.ReplayOutput.{local_output, waiting_output}

module _ (playout : Playout) (tag : Tag) where
  abbrev pub local : Step → List ℕ
  local step = local_output playout tag step

  abbrev pub begun : List ℕ
  begun = reply_output playout tag (Some (reply.Done name.Begin))

  abbrev pub waiting : List Cmd → List ℕ
  waiting commands = flat_map (waiting_output playout tag) commands

  -- the replies 202 since some of these steps are those to a BEGIN and to the commands of the batch that is open after these asks
  pub record OpenedBy (asked : List Parsed) (steps : List Step) : Type 0 where
    pub earlier : List Step
    pub since : List Step
    pub whole : steps ≡ earlier ++ since
    pub output : flat_map local since ≡ begun ++ waiting (batch asked)

  -- one step more, with no such reply
  goes_on : (asked after : List Parsed) (steps : List Step) (step : Step) → local step ≡ [] → batch after ≡ batch asked → OpenedBy asked steps → OpenedBy after (steps ++ step ∷ [])
  goes_on asked after steps step quiet same h = record {
    earlier = h.earlier;
    since = h.since ++ step ∷ [];
    whole = ap (λ (l : List Step). l ++ step ∷ []) h.whole ∙ append_assoc h.earlier h.since (step ∷ []);
    output = flat_map-append local h.since (step ∷ []) ∙ ap (λ (text : List ℕ). flat_map local h.since ++ (text ++ [])) quiet
        ∙ append-nil (flat_map local h.since) ∙ h.output ∙ ap (λ (commands : List Cmd). begun ++ waiting commands) (sym same);
  }

  -- a command waits
  waits : (asked after : List Parsed) (steps : List Step) (command : Cmd) → batch after ≡ batch asked ++ command ∷ [] → OpenedBy asked steps
      → OpenedBy after (steps ++ Local (reply.Done (command_name command)) ∷ [])
  waits asked after steps command same h =
      let step : Step = Local (reply.Done (command_name command)) in
      record {
        earlier = h.earlier;
        since = h.since ++ step ∷ [];
        whole = ap (λ (l : List Step). l ++ step ∷ []) h.whole ∙ append_assoc h.earlier h.since (step ∷ []);
        output = flat_map-append local h.since (step ∷ []) ∙ ap (λ (text : List ℕ). text ++ (local step ++ [])) h.output
            ∙ append_assoc begun (waiting (batch asked)) (local step ++ [])
            ∙ ap (λ (text : List ℕ). begun ++ text) (sym (flat_map-append (waiting_output playout tag) (batch asked) (command ∷ [])))
            ∙ ap (λ (commands : List Cmd). begun ++ waiting commands) (sym same);
      }

  -- a batch is opened
  begins : (after : List Parsed) (steps : List Step) → batch after ≡ [] → OpenedBy after (steps ++ Local (reply.Done name.Begin) ∷ [])
  begins after steps none = record {
    earlier = steps;
    since = Local (reply.Done name.Begin) ∷ [];
    whole = refl;
    output = ap (λ (commands : List Cmd). begun ++ waiting commands) (sym none);
  }

  -- a line that is refused leaves the batch
  left : (asked : List Parsed) (ask : Parsed) → is_open asked ≡ true → LeavesBatch (step_inside (batch asked) ask) → batch (asked ++ ask ∷ []) ≡ batch asked
  left asked ask is refused =
      let same : IsSameBatch (asked ++ ask ∷ []) asked =
      batch-left asked (Asks ask) (subst (λ (b : Bool). LeavesBatch (cond b (step_inside (batch asked) ask) (step_outside ask))) (sym is) refused) in
      same.commands (same.opened ∙ is)

  closes : (asked : List Parsed) (ask : Parsed) → is_closing ask ≡ true → is_open (asked ++ ask ∷ []) ≡ true → ⊥
  closes asked ask closing opens = false≢true (sym (is_open-closing asked ask closing) ∙ opens)

  -- one more ask if the batch is open
  command_inside : (asked : List Parsed) (command : Cmd) (steps : List Step) → is_open asked ≡ true → OpenedBy asked steps
      → OpenedBy (asked ++ Stage command ∷ []) (steps ++ step_waiting (batch asked) command ∷ [])
  command_inside asked command steps is h = by_query (is_query command) refl
    where
      refused : step_waiting (batch asked) command ≡ Local (reply.Refused 403 (command_name command)) → OpenedBy (asked ++ Stage command ∷ []) (steps ++ step_waiting (batch asked) command ∷ [])
      refused step_is =
          let same : batch (asked ++ Stage command ∷ []) ≡ batch asked = left asked (Stage command) is (subst LeavesBatch (sym step_is) tt) in
          subst (λ (s : Step). OpenedBy (asked ++ Stage command ∷ []) (steps ++ s ∷ [])) (sym step_is)
          (goes_on asked (asked ++ Stage command ∷ []) steps (Local (reply.Refused 403 (command_name command))) refl same h)

      by_room : is_query command ≡ false → OpenedBy (asked ++ Stage command ∷ []) (steps ++ step_waiting (batch asked) command ∷ [])
      by_room acts = elim (cases_lt (length (batch asked)) MAX_BATCH_COMMANDS) [
        | inl short ↦
            let step_is : step_waiting (batch asked) command ≡ Local (reply.Done (command_name command)) =
            rw (acts, lt-ltb (length (batch asked)) MAX_BATCH_COMMANDS short) refl in
            subst (λ (s : Step). OpenedBy (asked ++ Stage command ∷ []) (steps ++ s ∷ [])) (sym step_is)
            (waits asked (asked ++ Stage command ∷ []) steps command (batch-waits asked command is acts short) h)
        | inr long ↦ refused (rw (acts, le-ltb (length (batch asked)) MAX_BATCH_COMMANDS long) refl)
      ]

      by_query : (b : Bool) → is_query command ≡ b → OpenedBy (asked ++ Stage command ∷ []) (steps ++ step_waiting (batch asked) command ∷ [])
      by_query true query = refused (rw query refl)
      by_query false acts = by_room acts

  inside : (asked : List Parsed) (ask : Parsed) (steps : List Step) → is_open asked ≡ true → OpenedBy asked steps → is_open (asked ++ ask ∷ []) ≡ true
      → OpenedBy (asked ++ ask ∷ []) (steps ++ step_inside (batch asked) ask ∷ [])
  inside asked (Stage command) steps is h opens = command_inside asked command steps is h
  inside asked Begin steps is h opens = goes_on asked (asked ++ Begin ∷ []) steps (Local (reply.Refused 403 name.Begin)) refl (left asked Begin is tt) h
  inside asked Commit steps is h opens = absurd (closes asked Commit refl opens)
  inside asked Discard steps is h opens = absurd (closes asked Discard refl opens)
  inside asked Cls steps is h opens = goes_on asked (asked ++ Cls ∷ []) steps (Local (reply.Refused 403 name.Cls)) refl (left asked Cls is tt) h
  inside asked Version steps is h opens = goes_on asked (asked ++ Version ∷ []) steps (Local (reply.Refused 403 name.Version)) refl (left asked Version is tt) h
  inside asked Bye steps is h opens = goes_on asked (asked ++ Bye ∷ []) steps (Local (reply.Refused 403 name.Bye)) refl (left asked Bye is tt) h
  inside asked Kill steps is h opens = goes_on asked (asked ++ Kill ∷ []) steps (Local (reply.Refused 403 name.Kill)) refl (left asked Kill is tt) h

  -- and if none is
  stays_closed : (asked : List Parsed) (ask : Parsed) → is_closing ask ≡ false → list_any is_begin (ask ∷ []) ≡ false → is_open asked ≡ false → is_open (asked ++ ask ∷ []) ≡ true → ⊥
  stays_closed asked ask other none is opens =
      false≢true (sym none ∙ sym (ap (λ (b : Bool). b || list_any is_begin (ask ∷ [])) is) ∙ sym (is_open-other asked ask other) ∙ opens)

  outside : (asked : List Parsed) (ask : Parsed) (steps : List Step) → is_open asked ≡ false → is_open (asked ++ ask ∷ []) ≡ true
      → OpenedBy (asked ++ ask ∷ []) (steps ++ step_outside ask ∷ [])
  outside asked (Stage command) steps is opens = absurd (stays_closed asked (Stage command) refl refl is opens)
  outside asked Begin steps is opens = begins (asked ++ Begin ∷ []) steps (batch-begin asked is)
  outside asked Commit steps is opens = absurd (closes asked Commit refl opens)
  outside asked Discard steps is opens = absurd (closes asked Discard refl opens)
  outside asked Cls steps is opens = absurd (stays_closed asked Cls refl refl is opens)
  outside asked Version steps is opens = absurd (stays_closed asked Version refl refl is opens)
  outside asked Bye steps is opens = absurd (stays_closed asked Bye refl refl is opens)
  outside asked Kill steps is opens = absurd (stays_closed asked Kill refl refl is opens)

  one_ask : (asked : List Parsed) (ask : Parsed) (steps : List Step) → (is_open asked ≡ true → OpenedBy asked steps) → is_open (asked ++ ask ∷ []) ≡ true
      → OpenedBy (asked ++ ask ∷ []) (steps ++ step_after asked ask ∷ [])
  one_ask asked ask steps before opens = by_open (is_open asked) refl
    where
      by_open : (b : Bool) → is_open asked ≡ b → OpenedBy (asked ++ ask ∷ []) (steps ++ step_after asked ask ∷ [])
      by_open true is =
          subst (λ (b : Bool). OpenedBy (asked ++ ask ∷ []) (steps ++ cond b (step_inside (batch asked) ask) (step_outside ask) ∷ [])) (sym is)
          (inside asked ask steps is (before is) opens)
      by_open false is =
          subst (λ (b : Bool). OpenedBy (asked ++ ask ∷ []) (steps ++ cond b (step_inside (batch asked) ask) (step_outside ask) ∷ [])) (sym is)
          (outside asked ask steps is opens)

  -- a line that asks for nothing
  asks_nothing : (asked : List Parsed) (steps : List Step) (step : Step) → local step ≡ [] → (is_open asked ≡ true → OpenedBy asked steps) → is_open (asked ++ []) ≡ true
      → OpenedBy (asked ++ []) (steps ++ step ∷ [])
  asks_nothing asked steps step quiet before opens =
      let same : asked ++ [] ≡ asked = append-nil asked in
      goes_on asked (asked ++ []) steps step quiet (ap batch same) (before (ap is_open (sym same) ∙ opens))

  -- a line that is refused by its words is not answered 202
  abbrev IsQuiet : LineMeaning → Type 0
  IsQuiet Blank = Unit {0}
  IsQuiet (Wrong answer) = local (Local answer) ≡ []
  IsQuiet (Asks ask) = Unit {0}

  refusal_quiet : (line : List ℕ) (reason : Refusal) → local (Local (refusal_reply line reason)) ≡ []
  refusal_quiet line refusal.Unknown = refl
  refusal_quiet line (refusal.Channel name) = refl
  refusal_quiet line (refusal.Missing name) = refl
  refusal_quiet line (refusal.Illegal name at) = refl
  refusal_quiet line (refusal.NotFound name) = refl
  refusal_quiet line (refusal.Unreadable name) = refl

  parsed_quiet : (line : List ℕ) (result : Result Parsed Refusal) → IsQuiet (meaning_of_parsed line result)
  parsed_quiet line (Ok asked) = tt
  parsed_quiet line (Err reason) = refusal_quiet line reason

  words_quiet : (line : List ℕ) (words : Result (List (List ℕ)) TokenFault) → IsQuiet (meaning_of_words playout.config playout.names line words)
  words_quiet line (Err fault) = refl
  words_quiet line (Ok []) = tt
  words_quiet line (Ok (word ∷ words)) = parsed_quiet line (requested playout.config playout.names (word ∷ words))

  line_quiet : (line : Line) → IsQuiet (line_meaning playout.config playout.names line)
  unfolding line_meaning
  line_quiet (Text line) = words_quiet line (words_of line)
  line_quiet TooLong = refl
  line_quiet NotUtf8 = refl

  one_meaning : (asked : List Parsed) (meant : LineMeaning) (steps : List Step) → IsQuiet meant → (is_open asked ≡ true → OpenedBy asked steps)
      → is_open (asked ++ cons_option (asked_by meant) []) ≡ true
      → OpenedBy (asked ++ cons_option (asked_by meant) []) (steps ++ step_of_meaning asked meant ∷ [])
  one_meaning asked Blank steps quiet before opens = asks_nothing asked steps Skip refl before opens
  one_meaning asked (Wrong answer) steps quiet before opens = asks_nothing asked steps (Local answer) quiet before opens
  one_meaning asked (Asks ask) steps quiet before opens = one_ask asked ask steps before opens

  module _ (given_up : List ℕ) where
    abbrev pub asked_in : List Line → List Parsed
    asked_in lines = asks playout.config playout.names given_up lines

    abbrev pub steps_for : List Line → List Step
    steps_for lines = line_steps playout.config playout.names given_up lines

    abbrev IsOpened : List Parsed → List Step → Type 0
    IsOpened asked steps = is_open asked ≡ true → OpenedBy asked steps

    by_given_up : (b : Bool) (lines : List Line) (line : Line) → IsOpened (asked_in lines) (steps_for lines)
        → IsOpened (asked_in lines ++ cons_option (cond b None (asked_by (line_meaning playout.config playout.names line))) [])
        (steps_for lines ++ cond b (Local reply.NoMemory) (step_of_meaning (asked_in lines) (line_meaning playout.config playout.names line)) ∷ [])
    by_given_up true lines line before opens = asks_nothing (asked_in lines) (steps_for lines) (Local reply.NoMemory) refl before opens
    by_given_up false lines line before opens =
        one_meaning (asked_in lines) (line_meaning playout.config playout.names line) (steps_for lines) (line_quiet line) before opens

    one_line : (lines : List Line) (line : Line) → IsOpened (asked_in lines) (steps_for lines) → IsOpened (asked_in (lines ++ line ∷ [])) (steps_for (lines ++ line ∷ []))
    one_line lines line before =
        let asked = asked_in lines ++ cons_option (asked_by_line playout.config playout.names given_up (length lines, line)) [] in
        subst (λ (a : List Parsed). IsOpened a (steps_for (lines ++ line ∷ []))) (sym (asks-append playout.config playout.names given_up lines (line ∷ [])))
        (subst (IsOpened asked) (sym (line_steps-snoc playout.config playout.names given_up lines line))
        (subst
        (λ (ls : List Line). IsOpened asked (steps_for lines ++ cond (is_given_up given_up (length lines)) (Local reply.NoMemory)
        (step_of_meaning (asked_in ls) (line_meaning playout.config playout.names line)) ∷ []))
        (sym (take_all (length lines) lines (omega arith))) (by_given_up (is_given_up given_up (length lines)) lines line before)))

    more_lines : (lines more : List Line) → IsOpened (asked_in lines) (steps_for lines) → IsOpened (asked_in (lines ++ more)) (steps_for (lines ++ more))
    more_lines lines [] before = subst (λ (ls : List Line). IsOpened (asked_in ls) (steps_for ls)) (sym (append-nil lines)) before
    more_lines lines (line ∷ more) before =
        subst (λ (ls : List Line). IsOpened (asked_in ls) (steps_for ls)) (append_assoc lines (line ∷ []) more)
        (more_lines (lines ++ line ∷ []) more (one_line lines line before))

    no_line : IsOpened (asked_in []) (steps_for [])
    unfolding asks
    no_line opens = absurd (false≢true opens)

    pub opened_by_lines : (lines : List Line) → IsOpened (asked_in lines) (steps_for lines)
    opened_by_lines lines = more_lines [] lines no_line
