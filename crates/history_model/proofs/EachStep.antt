-- A claim about each step of a stream of lines, by a claim about its replies and about what its lines ask for.
use Rattle.std.proofs.Common.{◌≡◌, ℕ, zero, suc, ◌+◌, Bool, true, false, List, [], ◌∷◌, ◌++◌, take, length, refl, subst}
use Rattle.std.specs.Prelude.{Option, Some, None, Ok, IfSome, All, get_or, filter_map, slice_get, if◌then◌else◌}
use Rattle.std.specs.List.{after_first, cons_option, enumerate_from, position_or_len}
use Rattle.std.proofs.lemmas.List.Elements.{All-nil, All-cons, All-head, All-tail, All-take, All-drop, All-map}
use Rattle.amcp_text.specs.Lines.{Line, lines_of}
use Rattle.play_types.specs.Commands.{is_query}
use Rattle.play_types.specs.Config.{ConfigView}
use Rattle.play_types.specs.Media.{MediaNameView}
use Rattle.play_types.specs.declared.command.Cmd.{Cmd}
use Rattle.play_types.specs.declared.command.TheConstants.{MAX_BATCH_COMMANDS}
use Rattle.play_types.specs.declared.event.Tag.{Tag}
use Rattle.play_types.specs.declared.parsed.Parsed.{Parsed}
use Rattle.play_types.specs.declared.parsed.Parsed.TheVariants.{Stage, Begin, Commit, Discard, Cls, Version, Bye, Kill}
use Rattle.play_types.specs.declared.reply.Reply.{Reply}
use Rattle.play_types.specs.declared.reply.Reply.TheVariants as reply
use Rattle.history_model.specs.commands.Command.{parsed}
use Rattle.history_model.specs.sessions.Line.{LineMeaning, Blank, Wrong, Asks, asked_by, line_meaning}
use Rattle.history_model.specs.sessions.Session.{Step, Local, Ask, KillServer, EndConnection, Skip, asked_by_line, asks, batch, batched, is_begin, is_given_up, is_open, line_steps, since_closing, step_after, step_commit, step_of_line, step_of_meaning, steps}
use Rattle.history_model.specs.scripts.History.{PlayedLine, Playout, given_up_of, said_step, stream_of, texts_of}
use Rattle.history_model.proofs.Asking.{IsMeant, line_meant}
use Rattle.history_model.proofs.EachAsk.{asked-holds}

-- what holds of all that elements give
All-filter_map : {X Y : Type 0} (P : X → Type 0) (Q : Y → Type 0) (f : X → Option Y) (xs : List X) → ((x : X) → P x → IfSome (f x) Q) → All P xs → All Q (filter_map f xs)
All-filter_map P Q f [] gives all = All-nil Q
All-filter_map {X = X} {Y = Y} P Q f (x ∷ xs) gives all =
    more (f x) (gives x (All-head P x xs all)) (All-filter_map P Q f xs gives (All-tail P x xs all))
  where
    more : (found : Option Y) → IfSome found Q → All Q (filter_map f xs) → All Q (cons_option found (filter_map f xs))
    more None has rest = rest
    more (Some y) has rest = All-cons Q y (filter_map f xs) has rest

-- what holds of each element holds of the one at a position
pub one_of_all : {X : Type 0} (P : X → Type 0) (xs : List X) (k : ℕ) → All P xs → IfSome (slice_get xs k) P
one_of_all P [] k all = tt
one_of_all P (x ∷ xs) zero all = All-head P x xs all
one_of_all P (x ∷ xs) (suc k) all = one_of_all P xs k (All-tail P x xs all)

-- what holds of each command that is asked for, and is no query, holds of the commands of the open batch
batched-each : (Asked : Parsed → Type 0) (Batched : Cmd → Type 0) → ((command : Cmd) → Asked (Stage command) → is_query command ≡ false → Batched command)
    → (asked : Parsed) → Asked asked → IfSome (batched asked) Batched
batched-each Asked Batched each (Stage command) is = by_query (is_query command) refl
  where
    by_query : (b : Bool) → is_query command ≡ b → IfSome (if b then None else Some command) Batched
    by_query true same = tt
    by_query false same = each command is same
batched-each Asked Batched each Begin is = tt
batched-each Asked Batched each Commit is = tt
batched-each Asked Batched each Discard is = tt
batched-each Asked Batched each Cls is = tt
batched-each Asked Batched each Version is = tt
batched-each Asked Batched each Bye is = tt
batched-each Asked Batched each Kill is = tt

pub batch-each : (Asked : Parsed → Type 0) (Batched : Cmd → Type 0) → ((command : Cmd) → Asked (Stage command) → is_query command ≡ false → Batched command)
    → (asked : List Parsed) → All Asked asked → All Batched (batch asked)
batch-each Asked Batched each asked all =
    let since = All-drop Asked _ asked all in
    let opened = All-drop Asked (position_or_len is_begin (since_closing asked) + 1) (since_closing asked) since in
    All-take Batched MAX_BATCH_COMMANDS (filter_map batched (after_first is_begin (since_closing asked)))
    (All-filter_map Asked Batched batched (after_first is_begin (since_closing asked)) (batched-each Asked Batched each) opened)

-- it holds of each step of a line, if the lines ask for what `Asked` holds of
pub record HoldsOfLines (Asked : Parsed → Type 0) (Holds : Step → Type 0) : Type 0 where
  pub replied : (answer : Reply) → Holds (Local answer)
  pub kill : Holds KillServer
  pub ended : Holds EndConnection
  pub skip : Holds Skip
  -- of a command that is asked for
  pub ask : (command : Cmd) → Asked (Stage command) → Holds (Ask command)
  -- of a COMMIT after what was asked for
  pub commit : (before : List Parsed) → All Asked before → Holds (step_commit (batch before))

module _ (config : ConfigView) (media : List MediaNameView) (Asked : Parsed → Type 0) (Holds : Step → Type 0)
    (by_words : (words : List (List ℕ)) (asked : Parsed) → parsed config media words ≡ Ok asked → Asked asked) (holds : HoldsOfLines Asked Holds) where
  -- `Asked` holds of what lines ask for
  asked_by-each : (meant : LineMeaning) → IsMeant config media meant → IfSome (asked_by meant) Asked
  asked_by-each Blank is = tt
  asked_by-each (Wrong answer) is = tt
  asked_by-each (Asks asked) is = by_words is.0 asked is.1

  asked_by_line-each : (given_up : List ℕ) (line : ℕ × Line) → IfSome (asked_by_line config media given_up line) Asked
  asked_by_line-each given_up line = by_given_up (is_given_up given_up line.0)
    where
      by_given_up : (b : Bool) → IfSome (if b then None else asked_by (line_meaning config media line.1)) Asked
      by_given_up true = tt
      by_given_up false = asked_by-each (line_meaning config media line.1) (line_meant config media line.1)

  asks-each : (given_up : List ℕ) (lines : List Line) → All Asked (asks config media given_up lines)
  unfolding asks
  asks-each given_up lines =
      All-filter_map (λ line. Unit {0}) Asked (asked_by_line config media given_up) (enumerate_from 0 lines)
      (λ line any. asked_by_line-each given_up line) (λ k line inside. tt)

  -- the step of a line
  after-each : (before : List Parsed) (asked : Parsed) → All Asked before → Asked asked → Holds (step_after before asked)
  after-each before asked earlier is =
      asked-holds Holds
      (record {
        done = λ command. holds.replied (reply.Done command);
        refused = λ command. holds.replied (reply.Refused 403 command);
        cls = holds.replied reply.Cls;
        version = holds.replied reply.Version;
        kill = holds.kill;
        ended = holds.ended;
      })
      (is_open before) (batch before) asked (holds.commit before earlier) (λ command same. holds.ask command (subst Asked same is))

  meaning-each : (before : List Parsed) (meant : LineMeaning) → All Asked before → IsMeant config media meant → Holds (step_of_meaning before meant)
  meaning-each before Blank earlier is = holds.skip
  meaning-each before (Wrong answer) earlier is = holds.replied answer
  meaning-each before (Asks asked) earlier is = after-each before asked earlier (by_words is.0 asked is.1)

  line-each : (given_up : List ℕ) (lines : List Line) (line : ℕ × Line) → Holds (step_of_line config media given_up lines line)
  line-each given_up lines line = by_given_up (is_given_up given_up line.0)
    where
      by_given_up : (b : Bool) → Holds
          (if b then Local reply.NoMemory else step_of_meaning (asks config media given_up (take line.0 lines)) (line_meaning config media line.1))
      by_given_up true = holds.replied reply.NoMemory
      by_given_up false =
          meaning-each (asks config media given_up (take line.0 lines)) (line_meaning config media line.1)
          (asks-each given_up (take line.0 lines)) (line_meant config media line.1)

  line_steps-each : (given_up : List ℕ) (lines : List Line) → All Holds (line_steps config media given_up lines)
  unfolding line_steps
  line_steps-each given_up lines =
      All-map Holds (step_of_line config media given_up lines) (enumerate_from 0 lines)
      (λ k line inside. line-each given_up lines (get_or (enumerate_from 0 lines) k line))

  -- it holds of the steps of a stream, whichever of its lines were given up
  pub steps-each : (given_up stream : List ℕ) → All Holds (steps config media given_up stream)
  unfolding steps
  steps-each given_up stream = All-take Holds _ (line_steps config media given_up (lines_of stream)) (line_steps-each given_up (lines_of stream))

-- what holds of each step of a stream holds of the step of a connection's line in a script
pub said-each : (playout : Playout) (Holds : Step → Type 0) → ((given_up stream : List ℕ) → All Holds (steps playout.config playout.names given_up stream))
    → (before : List PlayedLine) (line : PlayedLine) (tag : Tag) → IfSome (said_step playout before line tag) Holds
unfolding said_step
said-each playout Holds each before line tag =
    let all = before ++ line ∷ [] in
    one_of_all Holds (steps playout.config playout.names (given_up_of tag all) (stream_of tag all)) (length (texts_of tag before))
    (each (given_up_of tag all) (stream_of tag all))
