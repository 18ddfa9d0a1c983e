-- What asking the stage for a step gives: the reply of the definitions after the history that was found.
use Rattle.std.proofs.Common.{◌≡◌, ℕ, ◌+◌, ◌<◌, ◌≤◌, ◌&&◌, ◌==◌, Bool, true, false, List, [], ◌∷◌, ◌++◌, length, refl, sym, ap, ap₂, ◌∙◌, subst, arith, inr, eq-eqb}
use Rattle.std.specs.Prelude.{Some, None, Result, Ok, Err, IfOk, MatchResult, nat_lt, if◌then◌else◌}
use Rattle.std.proofs.lemmas.Bool.Decides.{nat_tests}
use Rattle.std.proofs.lemmas.List.{length-map}
use Rattle.play_types.specs.Config.{ConfigView}
use Rattle.play_types.specs.Commands.{answer_reply, command_name}
use Rattle.play_types.specs.History.{held, held_by, stop_at}
use Rattle.play_types.specs.declared.answer.Answer.{Answer}
use Rattle.play_types.specs.declared.command.Cmd.{Cmd}
use Rattle.play_types.specs.declared.event.Tag.{Tag}
use Rattle.play_types.specs.declared.event.Event.{Event}
use Rattle.play_types.specs.declared.event.Event.TheVariants as event
use Rattle.play_types.specs.declared.reply.Name.{Name}
use Rattle.play_types.specs.declared.reply.Name.TheVariants as name
use Rattle.play_types.proofs.Histories.{stop_at-append}
use Rattle.history_model.specs.stage.Acts.{is_refused}
use Rattle.history_model.specs.stage.Answer.{command_answer, outcome_of}
use Rattle.history_model.specs.text.Replies.{IsRefusalCode, IsReplyTo}
use Rattle.history_model.specs.scripts.History.{JournalFull, OutOfMemory, Taken, Turn, Verdict, channel_size, is_full, setup_of, verdict, verdict_events}
use Rattle.history_model.specs.scripts.Output.{verdict_reply}
use Rattle.history_model.specs.sessions.Session as model
use Rattle.return_codes.proofs.Answered.{answered_batch, answered_command, told_batch, told_command}
use Rattle.stage_core.specs.Stage.{HasRoom, IsNotTaken}
use Rattle.stage_core.specs.declared.fault.ApplyFault.{ApplyFault}
use Rattle.stage_core.specs.declared.fault.ApplyFault.TheVariants as fault
use Rattle.stage_lock.specs.Own.{is_final, is_own}
use Rattle.stage_lock.specs.Views.{PassView, Sizes, journal_of, whole}
use Rattle.stage_lock.specs.Calls.{Adds, IsAnswered, Looks, tag_of}
use Rattle.stage_lock.proofs.Given.{none_since}
use Rattle.conn_worker.specs.Followed.{Service, Followed, events_of, playout_of, reply_of, times_asked, turn_of}
use Rattle.conn_worker.specs.inner.Steps.{AsksFor, IsReady, replied, service_in}
use Rattle.conn_worker.specs.declared.connection.Connection.{Connection}
use Rattle.conn_worker.proofs.Passes.{makes_added, makes_looked}

-- 501 and 503 are codes of refusals
code_501 : IsRefusalCode 501
code_501 = inr (omega arith, omega arith)

code_503 : IsRefusalCode 503
code_503 = inr (omega arith, omega arith)

tested_above : (a b : ℕ) → a < b → nat_lt a b ≡ true
tested_above a b less = grind (arith, nat_tests)

tested_within : (a b : ℕ) → b ≤ a → nat_lt a b ≡ false
tested_within a b less = grind (arith, nat_tests)

-- what becomes of an event, by whether it is above the limit of the journal
judged : (turn : Turn) (commands : ℕ) (full no_memory : Bool) → is_full turn.playout turn.events commands ≡ full → turn.no_memory ≡ no_memory
    → verdict turn commands ≡ (if full then JournalFull else if no_memory then OutOfMemory else Taken)
judged turn commands full no_memory is none = ap₂ (λ (f m : Bool). if f then JournalFull else if m then OutOfMemory else Taken) is none

-- the sizes of a stage that was given these events
abbrev with_given : Sizes → List Event → Sizes
with_given sizes given = record sizes { given = given }

-- the service is one of the stage, for the session of this number
pub record IsService (service : Service) (sizes : Sizes) (worker session : ℕ) : Type 0 where
  pub tag : service.tag ≡ tag_of worker session
  pub channels : sizes.channels ≡ length service.config.channels
  pub limit : sizes.limit ≡ service.config.journal_limit
  pub given : sizes.given ≡ service.given
  pub number : 1 ≤ session

-- what a connection is served with is such a service
pub is_service : (connection : Connection) (worker : ℕ) → IsReady connection → IsService (service_in connection worker) connection.server.stage.now.sizes worker connection.number
is_service connection worker ready = record { tag = refl; channels = ready.stage.channels; limit = ready.stage.limit; given = refl; number = ready.number }

-- a number that is at least 1 is not 0
pub positive : (n : ℕ) → 1 ≤ n → (n == 0) ≡ false
positive n some = grind (arith, nat_tests)

pub and_false : (a b : Bool) → b ≡ false → (a && b) ≡ false
and_false true b h = h
and_false false b h = refl

-- a step that asks for an event of this number of commands, and what it makes of a verdict
pub record IsAsk (service : Service) (step : model.Step) (asked : Event) (commands : ℕ) : Type 0 where
  pub events : (one : Followed) → one.step ≡ step → events_of service one ≡ verdict_events asked (verdict (turn_of service one) commands)
  pub name : Name
  pub answer : List Event → Answer
  pub reply : (one : Followed) → one.step ≡ step → reply_of service one ≡ Some (verdict_reply name (answer (service.given ++ one.found)) (verdict (turn_of service one) commands))
  pub turns : times_asked step ≡ 1
  pub other : is_final asked ≡ false
  pub going : (history : List Event) → stop_at history ≡ None → stop_at (history ++ asked ∷ []) ≡ None
  pub holds : held_by asked ≡ commands

abbrev ask_of_command : (service : Service) (command : Cmd) → IsAsk service (model.Ask command) (event.Do service.tag command) 1
ask_of_command service command = record {
  events = λ one is. ap (λ (s : model.Step). events_of service (record one { step = s })) is;
  name = command_name command;
  answer = λ history. command_answer (setup_of (playout_of service)) history (is_refused history (event.Do service.tag command)) command;
  reply = λ one is. ap (λ (s : model.Step). reply_of service (record one { step = s })) is;
  turns = refl;
  other = refl;
  going = λ history none. stop_at-append history (event.Do service.tag command ∷ []) none;
  holds = refl;
}

abbrev ask_of_batch : (service : Service) (commands : List Cmd) → IsAsk service (model.AskBatch commands) (event.Batch service.tag commands) (length commands)
ask_of_batch service commands = record {
  events = λ one is. ap (λ (s : model.Step). events_of service (record one { step = s })) is;
  name = name.Commit;
  answer = λ history. outcome_of (is_refused history (event.Batch service.tag commands));
  reply = λ one is. ap (λ (s : model.Step). reply_of service (record one { step = s })) is;
  turns = refl;
  other = refl;
  going = λ history none. stop_at-append history (event.Batch service.tag commands ∷ []) none;
  holds = refl;
}

module _ (service : Service) (sizes : Sizes) (step : model.Step) (asked : Event) (commands : ℕ) (ask : IsAsk service step asked commands)
    (limit : sizes.limit ≡ service.config.journal_limit) (before after : PassView) where
  -- the event was added
  taken : (found : Answer) (IsTold : List Event → Type 0) (adds : Adds before asked IsTold after) → is_own before.number asked ≡ true
      → HasRoom (journal_of (with_given sizes service.given) adds.history) (held_by asked) → ask.answer (service.given ++ adds.history) ≡ found
      → AsksFor service step (Ok (answer_reply ask.name found)) before after
  taken found IsTold adds own room replies =
      let one : Followed = record { step = step; found = adds.history; no_memory = false; token = None } in
      let fits : held (service.given ++ adds.history) + commands ≤ service.config.journal_limit = let r = room.commands in let h = ask.holds in omega (arith, r, h, limit) in
      let is : verdict (turn_of service one) commands ≡ Taken =
      judged (turn_of service one) commands false false (tested_within service.config.journal_limit (held (service.given ++ adds.history) + commands) fits) refl in (
        record {
          one = one;
          step_is = refl;
          reply_is = ask.reply one refl ∙ ap₂ (λ (a : Answer) (v : Verdict). Some (verdict_reply ask.name a v)) replies is;
          makes = makes_added service step false before after asked IsTold adds (ask.events one refl ∙ ap (verdict_events asked) is) own ask.other ask.turns;
        },
        ap (λ (p : PassView). stop_at p.seen) adds.after ∙ ask.going adds.history (none_since service.given adds.history room.running),
      )

  -- the event was not added, for this reason
  untaken : (reason : ApplyFault) → Looks before (λ history. IsNotTaken (journal_of (with_given sizes service.given) history) commands reason) after
      → AsksFor service step (replied ask.name (Err reason)) before after
  untaken fault.OutOfMemory looks =
      let one : Followed = record { step = step; found = looks.history; no_memory = true; token = None } in
      let fits : held (service.given ++ looks.history) + commands ≤ service.config.journal_limit = let r = looks.told.commands in omega (arith, r, limit) in
      let is : verdict (turn_of service one) commands ≡ OutOfMemory =
      judged (turn_of service one) commands false true (tested_within service.config.journal_limit (held (service.given ++ looks.history) + commands) fits) refl in (
        record {
          one = one;
          step_is = refl;
          reply_is = ask.reply one refl ∙ ap (λ (v : Verdict). Some (verdict_reply ask.name (ask.answer (service.given ++ looks.history)) v)) is;
          makes = makes_looked service step true before after (λ history. IsNotTaken (journal_of (with_given sizes service.given) history) commands fault.OutOfMemory) looks
              (ask.events one refl ∙ ap (verdict_events asked) is) ask.turns;
        },
        ap (λ (p : PassView). stop_at p.seen) looks.after ∙ none_since service.given looks.history looks.told.running,
      )
  untaken (fault.JournalFull already) looks =
      let one : Followed = record { step = step; found = looks.history; no_memory = false; token = None } in
      let above : service.config.journal_limit < held (service.given ++ looks.history) + commands = let r = looks.told.1 in omega (arith, r, limit) in
      let is : verdict (turn_of service one) commands ≡ JournalFull =
      judged (turn_of service one) commands true false (tested_above service.config.journal_limit (held (service.given ++ looks.history) + commands) above) refl in (
        record {
          one = one;
          step_is = refl;
          reply_is = ask.reply one refl ∙ ap (λ (v : Verdict). Some (verdict_reply ask.name (ask.answer (service.given ++ looks.history)) v)) is;
          makes = makes_looked service step false before after (λ history. IsNotTaken (journal_of (with_given sizes service.given) history) commands (fault.JournalFull already)) looks
              (ask.events one refl ∙ ap (verdict_events asked) is) ask.turns;
        },
        ap (λ (p : PassView). stop_at p.seen) looks.after ∙ none_since service.given looks.history looks.told.0,
      )
  untaken (fault.Ended at) looks = record {
    history = looks.history;
    found = looks.found;
    stop = looks.told;
    after_is = looks.after;
  }

-- the reply to what was asked for
fits_fault : (config : ConfigView) (asked : Name) (reason : ApplyFault) → IfOk (replied asked (Err reason)) (IsReplyTo config)
fits_fault config asked fault.OutOfMemory = code_501
fits_fault config asked (fault.JournalFull already) = code_503
fits_fault config asked (fault.Ended at) = tt

module _ (service : Service) (sizes : Sizes) (worker session : ℕ) (is : IsService service sizes worker session) where
  many : length (setup_of (playout_of service)).channels ≡ sizes.channels
  many = length-map service.config.channels channel_size ∙ sym is.channels

  -- a command was asked for
  pub asks_command : (command : Cmd) (result : Result Answer ApplyFault) (before after : PassView) → before.number ≡ worker
      → MatchResult result
      (λ found. Adds before (event.Do (tag_of before.number session) command) (IsAnswered sizes (event.Do (tag_of before.number session) command) found) after)
      (λ reason. Looks before (λ history. IsNotTaken (journal_of sizes history) 1 reason) after)
      → AsksFor service (model.Ask command) (replied (command_name command) result) before after
  asks_command command (Ok found) before after mine adds =
      let tag : tag_of before.number session ≡ service.tag = ap (λ (n : ℕ). tag_of n session) mine ∙ sym is.tag in
      let a = subst (λ (g : List Event). Adds before (event.Do service.tag command) (IsAnswered (with_given sizes g) (event.Do service.tag command) found) after) is.given
      (subst (λ (t : Tag). Adds before (event.Do t command) (IsAnswered sizes (event.Do t command) found) after) tag adds) in
      taken service sizes (model.Ask command) (event.Do service.tag command) 1 (ask_of_command service command) is.limit before after found
      (IsAnswered (with_given sizes service.given) (event.Do service.tag command) found) a
      (subst (λ (t : Tag). is_own before.number (event.Do t command) ≡ true) tag (eq-eqb before.number before.number refl))
      a.told.room (answered_command (setup_of (playout_of service)) (service.given ++ a.history) service.tag command found (a.told.reply (setup_of (playout_of service)) many))
  asks_command command (Err reason) before after mine looks =
      untaken service sizes (model.Ask command) (event.Do service.tag command) 1 (ask_of_command service command) is.limit before after reason
      (subst (λ (g : List Event). Looks before (λ history. IsNotTaken (journal_of (with_given sizes g) history) 1 reason) after) is.given looks)

  pub asks_batch : (commands : List Cmd) (result : Result Answer ApplyFault) (before after : PassView) → before.number ≡ worker
      → MatchResult result
      (λ found. Adds before (event.Batch (tag_of before.number session) commands) (IsAnswered sizes (event.Batch (tag_of before.number session) commands) found) after)
      (λ reason. Looks before (λ history. IsNotTaken (journal_of sizes history) (length commands) reason) after)
      → AsksFor service (model.AskBatch commands) (replied name.Commit result) before after
  asks_batch commands (Ok found) before after mine adds =
      let tag : tag_of before.number session ≡ service.tag = ap (λ (n : ℕ). tag_of n session) mine ∙ sym is.tag in
      let a = subst (λ (g : List Event). Adds before (event.Batch service.tag commands) (IsAnswered (with_given sizes g) (event.Batch service.tag commands) found) after) is.given
      (subst (λ (t : Tag). Adds before (event.Batch t commands) (IsAnswered sizes (event.Batch t commands) found) after) tag adds) in
      taken service sizes (model.AskBatch commands) (event.Batch service.tag commands) (length commands) (ask_of_batch service commands) is.limit before after found
      (IsAnswered (with_given sizes service.given) (event.Batch service.tag commands) found) a
      (subst (λ (t : Tag). is_own before.number (event.Batch t commands) ≡ true) tag (eq-eqb before.number before.number refl))
      a.told.room (answered_batch (setup_of (playout_of service)) (service.given ++ a.history) service.tag commands found (a.told.reply (setup_of (playout_of service)) many))
  asks_batch commands (Err reason) before after mine looks =
      untaken service sizes (model.AskBatch commands) (event.Batch service.tag commands) (length commands) (ask_of_batch service commands) is.limit before after reason
      (subst (λ (g : List Event). Looks before (λ history. IsNotTaken (journal_of (with_given sizes g) history) (length commands) reason) after) is.given looks)

  -- the replies fit the configuration
  pub fits_asked_command : (command : Cmd) (result : Result Answer ApplyFault) (before after : PassView)
      → MatchResult result
      (λ found. Adds before (event.Do (tag_of before.number session) command) (IsAnswered sizes (event.Do (tag_of before.number session) command) found) after)
      (λ reason. Looks before (λ history. IsNotTaken (journal_of sizes history) 1 reason) after)
      → IfOk (replied (command_name command) result) (IsReplyTo service.config)
  fits_asked_command command (Ok found) before after adds =
      let setup = setup_of (playout_of service) in
      told_command service.config setup (whole sizes adds.history) (tag_of before.number session) command found (many ∙ is.channels) (adds.told.reply setup many)
  fits_asked_command command (Err reason) before after looks = fits_fault service.config (command_name command) reason

  pub fits_asked_batch : (commands : List Cmd) (result : Result Answer ApplyFault) (before after : PassView)
      → MatchResult result
      (λ found. Adds before (event.Batch (tag_of before.number session) commands) (IsAnswered sizes (event.Batch (tag_of before.number session) commands) found) after)
      (λ reason. Looks before (λ history. IsNotTaken (journal_of sizes history) (length commands) reason) after)
      → IfOk (replied name.Commit result) (IsReplyTo service.config)
  fits_asked_batch commands (Ok found) before after adds =
      let setup = setup_of (playout_of service) in
      told_batch service.config setup (whole sizes adds.history) (tag_of before.number session) commands found (adds.told.reply setup many)
  fits_asked_batch commands (Err reason) before after looks = fits_fault service.config name.Commit reason
