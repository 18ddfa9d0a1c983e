-- Requests that the stage takes or does not take, and the steps of connections.
use Rattle.std.proofs.Common.{◌≡◌, ℕ, ◌+◌, ◌<◌, ◌≤◌, Bool, true, false, List, [], ◌∷◌, ◌++◌, refl, sym, ap, ◌∙◌, subst, subst₂, arith, append-nil, append_assoc, length}
use Rattle.std.specs.Prelude.{Option, Some, None, Result, Ok, Err, IfErr, IfOk, OnErr, OnOk, nat_lt, if◌then◌else◌, option_map}
use Rattle.std.proofs.lemmas.Bool.Decides.{nat_tests}
use Rattle.std.proofs.lemmas.List.{length-map}
use Rattle.std.proofs.lemmas.Option.{none-some}
use Rattle.play_types.specs.Commands.{answer_reply}
use Rattle.play_types.specs.Config.{ConfigView}
use Rattle.play_types.specs.Media.{MediaNameView}
use Rattle.play_types.specs.History.{held, stop_at, ticks}
use Rattle.play_types.specs.declared.answer.Answer.{Answer}
use Rattle.play_types.specs.declared.command.Cmd.{Cmd}
use Rattle.play_types.specs.declared.event.Tag.{Tag}
use Rattle.play_types.specs.declared.event.Event.{Event}
use Rattle.play_types.specs.declared.event.Event.TheVariants as event
use Rattle.play_types.specs.declared.reply.Name.TheVariants as name
use Rattle.play_types.specs.declared.reply.Reply.{Reply}
use Rattle.play_types.specs.declared.reply.Reply.TheVariants as reply
use Rattle.play_types.proofs.Histories.{stop_at-append, ticks-append}
use Rattle.play_outside.specs.SinkState.{SinkState, after_taking}
use Rattle.play_outside.proofs.Taking.{after_taking-nil}
use Rattle.history_model.specs.pictures.Media.{Setup}
use Rattle.history_model.specs.stage.Answer.{Answered, answer}
use Rattle.history_model.specs.text.Replies.{answer_lines, reply_lines, with_token}
use Rattle.history_model.specs.scripts.History.{JournalFull, OutOfMemory, Taken, Turn, Verdict, channel_size, is_full, is_kill, step_events, verdict, verdict_events}
use Rattle.history_model.specs.scripts.Memory.{HadMemoryIfAny, HadMemory}
use Rattle.history_model.specs.scripts.Output.{answer_output, step_reply, tagged_lines, verdict_reply}
use Rattle.history_model.specs.sessions.Session.{KillServer, Step}
use Rattle.history_model.specs.sessions.Session as model
use Rattle.stage_core.specs.Stage.{HasRoom, IsNotTaken, StageView, after_event}
use Rattle.stage_core.specs.declared.fault.ApplyFault.{ApplyFault}
use Rattle.stage_core.specs.declared.fault.ApplyFault.TheVariants as fault
use Rattle.play_session.specs.Step.{is_out_of_memory}
use Rattle.play_session.proofs.NextToken.{reply_token-kept}
use Rattle.return_codes.proofs.Answered.{answered_batch, answered_command}
use Rattle.server_setup.specs.declared.setup.ServerSetup.{ServerSetup}
use Rattle.script_player.specs.declared.clients.Clients.{Clients}
use Rattle.script_player.specs.declared.ending.Halt.{Halt}
use Rattle.script_player.specs.declared.ending.Halt.TheVariants as halt
use Rattle.script_player.specs.declared.player.Player.{Player}
use Rattle.script_player.specs.Clients.{HaveAimedBatches}
use Rattle.script_player.specs.Player.{DoesRequest, FollowsStep, Given, IsFollowed, IsGoingOn, IsReady, MakesEvents, MakesNoTick, MayReply, NextStep, RepliesTo, Request, WritesReply, answering, batch_request, command_request, events_in, playout_in, setup_in, step_in_turn, step_text, turn_in}

-- nothing happened
pub makes_nothing : (player : Player) → MakesEvents [] player player
makes_nothing player = record { setup = refl; digests = refl; memory = refl; clients = refl; channels = refl; history = sym (append-nil (events_in player)) }

-- some events happened, and then others
pub makes_then : (first second both : List Event) (old mid new : Player) → MakesEvents first old mid → MakesEvents second mid new → first ++ second ≡ both → MakesEvents both old new
makes_then first second both old mid new one two is = record {
  setup = two.setup ∙ one.setup;
  digests = two.digests ∙ one.digests;
  memory = two.memory ∙ one.memory;
  clients = two.clients ∙ one.clients;
  channels = two.channels ∙ one.channels;
  history = two.history ∙ ap (λ (es : List Event). es ++ second) one.history ∙ append_assoc (events_in old) first second ∙ ap (λ (es : List Event). events_in old ++ es) is;
}

-- the stage took one event more
pub makes_event : (player : Player) (event : Event) (stage : StageView) → stage ≡ after_event event player.stage → MakesEvents (event ∷ []) player (record player { stage = stage })
makes_event player event stage is = record {
  setup = refl;
  digests = refl;
  memory = refl;
  clients = refl;
  channels = ap (λ (s : StageView). s.channels) is;
  history = ap (λ (s : StageView). s.journal.events) is;
}

-- an event is no tick if it is a command or a stop
pub ticks_kept : (event : Event) (player : Player) (stage : StageView) → ticks (event ∷ []) ≡ 0 → stage ≡ after_event event player.stage
    → ticks stage.journal.events ≡ ticks (events_in player)
ticks_kept event player stage none is =
    ap (λ (s : StageView). ticks s.journal.events) is ∙ ticks-append (events_in player) (event ∷ []) ∙ omega (arith, none)

-- the verdict on a number of commands
judged : (turn : Turn) (commands : ℕ) (full : Bool) → is_full turn.playout turn.events commands ≡ full
    → verdict turn commands ≡ (if full then JournalFull else if turn.no_memory then OutOfMemory else Taken)
judged turn commands full is = ap (λ (f : Bool). if f then JournalFull else if turn.no_memory then OutOfMemory else Taken) is

-- the limit of the journal is that of the configuration
full_by : (player : Player) (commands : ℕ) → IsReady player → player.stage.journal.limit < held (events_in player) + commands
    → is_full (playout_in player) (events_in player) commands ≡ true
full_by player commands ready above =
    let same = ready.limit in
    let high : player.setup.config.journal_limit < held (events_in player) + commands = omega (arith, same, above) in
    tested (player.setup.config.journal_limit) (held (events_in player) + commands) high
  where
    tested : (a b : ℕ) → a < b → nat_lt a b ≡ true
    tested a b less = grind (arith, nat_tests)

room_by : (player : Player) (commands : ℕ) → IsReady player → held (events_in player) + commands ≤ player.stage.journal.limit
    → is_full (playout_in player) (events_in player) commands ≡ false
room_by player commands ready fits =
    let same = ready.limit in
    let low : held (events_in player) + commands ≤ player.setup.config.journal_limit = omega (arith, same, fits) in
    tested (player.setup.config.journal_limit) (held (events_in player) + commands) low
  where
    tested : (a b : ℕ) → b ≤ a → nat_lt a b ≡ false
    tested a b less = grind (arith, nat_tests)

-- a refused request makes no event
refused_by : (tag : Tag) (request : Request) (found : Reply) (player : Player) (no_memory : Bool) (becomes : Verdict)
    → verdict (turn_in player tag no_memory) request.commands ≡ becomes → found ≡ verdict_reply request.name request.answer becomes
    → verdict_events request.event becomes ≡ [] → DoesRequest tag request found player player
refused_by tag request found player no_memory becomes is replies none = record {
  no_memory = no_memory;
  replies = replies ∙ ap (verdict_reply request.name request.answer) (sym is);
  makes = subst (λ es. MakesEvents es player player) (sym none ∙ ap (verdict_events request.event) (sym is)) (makes_nothing player);
}

-- the reply gives the stage's result, and the request is an event if the stage took it
pub does_request : (tag : Tag) (request : Request) (taken : Result Answer ApplyFault) (found : Reply) (player : Player) (stage : StageView) → IsReady player
    → IfOk taken (λ given. given ≡ request.answer) → OnOk taken (stage ≡ after_event request.event player.stage)
    → OnOk taken (HasRoom player.stage.journal request.commands) → OnErr taken (stage ≡ player.stage)
    → IfErr taken (λ reason. IsNotTaken player.stage.journal request.commands reason) → RepliesTo request.name taken found
    → DoesRequest tag request found player (record player { stage = stage })
does_request tag request (Ok given) found player stage ready answers made room kept cause replies =
    let is = judged (turn_in player tag false) request.commands false (room_by player request.commands ready room.commands) in
    record {
      no_memory = false;
      replies = replies ∙ ap (answer_reply request.name) answers ∙ ap (verdict_reply request.name request.answer) (sym is);
      makes = subst (λ es. MakesEvents es player (record player { stage = stage })) (ap (verdict_events request.event) (sym is))
          (makes_event player request.event stage made);
    }
does_request tag request (Err fault.OutOfMemory) found player stage ready answers made room kept cause replies =
    subst (λ s. DoesRequest tag request found player (record player { stage = s })) (sym kept)
    (refused_by tag request found player true OutOfMemory
    (judged (turn_in player tag true) request.commands false (room_by player request.commands ready cause.commands)) replies refl)
does_request tag request (Err (fault.JournalFull already)) found player stage ready answers made room kept cause replies =
    subst (λ s. DoesRequest tag request found player (record player { stage = s })) (sym kept)
    (refused_by tag request found player false JournalFull
    (judged (turn_in player tag false) request.commands true (full_by player request.commands ready cause.1)) replies refl)
does_request tag request (Err (fault.Ended at)) found player stage ready answers made room kept cause replies = absurd replies

-- a history without a stop has not ended
pub going_on : (player : Player) (commands : ℕ) (taken : Result Answer ApplyFault) → IsReady player
    → IfErr taken (λ reason. IsNotTaken player.stage.journal commands reason) → IsGoingOn taken
going_on player commands (Ok given) ready cause = tt
going_on player commands (Err fault.OutOfMemory) ready cause = tt
going_on player commands (Err (fault.JournalFull already)) ready cause = tt
going_on player commands (Err (fault.Ended at)) ready cause = absurd (none-some at (sym ready.running ∙ cause))

-- the setup has the channels of the stage
pub channels_of : (player : Player) → IsReady player → length (setup_in player).channels ≡ player.stage.channels
channels_of player ready = length-map player.setup.config.channels channel_size ∙ sym ready.channels

-- the answer to a command that the stage took
pub command_answered : (player : Player) (tag : Tag) (command : Cmd) (taken : Result Answer ApplyFault) → IsReady player
    → IfOk taken (λ given. (setup : Setup) → length setup.channels ≡ player.stage.channels → answer setup (events_in player) (event.Do tag command) ≡ Answered given)
    → IfOk taken (λ given. given ≡ (command_request player tag command).answer)
command_answered player tag command (Ok given) ready answers =
    sym (answered_command (setup_in player) (events_in player) tag command given (answers (setup_in player) (channels_of player ready)))
command_answered player tag command (Err reason) ready answers = tt

-- the answer to a batch that the stage took
pub batch_answered : (player : Player) (tag : Tag) (commands : List Cmd) (taken : Result Answer ApplyFault)
    → IfOk taken (λ given. (setup : Setup) → answer setup (events_in player) (event.Batch tag commands) ≡ Answered given)
    → IfOk taken (λ given. given ≡ (batch_request player tag commands).answer)
batch_answered player tag commands (Ok given) answers = sym (answered_batch (setup_in player) (events_in player) tag commands given (answers (setup_in player)))
batch_answered player tag commands (Err reason) answers = tt

-- the player goes on after a command or a batch, whether the stage took it or not
pub ready_after : (one : Event) (taken : Result Answer ApplyFault) (player : Player) (stage : StageView) → stop_at (one ∷ []) ≡ None
    → IsReady player → OnOk taken (stage ≡ after_event one player.stage) → OnErr taken (stage ≡ player.stage) → IsReady (record player { stage = stage })
ready_after one (Ok given) player stage goes ready made kept =
    let events = events_in player in
    let history : stage.journal.events ≡ events ++ one ∷ [] = ap (λ (s : StageView). s.journal.events) made in
    record {
      limit = ap (λ (s : StageView). s.journal.limit) made ∙ ready.limit;
      channels = ap (λ (s : StageView). s.channels) made ∙ ready.channels;
      scenes = ready.scenes;
      batches = ready.batches;
      running = ap stop_at history ∙ stop_at-append events (one ∷ []) ready.running ∙ ap (option_map (λ n. length events + n)) goes;
    }
ready_after one (Err reason) player stage goes ready made kept = subst (λ s. IsReady (record player { stage = s })) (sym kept) ready

-- and no tick was made
pub no_tick_after : (one : Event) (taken : Result Answer ApplyFault) (player : Player) (stage : StageView) → ticks (one ∷ []) ≡ 0
    → OnOk taken (stage ≡ after_event one player.stage) → OnErr taken (stage ≡ player.stage) → ticks stage.journal.events ≡ ticks (events_in player)
no_tick_after one (Ok given) player stage none made kept = ticks_kept one player stage none made
no_tick_after one (Err reason) player stage none made kept = ap (λ (s : StageView). ticks s.journal.events) kept

-- the player goes on with other connections
pub ready_clients : (player : Player) (clients : Clients) → IsReady player → HaveAimedBatches player.setup.config clients.list.items → IsReady (record player { clients = clients })
ready_clients player clients ready aimed = record {
  limit = ready.limit;
  channels = ready.channels;
  scenes = ready.scenes;
  batches = aimed;
  running = ready.running;
}

-- a reply that was written may be written
may_reply : (next : NextStep) (answer : Reply) → step_reply next.turn next.step ≡ Some answer → (next.needs_memory ≡ true → HadMemory answer) → MayReply next
may_reply next answer replies memory = λ needs. subst HadMemoryIfAny (sym replies) (memory needs)

-- a step was executed by a reply alone
followed : (next : NextStep) (answer : Reply) (result : Result (Option Reply) Halt) (made : List Event) (before after : SinkState)
    → step_reply next.turn next.step ≡ Some answer → made ≡ step_events next.turn next.step → is_kill next.step ≡ false
    → WritesReply (record { answer = answer; needs_memory = next.needs_memory }) result (answer_output next.turn.playout next.turn.tag next.token (Some answer)) before after
    → IsFollowed next result made before after
followed next answer result made before after replies makes goes writes =
    by_result result (subst (λ o. WritesReply (record { answer = answer; needs_memory = next.needs_memory }) result (answer_output next.turn.playout next.turn.tag next.token o) before after) (sym replies) writes)
  where
    by_result : (result : Result (Option Reply) Halt) → WritesReply (record { answer = answer; needs_memory = next.needs_memory }) result (step_text next) before after
        → IsFollowed next result made before after
    by_result (Ok replied) (is, written, memory) = (goes, makes, written, is ∙ sym replies, may_reply next answer replies memory)
    by_result (Err halt.Write) fails = fails
    by_result (Err halt.Memory) stops = (stops.0, stops.2)
    by_result (Err halt.Stop) none = absurd none
    by_result (Err halt.Rejected) none = none

-- the token of a line that was given up is in no reply
told_lines : (config : ConfigView) (media : List MediaNameView) (token told : Option (List ℕ)) (answer : Reply) → (is_out_of_memory answer ≡ false → token ≡ told)
    → answer_lines config media token answer ≡ answer_lines config media told answer
told_lines config media token told answer kept = ap (λ (t : Option (List ℕ)). with_token t (reply_lines config media answer)) (reply_token-kept token told answer kept)

-- a reply for which the stage is not asked was written
pub follows_local : (given : Given) (token : Option (List ℕ)) (answer : Reply) (result : Result (Option Reply) Halt) (before after : SinkState)
    → (is_out_of_memory answer ≡ false → token ≡ given.token)
    → step_reply (turn_in given.player given.tag false) given.step ≡ Some answer
    → step_events (turn_in given.player given.tag false) given.step ≡ [] → is_kill given.step ≡ false
    → WritesReply (answering given.player answer) result (tagged_lines given.tag (answer_lines given.player.setup.config given.player.setup.names token answer)) before after
    → FollowsStep given result given.player before after
follows_local given token answer result before after kept replies none goes writes = record {
  no_memory = false;
  made = [];
  makes = makes_nothing given.player;
  follows = followed (step_in_turn given false) answer result [] before after replies (sym none) goes
      (subst (λ (lines : List (List ℕ)). WritesReply (answering given.player answer) result (tagged_lines given.tag lines) before after)
      (told_lines given.player.setup.config given.player.setup.names token given.token answer kept) writes);
}

-- a reply was written with the setup and the need of memory that the player had before
still_written : (given : Given) (answer : Reply) (result : Result (Option Reply) Halt) (old new : Player) (before after : SinkState)
    → new.setup ≡ old.setup → new.needs_memory ≡ old.needs_memory
    → WritesReply (answering new answer) result (tagged_lines given.tag (answer_lines new.setup.config new.setup.names given.token answer)) before after
    → WritesReply (answering old answer) result (tagged_lines given.tag (answer_lines old.setup.config old.setup.names given.token answer)) before after
still_written given answer result old new before after setup memory writes =
    subst₂
    (λ (s : ServerSetup) (needs : Bool). WritesReply (record { answer = answer; needs_memory = needs }) result (tagged_lines given.tag (answer_lines s.config s.names given.token answer)) before after)
    setup memory writes

-- a request was done, and the reply to it was written
follows_request : (given : Given) (request : Request) (answer : Reply) (result : Result (Option Reply) Halt) (new : Player) (before after : SinkState)
    → (does : DoesRequest given.tag request answer given.player new)
    → step_reply (turn_in given.player given.tag does.no_memory) given.step
    ≡ Some (verdict_reply request.name request.answer (verdict (turn_in given.player given.tag does.no_memory) request.commands))
    → step_events (turn_in given.player given.tag does.no_memory) given.step
    ≡ verdict_events request.event (verdict (turn_in given.player given.tag does.no_memory) request.commands)
    → is_kill given.step ≡ false
    → WritesReply (answering new answer) result (tagged_lines given.tag (answer_lines new.setup.config new.setup.names given.token answer)) before after
    → FollowsStep given result new before after
follows_request given request answer result new before after does replies makes goes writes =
    let turn = turn_in given.player given.tag does.no_memory in
    let written : WritesReply (answering given.player answer) result (tagged_lines given.tag (answer_lines given.player.setup.config given.player.setup.names given.token answer)) before after =
    still_written given answer result given.player new before after does.makes.setup does.makes.memory writes in
    record {
      no_memory = does.no_memory;
      made = verdict_events request.event (verdict turn request.commands);
      makes = does.makes;
      follows = followed (step_in_turn given does.no_memory) answer result (verdict_events request.event (verdict turn request.commands)) before after
          (replies ∙ ap Some (sym does.replies)) (sym makes) goes written;
    }

pub follows_command : (given : Given) (command : Cmd) (answer : Reply) (result : Result (Option Reply) Halt) (new : Player) (before after : SinkState)
    → given.step ≡ Some (model.Ask command) → DoesRequest given.tag (command_request given.player given.tag command) answer given.player new
    → WritesReply (answering new answer) result (tagged_lines given.tag (answer_lines new.setup.config new.setup.names given.token answer)) before after
    → FollowsStep given result new before after
follows_command given command answer result new before after asks does writes =
    let turn = turn_in given.player given.tag does.no_memory in
    follows_request given (command_request given.player given.tag command) answer result new before after does
    (ap (step_reply turn) asks) (ap (step_events turn) asks) (ap is_kill asks) writes

pub follows_batch : (given : Given) (commands : List Cmd) (answer : Reply) (result : Result (Option Reply) Halt) (new : Player) (before after : SinkState)
    → given.step ≡ Some (model.AskBatch commands) → DoesRequest given.tag (batch_request given.player given.tag commands) answer given.player new
    → WritesReply (answering new answer) result (tagged_lines given.tag (answer_lines new.setup.config new.setup.names given.token answer)) before after
    → FollowsStep given result new before after
follows_batch given commands answer result new before after asks does writes =
    let turn = turn_in given.player given.tag does.no_memory in
    follows_request given (batch_request given.player given.tag commands) answer result new before after does
    (ap (step_reply turn) asks) (ap (step_events turn) asks) (ap is_kill asks) writes

-- a step in a turn in which the stage has memory
abbrev next_with : Given → Option Step → NextStep
next_with given step = record { needs_memory = given.player.needs_memory; turn = turn_in given.player given.tag false; step = step; token = given.token }

-- the connection's kill was answered, and the history ended
pub follows_kill : (given : Given) (new : Player) (before after : SinkState) → given.step ≡ Some KillServer
    → MakesEvents (event.Stop given.tag ∷ []) given.player new
    → after ≡ after_taking before (tagged_lines given.tag (answer_lines new.setup.config new.setup.names given.token (reply.Done name.Kill)))
    → FollowsStep given (Err halt.Stop) new before after
follows_kill given new before after kills makes written = record {
  no_memory = false;
  made = event.Stop given.tag ∷ [];
  makes = makes;
  follows =
      subst (λ s. IsFollowed (next_with given s) (Err halt.Stop) (event.Stop given.tag ∷ []) before after) (sym kills) (
        refl,
        refl,
        written ∙ ap (λ (s : ServerSetup). after_taking before (tagged_lines given.tag (answer_lines s.config s.names given.token (reply.Done name.Kill)))) makes.setup,
        λ needs. refl,
      );
}

-- the answer to the kill was not written
pub kill_failed : (given : Given) (reason : Halt) (new : Player) (before after : SinkState) → given.step ≡ Some KillServer
    → MakesEvents (event.Stop given.tag ∷ []) given.player new
    → WritesReply (answering new (reply.Done name.Kill)) (Err reason) (tagged_lines given.tag (answer_lines new.setup.config new.setup.names given.token (reply.Done name.Kill))) before after
    → FollowsStep given (Err reason) new before after
kill_failed given reason new before after kills makes writes = record {
  no_memory = false;
  made = event.Stop given.tag ∷ [];
  makes = makes;
  follows =
      subst (λ s. IsFollowed (next_with given s) (Err reason) (event.Stop given.tag ∷ []) before after) (sym kills)
      (by_reason reason (still_written given (reply.Done name.Kill) (Err reason) given.player new before after makes.setup makes.memory writes));
}
  where
    by_reason : (reason : Halt)
        → WritesReply (answering given.player (reply.Done name.Kill)) (Err reason) (tagged_lines given.tag (answer_lines given.player.setup.config given.player.setup.names given.token (reply.Done name.Kill))) before after
        → IsFollowed (next_with given (Some KillServer)) (Err reason) (event.Stop given.tag ∷ []) before after
    by_reason halt.Write fails = fails
    by_reason halt.Memory stops = (stops.0, stops.2)
    by_reason halt.Stop none = absurd none
    by_reason halt.Rejected none = none

-- nothing was done
pub follows_nothing : (given : Given) (state : SinkState)
    → step_reply (turn_in given.player given.tag false) given.step ≡ None → step_events (turn_in given.player given.tag false) given.step ≡ []
    → is_kill given.step ≡ false → FollowsStep given (Ok None) given.player state state
follows_nothing given state replies none goes = record {
  no_memory = false;
  made = [];
  makes = makes_nothing given.player;
  follows = (
    goes,
    sym none,
    sym (after_taking-nil state) ∙ ap (λ o. after_taking state (answer_output (playout_in given.player) given.tag given.token o)) (sym replies),
    sym replies,
    λ needs. subst HadMemoryIfAny (sym replies) tt,
  );
}

-- events that are no ticks are all that was made
pub no_tick_made : (made : List Event) (old new : Player) → MakesEvents made old new → ticks (events_in new) ≡ ticks (events_in old) → MakesNoTick old new
no_tick_made made old new makes same = record {
  setup = makes.setup;
  channels = makes.channels;
  made = made;
  none = (let both = ap ticks makes.history ∙ ticks-append (events_in old) made in omega (arith, both, same));
  history = makes.history;
}
