-- How a line changes the player and the output.
use Rattle.std.proofs.Common.{◌≡◌, ℕ, true, false, List, [], ◌∷◌, ◌++◌, refl, sym, ap, ap₂, ◌∙◌, subst, subst₂, replicate, append-nil}
use Rattle.std.specs.Prelude.{Option, None, Result, Ok, Err}
use Rattle.play_types.specs.declared.event.Event.{Event}
use Rattle.play_types.specs.declared.event.Tag.{Tag}
use Rattle.play_types.specs.declared.event.Event.TheVariants as event
use Rattle.play_types.specs.declared.reply.Reply.{Reply}
use Rattle.play_outside.specs.SinkState.{SinkState, after_taking}
use Rattle.play_outside.specs.Sink.{Fails}
use Rattle.play_outside.proofs.Taking.{after_taking-nil}
use Rattle.history_model.specs.scripts.Line.{ScriptLine, Comment, Said, Rejected}
use Rattle.history_model.specs.scripts.Line as script
use Rattle.history_model.specs.scripts.History.{Playout, PlayedLine, events_at, goes_on, said_step, script_events, server, turn_of}
use Rattle.history_model.specs.scripts.Output.{output_at}
use Rattle.history_model.specs.sessions.Request.{text_token}
use Rattle.history_model.specs.sessions.Session.{Step}
use Rattle.history_model.proofs.Outputs.{script_events-snoc}
use Rattle.play_session.specs.declared.step.Step.{Step as Found}
use Rattle.script_player.specs.declared.ending.Halt.{Halt}
use Rattle.script_player.specs.declared.ending.Halt.TheVariants as halt
use Rattle.script_player.specs.declared.player.Player.{Player}
use Rattle.script_player.specs.Playouts.{playout_of}
use Rattle.script_player.specs.Shown.{Shown, memory_needed, shown_line, shown_ticks}
use Rattle.script_player.proofs.Shown.{said_line, ticks_line}
use Rattle.script_player.specs.Clients.{AreClients, NextText, ClientsTakeLine, batch_of, gave_up, played_text, step_view}
use Rattle.script_player.specs.Player.{FollowsStep, IsFollowed, MakesEvents, PlaysLine, Represents, WritesText, events_in, no_marks, playout_in, turn_in}
use Rattle.script_player.proofs.Connections.{clients_other}

pub differ-said : (tag : Tag) (text : List ℕ) → Said tag text ≡ Rejected → ⊥
differ-said tag text e = cc

pub differ-ticks : (count : ℕ) → script.Ticks count ≡ Rejected → ⊥
differ-ticks count e = cc

differ-comment : Comment ≡ Rejected → ⊥
differ-comment e = cc

differ-stop : script.Stop ≡ Rejected → ⊥
differ-stop e = cc

-- the history of the lines and of one more
history_more : (playout : Playout) (played : List PlayedLine) (line : PlayedLine) (old new : Player) (made : List Event) → goes_on playout played ≡ true
    → events_in old ≡ script_events playout played → MakesEvents made old new
    → made ≡ events_at playout (record { lines = played; events = script_events playout played }) line line.line
    → events_in new ≡ script_events playout (played ++ line ∷ [])
history_more playout played line old new made on history makes is =
    makes.history ∙ ap₂ (λ es more. es ++ more) history is ∙ sym (script_events-snoc playout played line on)

-- the playout is as before
still_on : (old new : Player) (made : List Event) → MakesEvents made old new → playout_in new ≡ playout_in old
still_on old new made makes = ap₂ playout_of makes.setup makes.digests

-- what is written for a line that is not one of ticks
as_said : (shown : Shown) (playout : Playout) (played : List PlayedLine) (line : PlayedLine) (said : ScriptLine) (before after : SinkState) → ((count : ℕ) → said ≡ script.Ticks count → ⊥)
    → after ≡ after_taking before (output_at playout played line said) → after ≡ after_taking before (shown_line shown playout played line said)
as_said shown playout played line said before after other written = written ∙ ap (after_taking before) (sym (said_line shown playout played line said other))

-- a write of such a line failed
fails_said : (shown : Shown) (playout : Playout) (played : List PlayedLine) (line : PlayedLine) (said : ScriptLine) (before after : SinkState) → ((count : ℕ) → said ≡ script.Ticks count → ⊥)
    → Fails (output_at playout played line said) before after → Fails (shown_line shown playout played line said) before after
fails_said shown playout played line said before after other fails = subst (λ text. Fails text before after) (sym (said_line shown playout played line said other)) fails

no_ticks-said : (tag : Tag) (text : List ℕ) (count : ℕ) → Said tag text ≡ script.Ticks count → ⊥
no_ticks-said tag text count e = cc

no_ticks-comment : (count : ℕ) → Comment ≡ script.Ticks count → ⊥
no_ticks-comment count e = cc

no_ticks-stop : (count : ℕ) → script.Stop ≡ script.Ticks count → ⊥
no_ticks-stop count e = cc

-- the step of a line was executed
module _ (next : NextText) (shown : Shown) (found : Option Found) (old new : Player) (made : List Event) (before after : SinkState)
    (runs_on : goes_on next.playout next.played ≡ true) (memory : old.needs_memory ≡ memory_needed shown) (on : playout_in old ≡ next.playout) (history : events_in old ≡ script_events next.playout next.played)
    (makes : MakesEvents made old new) (serves : AreClients next.playout old.clients.list.items (next.played ++ played_text next found ∷ [])) where
  said_played : (result : Result (Option Reply) Halt)
      → IsFollowed (record {
        needs_memory = memory_needed shown;
        turn = turn_of next.playout (script_events next.playout next.played) (played_text next found) next.tag;
        step = said_step next.playout next.played (played_text next found) next.tag;
        token = text_token next.text;
      }) result made before after
      → PlaysLine (record { playout = next.playout; shown = shown; before = next.played; line = Said next.tag next.text }) result new before after
  said_played (Ok replied) follows = record {
    marks = record { given_up = gave_up found; no_memory = next.no_memory };
    accepted = differ-said next.tag next.text;
    goes_on = follows.0;
    represents = record {
      memory = makes.memory ∙ memory;
      on = still_on old new made makes ∙ on;
      history = history_more next.playout next.played (played_text next found) old new made runs_on history makes follows.1;
      clients = subst (λ k. AreClients next.playout k.list.items (next.played ++ played_text next found ∷ [])) (sym makes.clients) serves;
    };
    replies = follows.3;
    memory = follows.4;
    written = as_said shown next.playout next.played (played_text next found) (Said next.tag next.text) before after (no_ticks-said next.tag next.text) follows.2;
  }
  said_played (Err halt.Write) follows = record {
    marks = record { given_up = gave_up found; no_memory = next.no_memory };
    accepted = differ-said next.tag next.text;
    fails = fails_said shown next.playout next.played (played_text next found) (Said next.tag next.text) before after (no_ticks-said next.tag next.text) follows;
  }
  said_played (Err halt.Stop) follows = record {
    marks = record { given_up = gave_up found; no_memory = next.no_memory };
    accepted = differ-said next.tag next.text;
    ends = follows.0;
    history = record {
      on = still_on old new made makes ∙ on;
      events = history_more next.playout next.played (played_text next found) old new made runs_on history makes follows.1;
    };
    memory = follows.3;
    written = as_said shown next.playout next.played (played_text next found) (Said next.tag next.text) before after (no_ticks-said next.tag next.text) follows.2;
  }
  said_played (Err halt.Memory) follows = follows.1
  said_played (Err halt.Rejected) follows = absurd follows

pub step_followed : (next : NextText) (shown : Shown) (found : Option Found) (step : Option Step) (result : Result (Option Reply) Halt) (old new : Player) (before after : SinkState)
    → goes_on next.playout next.played ≡ true → old.needs_memory ≡ memory_needed shown → playout_in old ≡ next.playout → events_in old ≡ script_events next.playout next.played
    → (follows : FollowsStep (record { player = old; tag = next.tag; step = step; token = text_token next.text }) result new before after) → next.no_memory ≡ follows.no_memory
    → ClientsTakeLine next found old.clients.list.items → step_view found (batch_of next.tag old.clients.list.items) ≡ step
    → PlaysLine (record { playout = next.playout; shown = shown; before = next.played; line = Said next.tag next.text }) result new before after
step_followed next shown found step result old new before after runs_on memory on history follows marked takes viewed =
    let line = played_text next found in
    let given : step ≡ said_step next.playout next.played line next.tag = sym (takes.given ∙ viewed) in
    let turn : turn_in old next.tag follows.no_memory ≡ turn_of next.playout (script_events next.playout next.played) line next.tag =
    ap (turn_in old next.tag) (sym marked) ∙ ap₂ (λ p es. record { playout = p; events = es; tag = next.tag; no_memory = next.no_memory }) on history in
    said_played next shown found old new follows.made before after runs_on memory on history follows.makes takes.serves result
    (subst (λ needs. IsFollowed (record {
      needs_memory = needs;
      turn = turn_of next.playout (script_events next.playout next.played) line next.tag;
      step = said_step next.playout next.played line next.tag;
      token = text_token next.text;
    }) result follows.made before after) memory
    (subst₂ (λ t s. IsFollowed (record { needs_memory = old.needs_memory; turn = t; step = s; token = text_token next.text }) result follows.made before after) turn given follows.follows))

-- a line of `count` ticks was executed
pub ticks_played : (shown : Shown) (playout : Playout) (played : List PlayedLine) (count : ℕ) (line : ScriptLine) (done : Unit {0}) (old new : Player) (before after : SinkState)
    → goes_on playout played ≡ true → script.Ticks count ≡ line → Represents shown playout old played
    → WritesText (Ok done) (shown_ticks shown (playout_in old) (events_in old) count) before after
    → MakesEvents (replicate count event.Tick) old new
    → PlaysLine (record { playout = playout; shown = shown; before = played; line = line }) (Ok None) new before after
ticks_played shown playout played count line done old new before after on is represents writes makes =
    subst (λ l. PlaysLine (record { playout = playout; shown = shown; before = played; line = l }) (Ok None) new before after) is (record {
      marks = no_marks;
      accepted = differ-ticks count;
      goes_on = refl;
      represents = record {
        memory = makes.memory ∙ represents.memory;
        on = still_on old new (replicate count event.Tick) makes ∙ represents.on;
        history = history_more playout played (record { line = script.Ticks count; given_up = false; no_memory = false }) old new (replicate count event.Tick) on represents.history makes refl;
        clients = clients_other playout new.clients.list.items played (record { line = script.Ticks count; given_up = false; no_memory = false }) (λ tag. refl)
            (subst (λ k. AreClients playout k.list.items played) (sym makes.clients) represents.clients);
      };
      replies = refl;
      memory = λ needs. tt;
      written = writes ∙ ap (after_taking before) ((λ i. shown_ticks shown (represents.on i) (represents.history i) count)
          ∙ sym (ticks_line shown playout played (record { line = script.Ticks count; given_up = false; no_memory = false }) count));
    })

-- a write of the text of the ticks failed
pub ticks_failed : (shown : Shown) (playout : Playout) (played : List PlayedLine) (count : ℕ) (line : ScriptLine) (reason : Halt) (old new : Player) (before after : SinkState)
    → script.Ticks count ≡ line → Represents shown playout old played
    → WritesText (Err reason) (shown_ticks shown (playout_in old) (events_in old) count) before after
    → PlaysLine (record { playout = playout; shown = shown; before = played; line = line }) (Err reason) new before after
ticks_failed shown playout played count line reason old new before after is represents writes =
    subst (λ l. PlaysLine (record { playout = playout; shown = shown; before = played; line = l }) (Err reason) new before after) is
    (by_reason reason
    (subst (λ text. WritesText (Err reason) text before after)
    ((λ i. shown_ticks shown (represents.on i) (represents.history i) count)
    ∙ sym (ticks_line shown playout played (record { line = script.Ticks count; given_up = false; no_memory = false }) count)) writes))
  where
    by_reason : (reason : Halt) → WritesText (Err reason) (shown_line shown playout played (record { line = script.Ticks count; given_up = false; no_memory = false }) (script.Ticks count)) before after
        → PlaysLine (record { playout = playout; shown = shown; before = played; line = script.Ticks count }) (Err reason) new before after
    by_reason halt.Write fails = record { marks = no_marks; accepted = differ-ticks count; fails = fails }
    by_reason halt.Memory none = absurd none
    by_reason halt.Stop none = absurd none
    by_reason halt.Rejected none = absurd none

-- a comment changes nothing
pub comment_played : (shown : Shown) (playout : Playout) (played : List PlayedLine) (line : ScriptLine) (player : Player) (state : SinkState)
    → goes_on playout played ≡ true → Comment ≡ line → Represents shown playout player played
    → PlaysLine (record { playout = playout; shown = shown; before = played; line = line }) (Ok None) player state state
comment_played shown playout played line player state on is represents =
    subst (λ l. PlaysLine (record { playout = playout; shown = shown; before = played; line = l }) (Ok None) player state state) is (record {
      marks = no_marks;
      accepted = differ-comment;
      goes_on = refl;
      represents = record {
        memory = represents.memory;
        on = represents.on;
        history = represents.history ∙ sym (append-nil (script_events playout played)) ∙ sym (script_events-snoc playout played (record { line = Comment; given_up = false; no_memory = false }) on);
        clients = clients_other playout player.clients.list.items played (record { line = Comment; given_up = false; no_memory = false }) (λ tag. refl) represents.clients;
      };
      replies = refl;
      memory = λ needs. tt;
      written = as_said shown playout played (record { line = Comment; given_up = false; no_memory = false }) Comment state state no_ticks-comment (sym (after_taking-nil state));
    })

-- the server's own stop ends the run
pub stop_played : (shown : Shown) (playout : Playout) (played : List PlayedLine) (line : ScriptLine) (old new : Player) (state : SinkState) → goes_on playout played ≡ true → script.Stop ≡ line
    → Represents shown playout old played → MakesEvents (event.Stop server ∷ []) old new
    → PlaysLine (record { playout = playout; shown = shown; before = played; line = line }) (Err halt.Stop) new state state
stop_played shown playout played line old new state on is represents makes =
    subst (λ l. PlaysLine (record { playout = playout; shown = shown; before = played; line = l }) (Err halt.Stop) new state state) is (record {
      marks = no_marks;
      accepted = differ-stop;
      ends = refl;
      history = record {
        on = still_on old new (event.Stop server ∷ []) makes ∙ represents.on;
        events = history_more playout played (record { line = script.Stop; given_up = false; no_memory = false }) old new (event.Stop server ∷ []) on represents.history makes refl;
      };
      memory = λ needs. tt;
      written = as_said shown playout played (record { line = script.Stop; given_up = false; no_memory = false }) script.Stop state state no_ticks-stop (sym (after_taking-nil state));
    })
