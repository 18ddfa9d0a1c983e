-- The connections of a script, and how a line of one of them changes its session.
use Rattle.std.specs.Prelude.{◌≡◌, ℕ, Bool, true, false, if◌then◌else◌, Option, Some, None, List, [], ◌∷◌, ◌++◌, length, find, All}
use Rattle.std.specs.List.{list_any, position}
use Rattle.amcp_text.specs.Lines.{IsEnded, lines_of}
use Rattle.play_types.specs.Config.{ConfigView}
use Rattle.play_types.specs.declared.command.Cmd.{Cmd}
use Rattle.play_types.specs.declared.event.Tag.{Tag}
use Rattle.history_model.specs.commands.Channels.{AreAimed}
use Rattle.history_model.specs.scripts.Line.{Said}
use Rattle.history_model.specs.scripts.History.{Playout, PlayedLine, same_tag, texts_of, stream_of, given_up_of, said_step}
use Rattle.history_model.specs.sessions.Request.{text_token}
use Rattle.history_model.specs.sessions.Session.{line_steps, is_end}
use Rattle.history_model.specs.sessions.Session as model
use Rattle.play_session.specs.SessionState.{SessionState}
use Rattle.play_session.specs.Step.{viewed, gives_up}
use Rattle.play_session.specs.Session as session
use Rattle.play_session.specs.declared.step.Step.{Step}
use Rattle.script_player.specs.declared.clients.Client.{Client}
use Rattle.script_player.specs.declared.clients.ClientStep.{ClientStep}

-- the progress of a connection's session after the lines that were played
abbrev pub progress_of : Tag → List PlayedLine → session.Progress
progress_of tag played = record { stream = stream_of tag played; given_up = given_up_of tag played; given = length (texts_of tag played) }

-- the session represents the stream of its connection, gave a step for each line and holds no unfinished one; a connection without a
-- session had a line whose step ended it
abbrev pub IsServed : Playout → Tag → Option SessionState → List PlayedLine → Type 0
IsServed playout tag (Some now) played =
    session.Represents playout.config playout.names now (progress_of tag played) × session.IsBetweenLines now
IsServed playout tag None played =
    list_any is_end (line_steps playout.config playout.names (given_up_of tag played) (lines_of (stream_of tag played))) ≡ true

-- the connection is served: its stream has whole lines, one for each of its texts, and its session is as these leave it
pub record ServesConnection (playout : Playout) (client : Client) (played : List PlayedLine) : Type 0 where
  pub whole : IsEnded (stream_of client.tag played)
  pub count : length (lines_of (stream_of client.tag played)) ≡ length (texts_of client.tag played)
  pub served : IsServed playout client.tag client.session played

-- a tag without a connection has no texts; a connection is served
abbrev pub IsClient : Playout → Tag → Option Client → List PlayedLine → Type 0
IsClient playout tag None played = texts_of tag played ≡ []
IsClient playout tag (Some client) played = ServesConnection playout client played

-- the connection of a tag
abbrev pub client_of : Tag → List Client → Option Client
client_of tag clients = find (λ client. same_tag tag client.tag) clients

-- each connection is served by its session
abbrev pub AreClients : Playout → List Client → List PlayedLine → Type 0
AreClients playout clients played = (tag : Tag) → IsClient playout tag (client_of tag clients) played

-- the session that a connection keeps after a step, none if the step ends it
abbrev pub kept_session : Bool → SessionState → Option SessionState
kept_session over now = if over then None else Some now

-- the commands of the batch of a session, none if the connection has ended
abbrev pub session_batch : Option SessionState → List Cmd
session_batch None = []
session_batch (Some now) = now.batch

-- the commands of the batch of a connection
abbrev pub batch_in : Option Client → List Cmd
batch_in None = []
batch_in (Some client) = session_batch client.session

-- the commands of the batch of the connection of this tag
abbrev pub batch_of : Tag → List Client → List Cmd
batch_of tag clients = batch_in (client_of tag clients)

-- each command of a batch names only configured channels
abbrev pub HaveAimedBatches : ConfigView → List Client → Type 0
HaveAimedBatches config clients = All (λ (client : Client). AreAimed config (session_batch client.session)) clients

-- whether the session gave the line up because there was no memory
abbrev pub gave_up : Option Step → Bool
gave_up None = false
gave_up (Some found) = gives_up found

-- the step that a session gave, if it gave one
abbrev pub step_in : Option ClientStep → Option Step
step_in None = None
step_in (Some given) = Some given.step

-- the token is that of the text, except if the line was given up
abbrev pub HasTokenOf : List ℕ → Option ClientStep → Type 0
HasTokenOf text None = Unit {0}
HasTokenOf text (Some given) = gives_up given.step ≡ false → given.token ≡ text_token text

-- a line of a connection after the lines that were played before it, and whether the stage has no memory for what it asks
pub record NextText : Type 0 where
  pub playout : Playout
  pub played : List PlayedLine
  pub tag : Tag
  pub text : List ℕ
  pub no_memory : Bool

-- the line as it was played, if this step was found for it
abbrev pub played_text : NextText → Option Step → PlayedLine
played_text next found = record { line = Said next.tag next.text; given_up = gave_up found; no_memory = next.no_memory }

-- the step that was found, with the batch that is asked for
abbrev pub step_view : Option Step → List Cmd → Option model.Step
step_view None commands = None
step_view (Some found) commands = viewed found commands

-- the line was taken: this is its step, none if the connection had already ended, and all connections are served after it
pub record ClientsTakeLine (next : NextText) (found : Option Step) (new : List Client) : Type 0 where
  pub given : said_step next.playout next.played (played_text next found) next.tag ≡ step_view found (batch_of next.tag new)
  pub serves : AreClients next.playout new (next.played ++ played_text next found ∷ [])

-- the session of the connection took the line: this is its step, and the connection is served after it
pub record ClientTakesLine (next : NextText) (found : Option Step) (new : Client) : Type 0 where
  pub given : said_step next.playout next.played (played_text next found) next.tag ≡ step_view found (session_batch new.session)
  pub serves : ServesConnection next.playout new (next.played ++ played_text next found ∷ [])

-- the first connection of this tag has this index
abbrev pub IsPlaceOf : Tag → ℕ → List Client → Type 0
IsPlaceOf tag at clients = position (λ (client : Client). same_tag tag client.tag) clients ≡ Some at

-- a connection of this tag was added, with this session
pub record AddsClient (tag : Tag) (now : SessionState) (old new : List Client) : Type 0 where
  pub client : Client
  pub items : new ≡ old ++ client ∷ []
  pub own : client.tag ≡ tag
  pub session : client.session ≡ Some now
