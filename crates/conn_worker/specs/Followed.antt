-- One executed step of a connection: its event, its reply, and its turn at the stage.
use Rattle.std.specs.Prelude.{ℕ, Bool, false, Option, Some, None, List, [], ◌++◌, length, filter_map, flat_map, map, sum_by}
use Rattle.std.specs.List.{enumerate_from, range_with_len}
use Rattle.play_types.specs.Config.{ConfigView}
use Rattle.play_types.specs.Media.{MediaNameView}
use Rattle.play_types.specs.declared.event.Tag.{Tag}
use Rattle.play_types.specs.declared.event.Event.{Event}
use Rattle.play_types.specs.declared.reply.Reply.{Reply}
use Rattle.history_model.specs.scripts.History.{Playout, Turn, number_given_up, step_events}
use Rattle.history_model.specs.scripts.Output.{step_reply}
use Rattle.history_model.specs.sessions.Session.{Step, Local, Ask, AskBatch, KillServer, EndConnection, Skip, steps}
use Rattle.history_model.specs.text.Replies.{reply_bytes}
use Rattle.play_session.specs.Step.{is_out_of_memory}

-- what a connection is served with: the configuration, the names of the media table, the tag of what it asks for, and the events that
-- the stage was given before it was shared
pub record Service : Type 0 where
  pub config : ConfigView
  pub names : List MediaNameView
  pub tag : Tag
  pub given : List Event

-- an executed step of a connection: the step, the history since the stage was shared that it found, whether the stage had no memory for
-- it, and the token of its line
pub record Followed : Type 0 where
  pub step : Step
  pub found : List Event
  pub no_memory : Bool
  pub token : Option (List ℕ)

-- a check of the stage, as a step that does nothing: it found this history, and made no event
abbrev pub stage_look : List Event → Followed
stage_look history = record { step = Skip; found = history; no_memory = false; token = None }

-- what a connection is played on: no reply and no event of a connection depends on the clips
abbrev pub playout_of : Service → Playout
playout_of service = record { config = service.config; names = service.names; clips = []; digests = false }

-- the turn of a step: it comes after the events that the stage was given and the history that was found
abbrev pub turn_of : Service → Followed → Turn
turn_of service one = record { playout = playout_of service; events = service.given ++ one.found; tag = service.tag; no_memory = one.no_memory }

-- the event of a step, if it made one: its command, its batch or its stop
abbrev pub events_of : Service → Followed → List Event
events_of service one = step_events (turn_of service one) (Some one.step)

-- the position of that event in the history since the stage was shared
abbrev pub positions_of : Service → Followed → List ℕ
positions_of service one = range_with_len (length one.found) (length (events_of service one))

-- the reply to a step, if it has one
abbrev pub reply_of : Service → Followed → Option Reply
reply_of service one = step_reply (turn_of service one) (Some one.step)

-- the bytes of the reply to a line with this token, or without one, if there is a reply
abbrev pub answer_bytes : Service → Option (List ℕ) → Option Reply → List ℕ
answer_bytes service token None = []
answer_bytes service token (Some answer) = reply_bytes service.config service.names token answer

-- the bytes of the reply to a step
abbrev pub sent_bytes : Service → Followed → List ℕ
sent_bytes service one = answer_bytes service one.token (reply_of service one)

-- the bytes of the replies to these steps, in order
abbrev pub replies : Service → List Followed → List ℕ
replies service followed = flat_map (sent_bytes service) followed

abbrev pub steps_in : List Followed → List Step
steps_in followed = map (λ (one : Followed). one.step) followed

-- the tokens of the lines of these steps
abbrev pub tokens_in : List Followed → List (Option (List ℕ))
tokens_in followed = map (λ (one : Followed). one.token) followed

-- whether a step gives its line up because memory ran out
abbrev pub is_lost : Step → Bool
is_lost (Local answer) = is_out_of_memory answer
is_lost (Ask command) = false
is_lost (AskBatch commands) = false
is_lost KillServer = false
is_lost EndConnection = false
is_lost Skip = false

-- the numbers of the lines that were given up, from 0: those whose reply is 500
abbrev pub given_up_of : List Followed → List ℕ
given_up_of followed = filter_map number_given_up (enumerate_from 0 (map (λ (one : Followed). is_lost one.step) followed))

-- all steps of these bytes, if the lines that the executed steps gave up are given up
abbrev pub steps_of : Service → List Followed → List ℕ → List Step
steps_of service followed bytes = steps service.config service.names (given_up_of followed) bytes

-- how often the stage is asked for a step
abbrev pub times_asked : Step → ℕ
times_asked (Local answer) = 0
times_asked (Ask command) = 1
times_asked (AskBatch commands) = 1
times_asked KillServer = 1
times_asked EndConnection = 0
times_asked Skip = 0

-- how often the stage is asked for these steps
abbrev pub number_asked : List Followed → ℕ
number_asked followed = sum_by (λ (one : Followed). times_asked one.step) followed
