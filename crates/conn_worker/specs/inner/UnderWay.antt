-- A connection that is under way.
use Rattle.std.specs.Prelude.{◌≡◌, ℕ, ◌+◌, ◌<◌, false, None, Result, Ok, Err, Option, Some, List, [], ◌∷◌, ◌++◌, length, map, take}
use Rattle.amcp_text.specs.Lines.{lines_of}
use Rattle.play_types.specs.Config.{ConfigView}
use Rattle.play_types.specs.History.{stop_at}
use Rattle.play_types.specs.Media.{MediaNameView}
use Rattle.history_model.specs.commands.Channels.{AreAimed}
use Rattle.history_model.specs.sessions.Request.{line_token}
use Rattle.history_model.specs.sessions.Session.{Step, KillServer, EndConnection, is_end, line_steps}
use Rattle.play_outside.specs.declared.sink.Sent.{Sent}
use Rattle.play_outside.specs.declared.sink.Sent.TheVariants as sent
use Rattle.play_session.specs.Session.{Progress, Represents}
use Rattle.play_session.specs.SessionState.{SessionState}
use Rattle.conn_worker.specs.Followed.{Service, Followed, given_up_of, number_asked, steps_in, times_asked, tokens_in}
use Rattle.conn_worker.specs.Rounds.{Got, Round, AreLeftOpen, after_rounds, bytes_in, finds_in, followed_in, number_idle}
use Rattle.conn_worker.specs.Explained.{Standing, AreInOrder, HasMade, IsCaughtUp, IsExplained}
use Rattle.conn_worker.specs.inner.Steps.{FindsStop, Follows}
use Rattle.conn_worker.specs.declared.link_end.LinkEnd.{LinkEnd}
use Rattle.conn_worker.specs.declared.link_end.LinkEnd.TheVariants.{Over, Killed, LinkFault, Ended}

-- the pass, the link and the session of a connection at one moment
pub record Now : Type 0 where
  pub standing : Standing
  pub session : SessionState

-- a session that was fed these bytes has given these steps
abbrev pub progress_of : List ℕ → List Followed → Progress
progress_of fed followed = record { stream = fed; given_up = given_up_of followed; given = length followed }

-- a session has some progress
pub record HasProgress (config : ConfigView) (names : List MediaNameView) (session : SessionState) : Type 0 where
  pub progress : Progress
  pub represents : Represents config names session progress

-- a session that was fed these bytes has given these steps, which are those of the first lines, with the tokens of these lines
pub record HasGiven (service : Service) (session : SessionState) (fed : List ℕ) (followed : List Followed) : Type 0 where
  pub represents : Represents service.config service.names session (progress_of fed followed)
  pub steps : steps_in followed ≡ line_steps service.config service.names (given_up_of followed) (take (length followed) (lines_of fed))
  pub tokens : tokens_in followed ≡ map line_token (take (length followed) (lines_of fed))

-- what came before: the service, the pass and the link at the beginning, and the rounds until now, of which the last may be
-- unfinished
pub record Past : Type 0 where
  pub service : Service
  pub before : Standing
  pub rounds : List Round

-- the rounds led to this moment, and of the bytes that were read these were fed to the session. No step was an end, the link has not
-- ended or failed, and no stop was seen
pub record IsUnderWay (past : Past) (fed : List ℕ) (now : Now) : Type 0 where
  pub looks : (k : ℕ) → k < length past.rounds → IsCaughtUp past.service (take k past.rounds)
  pub left_open : AreLeftOpen past.rounds
  pub given : HasGiven past.service now.session fed (followed_in past.rounds)
  pub going : now.session.ended ≡ false
  pub aimed : AreAimed past.service.config now.session.batch
  pub made : HasMade past.service (followed_in past.rounds) past.before.pass now.standing.pass
  pub found : AreInOrder past.service past.before.pass.seen (finds_in past.rounds) now.standing.pass.seen
  pub turns : now.standing.pass.turns ≡ past.before.pass.turns + number_asked (followed_in past.rounds) + number_idle past.rounds
  pub link : now.standing.link ≡ after_rounds past.service past.rounds past.before.link
  pub running : stop_at now.standing.pass.seen ≡ None

-- between two reads all bytes were fed, and all steps of them were executed
pub record IsBetweenLooks (past : Past) (now : Now) : Type 0 where
  pub way : IsUnderWay past (bytes_in past.rounds) now
  pub caught_up : IsCaughtUp past.service past.rounds

-- the past with one more round, in which a read found these bytes and these steps were executed
abbrev pub with_piece : Past → List ℕ → List Followed → Past
with_piece past piece followed = record past { rounds = past.rounds ++ record { look = Got piece; followed = followed } ∷ [] }

-- all steps of a piece that was read were executed, or the call ends within the piece
abbrev pub TakesPiece : Past → List ℕ → Result (Unit {0}) LinkEnd → Now → Type 0
TakesPiece past piece (Ok done) now = (followed : List Followed) × IsBetweenLooks (with_piece past piece followed) now
TakesPiece past piece (Err end) now = IsExplained past.service end past.before now.standing

-- one more read was made, and all steps of what it found were executed, or the call ends
abbrev pub TakesRound : Past → Result (Unit {0}) LinkEnd → Now → Type 0
TakesRound past (Ok done) now = (round : Round) × IsBetweenLooks (record past { rounds = past.rounds ++ round ∷ [] }) now
TakesRound past (Err end) now = IsExplained past.service end past.before now.standing

-- a step of a line with this token, or without one, was executed, and its reply was written
pub record Goes (service : Service) (token : Option (List ℕ)) (step : Step) (before after : Standing) : Type 0 where
  pub follows : Follows service token step sent.All before after
  pub running : stop_at after.pass.seen ≡ None

-- the connection goes on after the step
pub record GoesOn (service : Service) (token : Option (List ℕ)) (step : Step) (before after : Standing) : Type 0 where
  pub goes : Goes service token step before after
  pub going : is_end step ≡ false

-- the stage was asked for the step, and another call had stopped it
pub record Stops (service : Service) (step : Step) (at : ℕ) (before after : Standing) : Type 0 where
  pub asked : times_asked step ≡ 1
  pub finds : FindsStop service.given at before.pass after.pass
  pub link : after.link ≡ before.link

-- the step is a kill, which made the stop; its reply was written, or the link failed
pub record Kills (service : Service) (token : Option (List ℕ)) (step : Step) (before after : Standing) : Type 0 where
  pub kill : step ≡ KillServer
  pub sent : Sent
  pub follows : Follows service token step sent before after

-- the step is the end of the connection
pub record Leaves (service : Service) (token : Option (List ℕ)) (step : Step) (before after : Standing) : Type 0 where
  pub bye : step ≡ EndConnection
  pub goes : Goes service token step before after

-- the step was executed, and the link failed before its reply was wholly written
pub record Fails (service : Service) (token : Option (List ℕ)) (step : Step) (before after : Standing) : Type 0 where
  pub going : is_end step ≡ false
  pub follows : Follows service token step sent.Failed before after
  pub running : stop_at after.pass.seen ≡ None

-- how a call ends at a step
abbrev pub EndsAtStep : Service → Option (List ℕ) → Step → LinkEnd → Standing → Standing → Type 0
EndsAtStep service token step Over before after = Leaves service token step before after
EndsAtStep service token step Killed before after = Kills service token step before after
EndsAtStep service token step LinkFault before after = Fails service token step before after
EndsAtStep service token step (Ended at) before after = Stops service step at before after

-- there was no step, or a step was executed and the connection goes on, or the call ends at the step
abbrev pub FollowsStep : Service → Option (List ℕ) → Option Step → Result (Unit {0}) LinkEnd → Standing → Standing → Type 0
FollowsStep service token None (Ok done) before after = after ≡ before
FollowsStep service token None (Err end) before after = ⊥
FollowsStep service token (Some step) (Ok done) before after = GoesOn service token step before after
FollowsStep service token (Some step) (Err end) before after = EndsAtStep service token step end before after
