-- How far a session has come, and the steps that it gives.
use Rattle.std.specs.Prelude.{◌≡◌, ℕ, ◌+◌, ◌<◌, true, false, if◌then◌else◌, Option, Some, List, [], ◌∷◌, ◌++◌, length, slice_get, All}
use Rattle.std.specs.List.{list_any}
use Rattle.amcp_text.specs.Lines.{IsEnded, lines_of}
use Rattle.amcp_text.specs.Reader as reader
use Rattle.play_types.specs.Config.{ConfigView}
use Rattle.play_types.specs.Media.{MediaNameView}
use Rattle.history_model.specs.text.Replies.{IsReplyTo}
use Rattle.history_model.specs.commands.Channels.{IsAimed}
use Rattle.history_model.specs.sessions.Request.{tokens}
use Rattle.history_model.specs.sessions.Session.{is_open, batch, asks, line_steps, is_end, steps}
use Rattle.play_session.specs.SessionState.{SessionState}
use Rattle.play_session.specs.Step.{viewed, gives_up}
use Rattle.play_session.specs.declared.step.Step.{Step}
use Rattle.play_session.specs.declared.step.Step.TheVariants as step

-- the bytes that a session was fed since it was created or restarted, the numbers of the lines that it gave up because memory
-- ran out, and how many steps it returned, one for each line
pub record Progress : Type 0 where
  pub stream : List ℕ
  pub given_up : List ℕ
  pub given : ℕ

-- before the first byte
abbrev pub at_start : Progress
at_start = record { stream = []; given_up = []; given = 0 }

-- after more bytes
abbrev pub after_bytes : Progress → List ℕ → Progress
after_bytes progress bytes = record progress { stream = progress.stream ++ bytes }

-- after one more step, which may give its line up
abbrev pub after_step : Progress → Step → Progress
after_step progress result = record progress {
  given_up = if gives_up result then progress.given_up ++ progress.given ∷ [] else progress.given_up;
  given = progress.given + 1;
}

-- the session has this progress: `before` are the bytes of the lines whose steps it returned, and `rest` are the bytes after
-- them
pub record Represents (config : ConfigView) (media : List MediaNameView) (session : SessionState) (progress : Progress) : Type 0 where
  pub before : List ℕ
  pub rest : List ℕ
  pub parts : progress.stream ≡ before ++ rest
  pub whole : IsEnded before
  pub count : length (lines_of before) ≡ progress.given
  pub known : All (λ number. number < progress.given) progress.given_up
  pub reads : reader.Represents session.reader rest
  pub batch_open : session.batch_open ≡ is_open (asks config media progress.given_up (lines_of before))
  pub batch : session.batch_open ≡ true → session.batch ≡ batch (asks config media progress.given_up (lines_of before))
  pub ended : session.ended ≡ list_any is_end (line_steps config media progress.given_up (lines_of before))

-- the result is the next step of the stream, and the session has come one step further
abbrev pub GivesStep : ConfigView → List MediaNameView → Step → SessionState → Progress → Type 0
GivesStep config media result session progress =
    (slice_get (steps config media (after_step progress result).given_up progress.stream) progress.given ≡ viewed result session.batch)
    × Represents config media session (after_step progress result)

-- at NeedMore all steps of the stream were returned; otherwise the result is the next one
abbrev pub Gives : ConfigView → List MediaNameView → Step → SessionState → Progress → Type 0
Gives config media (step.Local answer) session progress = GivesStep config media (step.Local answer) session progress
Gives config media (step.Ask command) session progress = GivesStep config media (step.Ask command) session progress
Gives config media step.AskBatch session progress = GivesStep config media step.AskBatch session progress
Gives config media step.Kill session progress = GivesStep config media step.Kill session progress
Gives config media step.Bye session progress = GivesStep config media step.Bye session progress
Gives config media step.Skip session progress = GivesStep config media step.Skip session progress
Gives config media step.NeedMore session progress =
    (length (lines_of progress.stream) ≡ progress.given) × Represents config media session progress

-- the session has the token of the line whose step this is, unless the line was given up
pub record HasToken (result : Step) (session : SessionState) (progress : Progress) : Type 0 where
  pub token : Option (List ℕ)
  pub line : slice_get (tokens progress.stream) progress.given ≡ Some token
  pub kept : gives_up result ≡ false → session.token ≡ token

-- no byte of a line that has not ended is held
abbrev pub IsBetweenLines : SessionState → Type 0
IsBetweenLines session = reader.Represents session.reader []

-- whether a batch is open, its commands and whether the connection has ended are as before
abbrev pub IsAsBefore : SessionState → SessionState → Type 0
IsAsBefore before after = (after.batch_open ≡ before.batch_open) × (after.batch ≡ before.batch) × (after.ended ≡ before.ended)

-- a reply fits the configuration, and a command that the stage is asked for names only configured channels; the commands of a
-- batch are those of the session
abbrev pub Fits : ConfigView → Step → Type 0
Fits config (step.Local answer) = IsReplyTo config answer
Fits config (step.Ask command) = IsAimed config command
Fits config step.AskBatch = Unit {0}
Fits config step.Kill = Unit {0}
Fits config step.Bye = Unit {0}
Fits config step.Skip = Unit {0}
Fits config step.NeedMore = Unit {0}
