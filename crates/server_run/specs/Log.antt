-- The log of a run, which is written while the run goes on.
use Rattle.std.specs.Prelude.{◌≡◌, List, [], ◌++◌}
use Rattle.play_types.specs.Media.{MediaNameView}
use Rattle.play_types.specs.declared.event.Event.{Event}
use Rattle.play_outside.specs.SinkState.{SinkState}
use Rattle.play_outside.specs.Sink.{Sends}
use Rattle.play_outside.specs.declared.sink.Sent.{Sent}
use Rattle.play_outside.specs.declared.sink.Sent.TheVariants as sent
use Rattle.history_model.specs.text.History.{joined_events, log_text}

-- a history was logged: the texts of pieces of it were written, one after another, or a prefix of them if a write failed. The pieces
-- together are a prefix of the history, and all of it if no write failed
pub record IsLogged (logged : Sent) (names : List MediaNameView) (history : List Event) (before after : SinkState) : Type 0 where
  pub pieces : List (List Event)
  pub rest : List Event
  pub whole : history ≡ joined_events pieces ++ rest
  pub all : logged ≡ sent.All → rest ≡ []
  pub sends : Sends logged (log_text names pieces) before after
