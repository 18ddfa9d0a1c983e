-- What a log contains.
use Rattle.std.specs.Prelude.{◌≡◌, List, ◌++◌, [], IsSome}
use mathlib.Core.List.{IsPrefix}
use Rattle.play_types.specs.History.{stop_at}
use Rattle.play_types.specs.Media.{MediaNameView}
use Rattle.play_types.specs.declared.event.Event.{Event}
use Rattle.play_outside.specs.Sink.{Sends}
use Rattle.play_outside.specs.SinkState.{SinkState}
use Rattle.play_outside.specs.declared.sink.Sent.{Sent}
use Rattle.play_outside.specs.declared.sink.Sent.TheVariants.{All}
use Rattle.history_model.specs.text.History.{joined_events, log_text}
use Rattle.stage_lock.specs.Views.{PassView}

-- a pass and the sink of the log, at one moment
pub record Moment : Type 0 where
  pub pass : PassView
  pub sink : SinkState

-- the given events, and then the history that the pass has seen at the new moment, are these pieces and then the unwritten events. The
-- text of the pieces was sent from the old moment to the new one. If all was sent, no event is unwritten, and the events have a stop. The
-- pass has forgotten nothing of what it had seen, and made no event
pub record KeepsLog (given : List Event) (names : List MediaNameView) (result : Sent) (old new : Moment) : Type 0 where
  pub pieces : List (List Event)
  pub unwritten : List Event
  pub whole : given ++ new.pass.seen ≡ joined_events pieces ++ unwritten
  pub seen : IsPrefix old.pass.seen new.pass.seen
  pub all : result ≡ All → (unwritten ≡ []) × IsSome (stop_at (given ++ new.pass.seen))
  pub sends : Sends result (log_text names pieces) old.sink new.sink
  pub idle : (new.pass.made ≡ old.pass.made) × (new.pass.ends ≡ old.pass.ends) × (new.pass.number ≡ old.pass.number)
