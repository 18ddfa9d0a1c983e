-- What the outputs have taken when the ticks have ended.
use Rattle.std.specs.Prelude.{◌≡◌, ℕ, suc, ◌<◌, ◌≤◌, List, [], ◌∷◌, ◌++◌}
use Rattle.play_types.specs.History.{ticks}
use Rattle.play_types.specs.declared.event.Event.{Event}
use Rattle.play_types.specs.declared.event.Event.TheVariants.{Tick}
use Rattle.play_outside.specs.SinkState.{SinkState, after_taking}
use Rattle.play_outside.specs.Sink.{Fails}
use Rattle.history_model.specs.pictures.Media.{Setup}
use Rattle.play_ticker.specs.Frames.{frames_since, raw_frame}
use Rattle.play_ticker.specs.declared.ending.TickEnd.{TickEnd}
use Rattle.play_ticker.specs.declared.ending.TickEnd.TheVariants.{ClockClosed, Ended, TicksOver, ClockFault, OutFault}

-- `Holds` is true of the channel of each output, of the output before and of the output after. The first output is that of this
-- channel, and each next one that of the next channel
abbrev pub EachOutput : {O : Type 0} → (ℕ → O → O → Type 0) → ℕ → List O → List O → Type 0
EachOutput Holds channel [] [] = Unit {0}
EachOutput Holds channel [] (new ∷ news) = ⊥
EachOutput Holds channel (old ∷ olds) [] = ⊥
EachOutput Holds channel (old ∷ olds) (new ∷ news) = Holds channel old new × EachOutput Holds (suc channel) olds news

-- what comes before a history that is shown: the sizes of the channels and the clips, and the given events
pub record Beginning : Type 0 where
  pub setup : Setup
  pub given : List Event

-- what is shown: the sizes of the channels and the clips, the events before a history, and the history
pub record Shown : Type 0 where
  pub setup : Setup
  pub given : List Event
  pub history : List Event

-- a history that is shown from a beginning
abbrev pub shown_from : Beginning → List Event → Shown
shown_from beginning history = record { setup = beginning.setup; given = beginning.given; history = history }

-- an output took the frames of its channel at all ticks of a history, after what it had
abbrev pub TakesFrames : Shown → ℕ → SinkState → SinkState → Type 0
TakesFrames shown channel old new = new ≡ after_taking old (frames_since shown.setup shown.given shown.history channel)

-- each output took the frames of its channel at all ticks of a history, after what it had
abbrev pub AllTakeFrames : {O : Type 0} → (O → SinkState) → Shown → List O → List O → Type 0
AllTakeFrames state shown olds news = EachOutput (λ channel old new. TakesFrames shown channel (state old) (state new)) 1 olds news

-- at the tick after the events of a history the output of one channel failed: those of the channels below took the frame of that tick too,
-- the one that failed did not take all of it, and those above took nothing of it
pub record IsCutAt (failed : ℕ) (shown : Shown) (channel : ℕ) (old new : SinkState) : Type 0 where
  pub below : channel < failed → TakesFrames (record shown { history = shown.history ++ Tick ∷ [] }) channel old new
  pub failing : channel ≡ failed → Fails (raw_frame shown.setup (shown.given ++ shown.history) channel) (after_taking old (frames_since shown.setup shown.given shown.history channel)) new
  pub above : failed < channel → TakesFrames shown channel old new

-- at one of the ticks of a history the output of one channel failed, and no more than three ticks come after it
pub record AreCut {O : Type 0} (state : O → SinkState) (failed : ℕ) (shown : Shown) (olds news : List O) : Type 0 where
  pub before : List Event
  pub after : List Event
  pub whole : before ++ Tick ∷ after ≡ shown.history
  pub few : ticks after ≤ 3
  pub outs : EachOutput (λ channel old new. IsCutAt failed (record shown { history = before }) channel (state old) (state new)) 1 olds news

-- what the outputs took, by how the ticks ended
abbrev pub AreWritten : {O : Type 0} → (O → SinkState) → TickEnd → Shown → List O → List O → Type 0
AreWritten state ClockClosed shown olds news = AllTakeFrames state shown olds news
AreWritten state (Ended at) shown olds news = AllTakeFrames state shown olds news
AreWritten state TicksOver shown olds news = AllTakeFrames state shown olds news
AreWritten state ClockFault shown olds news = AllTakeFrames state shown olds news
AreWritten state (OutFault failed) shown olds news = AreCut state failed shown olds news
