-- A door in memory.
use Rattle.std.specs.Prelude.{All, List}
use Rattle.std.proofs.Props.{props}
use Rattle.play_outside.specs.SinkState.{SinkState}
use Rattle.play_outside.specs.Fresh.{IsNewSink}
use Rattle.play_outside.specs.declared.listener.Arrival.{Arrival}
use Rattle.play_outside.specs.declared.listener.Arrival.TheVariants as arrival
use Rattle.play_outside.specs.declared.memory.door.DoorAnswer.{DoorAnswer}
use Rattle.play_outside.specs.declared.memory.door.DoorAnswer.TheVariants.{Line, Again}

-- a planned answer as the caller gets it
abbrev pub arrival_of : {L : Type 0} → DoorAnswer L → Arrival L
arrival_of (Line line) = arrival.Came line
arrival_of Again = arrival.Again

-- if the planned answer is a link, it is new
abbrev pub IsNewAnswer : {L : Type 0} → (L → SinkState) → DoorAnswer L → Type 0
IsNewAnswer state (Line line) = IsNewSink (state line)
IsNewAnswer state Again = Unit {0}

-- each planned link is new
abbrev pub AreNewAnswers : {L : Type 0} → (L → SinkState) → List (DoorAnswer L) → Type 0
AreNewAnswers state answers = All (IsNewAnswer state) answers

new_sink-prop : (state : SinkState) → IsProp (IsNewSink state)
new_sink-prop state = hlevel props

new_answer-prop : {L : Type 0} (state : L → SinkState) (answer : DoorAnswer L) → IsProp (IsNewAnswer state answer)
new_answer-prop state (Line line) = new_sink-prop (state line)
new_answer-prop state Again = hlevel props

-- that all planned links are new has at most one proof
pub new_answers-prop : {L : Type 0} (state : L → SinkState) (answers : List (DoorAnswer L)) → IsProp (AreNewAnswers state answers)
new_answers-prop state answers = hlevel (props, new_answer-prop)
