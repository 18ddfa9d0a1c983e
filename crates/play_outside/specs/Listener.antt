-- What a call of a listener does.
use Rattle.std.specs.Prelude.{◌≡◌, List, [], ◌∷◌}
use Rattle.play_outside.specs.ListenerState.{ListenerState, after_came, after_none_came, after_listener_closed, after_listener_fault}
use Rattle.play_outside.specs.declared.listener.Arrival.{Arrival}
use Rattle.play_outside.specs.declared.listener.Arrival.TheVariants.{Came, Again, Closed, Failed}

-- a link that came meets `Fact`
abbrev pub IfCame : {L : Type 0} → Arrival L → (L → Type 0) → Type 0
IfCame (Came line) Fact = Fact line
IfCame Again Fact = Unit {0}
IfCame Closed Fact = Unit {0}
IfCame Failed Fact = Unit {0}

-- a link came, there was none yet, the listener is closed, or it failed
abbrev pub Arrives : {L : Type 0} → Arrival L → ListenerState L → ListenerState L → Type 0
Arrives (Came line) before after = after ≡ after_came before
Arrives Again before after = after ≡ after_none_came before
Arrives Closed before after = after ≡ after_listener_closed before
Arrives Failed before after = after ≡ after_listener_fault before

-- the answer is the first of those that were planned, Closed if none was left, or Failed, which uses up none
abbrev pub LeavesAnswers : {L : Type 0} → Arrival L → List (Arrival L) → List (Arrival L) → Type 0
LeavesAnswers (Came line) before after = before ≡ Came line ∷ after
LeavesAnswers Again before after = before ≡ Again ∷ after
LeavesAnswers Closed before after = (before ≡ []) × (after ≡ [])
LeavesAnswers Failed before after = after ≡ before
