-- Objects of which no call was made, as far as they expose it.
use Rattle.std.specs.Prelude.{◌≡◌, None, IfSome, false, []}
use Rattle.play_outside.specs.Reading.{unread}
use Rattle.play_outside.specs.SinkState.{SinkState}
use Rattle.play_outside.specs.ClockState.{ClockState}
use Rattle.play_outside.specs.ListenerState.{ListenerState}

-- a sink took nothing, if it exposes this, no write failed, and of a link no read was made, if it exposes this
abbrev pub IsFreshSink : SinkState → Type 0
IsFreshSink state = IfSome state.taken (λ bytes. bytes ≡ []) × (state.at_fault ≡ None) × IfSome state.reading (λ reading. reading ≡ unread)

-- a sink or a link that is fresh and has not failed
abbrev pub IsNewSink : SinkState → Type 0
IsNewSink state = IsFreshSink state × (state.faults ≡ 0)

-- a clock gave no pulse and has not answered Closed, if it exposes this
abbrev pub IsFreshClock : ClockState → Type 0
IsFreshClock state = IfSome state.told (λ told. told ≡ record { pulses = 0; closed = false })

-- a listener was given back nothing and has not answered Closed, if it exposes this, and no link of it is out
abbrev pub IsFreshListener : {L : Type 0} → ListenerState L → Type 0
IsFreshListener state = IfSome state.told (λ told. told ≡ record { returned = []; closed = false }) × (state.away ≡ 0)
