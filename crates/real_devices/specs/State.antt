-- The states of the devices: their counts and marks, with no content known.
use Rattle.std.specs.Prelude.{ℕ, List, Option, Some, None}
use Rattle.std.specs.Io.KnownBytes.{prepend_known}
use Rattle.std.specs.declared.net.tcp.TcpStream.{TcpStream}
use Rattle.play_outside.specs.ClockState.{ClockState}
use Rattle.play_outside.specs.ListenerState.{ListenerState}
use Rattle.play_outside.specs.SinkState.{SinkState}
use Rattle.real_devices.specs.declared.file_sink.FileSink.{FileSink}
use Rattle.real_devices.specs.declared.file_sink.Target.{Target}
use Rattle.real_devices.specs.declared.file_sink.Target.TheVariants.{Nothing, File, Log, Live}
use Rattle.real_devices.specs.declared.rate_clock.RateClock.{RateClock}
use Rattle.real_devices.specs.declared.signal_clock.SignalClock.{SignalClock}
use Rattle.real_devices.specs.declared.signals.EndSignal.{EndSignal}
use Rattle.real_devices.specs.declared.tcp_door.TcpDoor.{TcpDoor}
use Rattle.real_devices.specs.declared.tcp_link.TcpLink.{TcpLink}

-- the state of a file sink
abbrev pub file_state : {W E : Type 0} → FileSink W E → SinkState
file_state sink = record { taken = None; faults = sink.faults; mark = sink.mark; at_fault = None; reading = None; idle = 0 }

-- the file of a target, if it has one
abbrev pub file_among : {W : Type 0} → Target W → Option W
file_among Nothing = None
file_among (File file) = Some file
file_among (Log log) = Some log.file
file_among (Live sink) = None

-- the file that a sink writes to, if it has one
abbrev pub file_of : {W E : Type 0} → FileSink W E → Option W
file_of sink = file_among sink.target

-- the state of a connection
abbrev pub link_state : {S E : Type 0} → TcpLink S E → SinkState
link_state link = record { taken = None; faults = link.faults; mark = link.mark; at_fault = None; reading = None; idle = link.idles }

-- the stream of a connection
abbrev pub stream_of : {S E : Type 0} → TcpLink S E → S
stream_of link = link.stream

-- the bytes of a connection that were read and not handed on yet
abbrev pub held_of : {S E : Type 0} → TcpLink S E → List ℕ
held_of link = link.held

-- the bytes that reads of a connection have still to return, if those of its stream are known: the held bytes, then those of the stream
abbrev pub unread_by : {S E : Type 0} → (S → Option (List ℕ)) → TcpLink S E → Option (List ℕ)
unread_by remaining link = prepend_known link.held (remaining link.stream)

-- the state of a door
abbrev pub door_state : {R : Type 0} → TcpDoor R → ListenerState (TcpLink TcpStream R)
door_state door = record { told = None; away = door.away; idle = door.idles; faults = door.faults; mark = door.mark }

-- the state of a clock
abbrev pub clock_state : {R : Type 0} → RateClock R → ClockState
clock_state clock = record { told = None; faults = clock.faults }

-- the state of a clock that a signal closes
abbrev pub signal_clock_state : {R : Type 0} → SignalClock R → ClockState
signal_clock_state clock = clock_state clock.clock

-- the signal that such a clock has seen
abbrev pub signal_of : {R : Type 0} → SignalClock R → Option EndSignal
signal_of clock = clock.seen
