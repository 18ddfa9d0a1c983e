-- A sink in memory.
use Rattle.std.specs.Prelude.{ℕ, ◌-◌, vec_len, vec_capacity}
use Rattle.play_outside.specs.declared.memory.sink.MemSink.{MemSink}

-- how many more bytes there is room for
abbrev pub room_left : MemSink → ℕ
room_left sink = vec_capacity sink.taken - vec_len sink.taken
