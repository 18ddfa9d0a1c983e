-- A link in memory.
use Rattle.std.specs.Prelude.{◌≡◌, ℕ, ◌-◌, List, [], ◌++◌, take, vec_len, vec_capacity}
use Rattle.play_outside.specs.memory.Sink as sink
use Rattle.play_outside.specs.declared.memory.link.MemLink.{MemLink}
use Rattle.play_outside.specs.declared.link.LinkStep.{LinkStep}
use Rattle.play_outside.specs.declared.link.LinkStep.TheVariants.{Got, End, Again, Failed}

-- the bytes that reads have left to give
abbrev pub input_left : MemLink → List ℕ
input_left link = link.input.left

-- how many more written bytes there is room for
abbrev pub room_left : MemLink → ℕ
room_left link = sink.room_left link.out

-- how many more reads there is room for
abbrev pub looks_left : MemLink → ℕ
looks_left link = vec_capacity link.looks - vec_len link.looks

-- what a read gave are the first of the bytes that were left, at the end none was left, and else nothing is used up
abbrev pub LeavesInput : LinkStep → List ℕ → List ℕ → List ℕ → Type 0
LeavesInput (Got count) buffer before after = before ≡ take count buffer ++ after
LeavesInput End buffer before after = (before ≡ []) × (after ≡ [])
LeavesInput Again buffer before after = after ≡ before
LeavesInput Failed buffer before after = after ≡ before
