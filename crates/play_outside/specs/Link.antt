-- What a read from a link does.
use Rattle.std.specs.Prelude.{◌≡◌, ℕ, ◌<◌, ◌≤◌, Option, Some, None, true, List, [], ◌∷◌, ◌++◌, length, take, option_map}
use Rattle.play_outside.specs.Faults.{one_more}
use Rattle.play_outside.specs.Reading.{Reading}
use Rattle.play_outside.specs.SinkState.{SinkState}
use Rattle.play_outside.specs.declared.link.LinkStep.{LinkStep}
use Rattle.play_outside.specs.declared.link.LinkStep.TheVariants.{Got, End, Again, Failed}

-- how many bytes were taken, or 0 if the link does not expose them
abbrev pub count_taken : Option (List ℕ) → ℕ
count_taken None = 0
count_taken (Some bytes) = length bytes

-- the exposed reads after one more, which gave these bytes
abbrev pub one_look : ℕ → List ℕ → Reading → Reading
one_look taken bytes reading =
    record reading {
      bytes = reading.bytes ++ bytes;
      looks = reading.looks ++ record { taken = taken; read = length reading.bytes } ∷ [];
    }

-- the link after a read that gave these bytes
abbrev pub after_read : SinkState → List ℕ → SinkState
after_read state bytes = record state { reading = option_map (one_look (count_taken state.taken) bytes) state.reading }

-- the link after a read that found the end
abbrev pub after_end : SinkState → SinkState
after_end state =
    record state { reading = option_map (λ reading. record (one_look (count_taken state.taken) [] reading) { ended = true }) state.reading }

-- the link after a read that found nothing yet
abbrev pub after_idle : SinkState → SinkState
after_idle state =
    record state { reading = option_map (one_look (count_taken state.taken) []) state.reading; idle = one_more state.idle }

-- the link after a read that failed
abbrev pub after_failed_read : SinkState → SinkState
after_failed_read state = record state { faults = one_more state.faults }

-- a read gave the bytes at the beginning of the buffer, found the end, found nothing yet, or failed and gave nothing
abbrev pub LinkReads : LinkStep → List ℕ → SinkState → SinkState → Type 0
LinkReads (Got count) buffer before after = (0 < count) × (count ≤ length buffer) × (after ≡ after_read before (take count buffer))
LinkReads End buffer before after = after ≡ after_end before
LinkReads Again buffer before after = after ≡ after_idle before
LinkReads Failed buffer before after = after ≡ after_failed_read before
