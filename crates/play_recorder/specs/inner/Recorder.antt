-- What a recorder writes.
use Rattle.std.specs.Prelude.{◌≡◌, ℕ, ◌+◌, ◌&&◌, nat_le, Bool, List, Result, Ok, Err}
use Rattle.play_types.specs.ClipFile.{header_bytes}
use Rattle.play_types.specs.declared.clip.TheConstants.{MULTIPLIED}
use Rattle.play_outside.specs.Sink.{Fails}
use Rattle.play_outside.specs.SinkState.{SinkState, after_taking}
use Rattle.history_model.specs.pictures.Media.{size}
use Rattle.history_model.specs.recordings.Film.{Span}
use Rattle.play_recorder.specs.Recording.{TakesPrefix}
use Rattle.play_recorder.specs.declared.recorder.FilmFault.{FilmFault}
use Rattle.play_recorder.specs.declared.recorder.FilmFault.TheVariants as fault
use Rattle.play_recorder.specs.declared.recorder.Recorder.{Recorder}
use Rattle.play_recorder.specs.inner.Frames.{setup_in}

-- whether all recorded ticks are among the first `count` ticks
abbrev pub is_over : Span → ℕ → Bool
is_over span count = nat_le span.first count && nat_le (span.first + span.frames) count

-- the header of the file of its film
abbrev pub header_in : Recorder → List ℕ
header_in recorder = header_bytes MULTIPLIED (size (setup_in recorder.replay) recorder.film.now.channel) recorder.film.now.frames

-- the text was written, or a write of it failed, or memory ran out after a prefix of it was written
abbrev pub WritesText : Result (Unit {0}) FilmFault → List ℕ → SinkState → SinkState → Type 0
WritesText (Ok done) text before after = after ≡ after_taking before text
WritesText (Err fault.Failed) text before after = Fails text before after
WritesText (Err fault.OutOfMemory) text before after = TakesPrefix text before after
