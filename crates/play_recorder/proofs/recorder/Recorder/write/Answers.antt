use Rattle.std.proofs.Common.{[]}
use Rattle.play_outside.proofs.Sending.{Fails-before}
use Rattle.play_recorder.specs.Recording.{recorded_after}
use Rattle.play_recorder.specs.declared.recorder.FilmFault.TheVariants as fault
use Rattle.play_recorder.specs.inner.Frames.{setup_in}
use Rattle.play_recorder.specs.inner.Recorder.{header_in}
use Rattle.play_recorder.proofs.Texts.{stopped-last}
use Rattle.play_recorder.proofs.recorder.Recorder.write.Goals as goal

pub returns-in-Failed : goal.returns-in-Failed
returns-in-Failed g c =
    let recorder = c.args.self.now in
    Fails-before (header_in recorder) (recorded_after (setup_in recorder.replay) recorder.film.now [] recorder.journal.now.events) _ _ c.in-Failed.ensures

pub returns-in-Err-Failed : goal.returns-in-Err-Failed
returns-in-Err-Failed g c =
    let recorder = c.args.self.now in
    stopped-last fault.Failed (header_in recorder) (recorded_after (setup_in recorder.replay) recorder.film.now [] recorder.journal.now.events) _ _ _
    c.in-All.ensures (rw c.in-Err-Failed.field-0-is at c.in-Err-Failed.ensures)

pub returns-in-Err-OutOfMemory : goal.returns-in-Err-OutOfMemory
returns-in-Err-OutOfMemory g c =
    let recorder = c.args.self.now in
    stopped-last fault.OutOfMemory (header_in recorder) (recorded_after (setup_in recorder.replay) recorder.film.now [] recorder.journal.now.events) _ _ _
    c.in-All.ensures (rw c.in-Err-OutOfMemory.field-0-is at c.in-Err-OutOfMemory.ensures)
