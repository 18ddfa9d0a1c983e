-- Counts of faults over several calls.
use Rattle.std.proofs.Common.{◌≡◌, refl, ℕ, ◌≤◌, List, take, ap, arith}
use Rattle.std.specs.Prelude.{Option}
use Rattle.play_outside.specs.Faults.{Rose, one_more}
use Rattle.play_outside.specs.SourceState.{SourceState}
use Rattle.play_outside.specs.Source.{Reads}
use Rattle.play_outside.specs.SinkState.{SinkState, after_taking, after_fault}
use Rattle.play_outside.specs.Sink.{Sends, Fails, Writes}
use Rattle.play_outside.specs.FolderState.{FolderState, Files}
use Rattle.play_outside.specs.Folder.{Finds, Misses}
use Rattle.play_outside.specs.declared.source.ReadStep.{ReadStep}
use Rattle.play_outside.specs.declared.source.ReadStep.TheVariants as read
use Rattle.play_outside.specs.declared.sink.WriteStep.{WriteStep}
use Rattle.play_outside.specs.declared.sink.WriteStep.TheVariants as write
use Rattle.play_outside.specs.declared.sink.Sent.{Sent}
use Rattle.play_outside.specs.declared.sink.Sent.TheVariants as sent
use Rattle.play_outside.specs.declared.folder.FileFault.{FileFault}
use Rattle.play_outside.specs.declared.folder.FileFault.TheVariants as file

-- a count that rose has not fallen
pub Rose-le : (before after : ℕ) → Rose before after → before ≤ after
Rose-le before after rose = omega arith

-- a count that rose and then did not fall rose in all
pub Rose-then : (before middle after : ℕ) → Rose before middle → middle ≤ after → Rose before after
Rose-then before middle after rose le = omega arith

-- a count that did not fall and then rose rose in all
pub Rose-after : (before middle after : ℕ) → before ≤ middle → Rose middle after → Rose before after
Rose-after before middle after le rose = omega arith

-- no read lowers the count
pub Reads-count : (step : ReadStep) (buffer : List ℕ) (before after : SourceState) → Reads step buffer before after → before.faults ≤ after.faults
Reads-count (read.Got count) buffer before after reads = let same = reads.2.faults in omega arith
Reads-count read.End buffer before after reads =
    let same : after.faults ≡ before.faults = ap (λ (s : SourceState). s.faults) reads.1 in omega arith
Reads-count read.Failed buffer before after reads = let rose = reads.1 in omega arith

-- a failed write raises the count of a sink, also after it took bytes
Failed-rose : (before state after : SinkState) → state.faults ≡ before.faults → after ≡ after_fault state → Rose before.faults after.faults
Failed-rose before state after same failed =
    let count : after.faults ≡ one_more state.faults = ap (λ (s : SinkState). s.faults) failed in omega arith

-- the count of a sink rose if it failed
pub Fails-rose : (bytes : List ℕ) (before after : SinkState) → Fails bytes before after → Rose before.faults after.faults
Fails-rose bytes before after fails =
    Failed-rose before (after_taking before (take fails.count bytes)) after refl fails.stopped

-- no write lowers the count
pub Writes-count : (step : WriteStep) (piece : List ℕ) (before after : SinkState) → Writes step piece before after → before.faults ≤ after.faults
Writes-count (write.Took count) piece before after writes =
    let same : after.faults ≡ before.faults = ap (λ (s : SinkState). s.faults) writes.2 in omega arith
Writes-count write.Failed piece before after writes = Rose-le before.faults after.faults (Failed-rose before before after refl writes)

-- sending lowers no count
pub Sends-count : (result : Sent) (bytes : List ℕ) (before after : SinkState) → Sends result bytes before after → before.faults ≤ after.faults
Sends-count sent.All bytes before after sends =
    let same : after.faults ≡ before.faults = ap (λ (s : SinkState). s.faults) sends in omega arith
Sends-count sent.Failed bytes before after sends = Rose-le before.faults after.faults (Fails-rose bytes before after sends)

-- finding a file lowers no count
pub Finds-count : {A : Type 0} → (look : Files → Option A) (found : A) (before after : FolderState) → Finds look found before after → before.faults ≤ after.faults
Finds-count look found before after finds =
    let same : after.faults ≡ before.faults = ap (λ (s : FolderState). s.faults) finds.1 in omega arith

-- missing a file lowers no count
pub Misses-count : (fault : FileFault) (before after : FolderState) → Misses fault before after → before.faults ≤ after.faults
Misses-count file.Failed before after misses = let rose = misses.1 in omega arith
Misses-count file.OutOfMemory before after misses =
    let same : after.faults ≡ before.faults = ap (λ (s : FolderState). s.faults) misses in omega arith
