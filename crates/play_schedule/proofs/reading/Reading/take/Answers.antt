use Rattle.std.proofs.Common.{refl}
use Rattle.play_schedule.proofs.Readings.{read_comment}
use Rattle.play_schedule.proofs.reading.Reading.take.Goals as goal

pub returns-in-Comment-clause-takes : goal.returns-in-Comment-clause-takes
returns-in-Comment-clause-takes c = λ before read. rw c.in-Comment.is (refl, read_comment _ _ before read refl refl refl)
