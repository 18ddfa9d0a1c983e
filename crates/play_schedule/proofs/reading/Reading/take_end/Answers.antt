use Rattle.std.proofs.Common.{refl}
use Rattle.std.proofs.lemmas.Bool.{le-ltb}
use Rattle.play_schedule.proofs.Readings.{read_end}
use Rattle.play_schedule.proofs.reading.Reading.take_end.Goals as goal

pub returns-clause-takes : goal.returns-clause-takes
returns-clause-takes c = λ before read.
    read_end c.args.self.now _ before c.args.moment read c.if-is_some.ensures (le-ltb _ _ c.if-moment-self.false) refl refl refl
