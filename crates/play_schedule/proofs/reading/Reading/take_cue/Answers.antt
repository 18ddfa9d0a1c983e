use Rattle.std.proofs.Common.{◌+◌, sym, ap, ◌∙◌}
use Rattle.play_schedule.proofs.Readings.{read_cue}
use Rattle.play_schedule.proofs.reading.Reading.take_cue.Goals as goal

pub returns-clause-takes : goal.returns-clause-takes
returns-clause-takes c = λ before read.
    read_cue c.args.self.now _ before _ read c.if-is_some.ensures (sym c.is_cue_faulty.ensures ∙ c.if-is_cue_faulty.false)
    c.in_ok-add.ensures.cues c.in_ok-add.ensures.ticks (ap (λ n. n + 1) c.in_ok-add.ensures.lines)
