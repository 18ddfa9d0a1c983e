use Rattle.std.proofs.Common.{refl, []}
use Rattle.play_ticker.proofs.Frames.{frames_since-none, frames_since-quiet, frames_since-tick, goes_on_by_ticks, ticks-quiet}
use Rattle.play_ticker.proofs.laws.frames_of_growing_histories.Goals as goal

pub returns-clause-none : goal.returns-clause-none
returns-clause-none c = λ setup given channel. frames_since-none setup given channel [] refl

pub returns-clause-tick : goal.returns-clause-tick
returns-clause-tick c = λ setup given history channel. frames_since-tick setup given channel history

pub returns-clause-same : goal.returns-clause-same
returns-clause-same c = λ seen history p same.
    let on = goes_on_by_ticks seen history p same in
    record {
      ticks = ticks-quiet seen history on;
      frames = λ setup given channel. frames_since-quiet setup given channel seen history on;
    }
