use Rattle.std.proofs.Common.{sym, subst}
use Rattle.play_recorder.specs.inner.Replay.{CanPlay}
use Rattle.play_recorder.proofs.Playing.{can_play}
use Rattle.play_recorder.proofs.first_needed.first_needed.Goals as goal

pub first_needed-first-requires-clause-can : goal.first_needed-first-requires-clause-can
first_needed-first-requires-clause-can c =
    subst (λ stage. CanPlay stage c.args.journal.now.events) (sym c.in_ok-look.ensures.new)
    (can_play c.args.config.now c.args.journal.now c.held-held.ensures.range c.requires.served c.requires.room)
