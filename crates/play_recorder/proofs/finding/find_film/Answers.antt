use Rattle.std.proofs.Common.{sym, subst}
use Rattle.play_recorder.specs.inner.Replay.{CanPlay}
use Rattle.play_recorder.proofs.Playing.{can_play}
use Rattle.play_recorder.proofs.finding.find_film.Goals as goal

pub film_in-film-requires-clause-can : goal.film_in-film-requires-clause-can
film_in-film-requires-clause-can c =
    subst (λ stage. CanPlay stage c.args.journal.now.events) (sym c.in_ok-replay.ensures.stage)
    (can_play c.args.config.now c.args.journal.now c.held-held.ensures.range c.requires.served c.requires.room)
