use Rattle.play_recorder.proofs.FilmFrames.{film_recorded, film_within}
use Rattle.play_recorder.proofs.laws.films_are_recorded.Goals as goal

pub returns-clause-within : goal.returns-clause-within
returns-clause-within c = film_within

pub returns-clause-frames : goal.returns-clause-frames
returns-clause-frames c = film_recorded
