use Rattle.history_model.proofs.Films.{film_is_clip}
use Rattle.history_model.proofs.laws.recordings.films_are_clips.Goals as goal

pub returns : goal.returns
returns c = film_is_clip
