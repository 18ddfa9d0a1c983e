use Rattle.play_recorder.proofs.FilmClips.{film_prepared, film_read, size_in_range, version_1_of_table}
use Rattle.play_recorder.specs.Recording.{setup_with}
use Rattle.play_recorder.proofs.laws.films_are_clips.Goals as goal

pub returns-clause-file : goal.returns-clause-file
returns-clause-file c config entries history span is configured film =
    film_read (setup_with config entries) history span film (size_in_range config entries span.channel is configured)

pub returns-clause-prepared : goal.returns-clause-prepared
returns-clause-prepared c config entries history span is table configured film =
    film_prepared (setup_with config entries) history span film (size_in_range config entries span.channel is configured) (version_1_of_table entries table)
