use Rattle.script_film.specs.Recording.{film_of}
use Rattle.script_film.proofs.Films.{not_recorded, recorded_after, room_again, served_again}
use Rattle.script_film.proofs.recording.FilmRun.record.Goals as goal

pub write-requires-clause-served : goal.write-requires-clause-served
write-requires-clause-served g c κs within = served_again _ c.in_ok-player.player _ _ c.in_ok-player.ensures

pub write-requires-clause-room : goal.write-requires-clause-room
write-requires-clause-room g c κs within = room_again _ c.in_ok-player.player _ _ c.in_ok-player.ensures

pub returns-in_err-player : goal.returns-in_err-player
returns-in_err-player g c =
    not_recorded (film_of c.args.self.setup c.args.self.options.name) c.in_err-player.field-0.0 c.from_residual.result _ _ _ c.in_err-player.ensures c.from_residual.ensures.1

pub returns : goal.returns
returns g c =
    recorded_after (film_of c.args.self.setup c.args.self.options.name) c.in_ok-player.player _ _ _ _ _ c.in_ok-player.ensures c.write.ensures
