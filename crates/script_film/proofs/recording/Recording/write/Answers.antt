use Rattle.std.proofs.Common.{◌≡◌, sym, ◌∙◌, subst}
use Rattle.std.specs.Prelude.{Some}
use Rattle.history_model.specs.recordings.Film.{film_span, filmed}
use Rattle.play_journal.specs.Journal.{JournalView}
use Rattle.play_recorder.specs.Recording.{Records}
use Rattle.play_types.specs.ClipFile.{clip_bytes}
use Rattle.script_player.specs.Ending.{fault_in}
use Rattle.script_player.specs.Player.{setup_in}
use Rattle.script_film.proofs.Films.{film_written}
use Rattle.script_film.proofs.recording.Recording.write.Goals as goal

pub returns-in-Some : goal.returns-in-Some
returns-in-Some g c =
    let player = c.args.self.player.now in
    let name = c.args.self.options.name in
    let film = c.in-Some.film in
    let journal = c.journal-journal.ensures in
    film_written player name film c.write_watched-recorded.result (fault_in c.outcome.result) _ _
    (subst (λ (j : JournalView). film_span j.events name ≡ Some film) journal (sym c.in_ok-film.ensures ∙ c.in-Some.is)) c.outcome.ensures
    (subst
    (λ (j : JournalView). Records c.write_watched-recorded.result (clip_bytes (filmed (setup_in player) j.events film)) (g.K.Sink.state c.args.out.now) (g.K.Sink.state c.write_watched-recorded.new.to))
    journal c.write_watched-recorded.ensures)
