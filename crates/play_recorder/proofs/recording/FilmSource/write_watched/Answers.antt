use Rattle.std.proofs.Common.{◌++◌, ◌∙◌, [], ap, length, subst, subst₂, sym}
use Rattle.play_types.specs.Scene.{IsConfigured}
use Rattle.play_journal.specs.Journal.{JournalView}
use Rattle.play_recorder.specs.Recording.{Records, recorded_after}
use Rattle.play_recorder.specs.inner.Frames.{setup_in}
use Rattle.play_recorder.specs.inner.Recorder.{header_in}
use Rattle.play_recorder.proofs.Recorders.{film_text}
use Rattle.play_recorder.proofs.Served.{film_served}
use Rattle.play_recorder.proofs.recording.FilmSource.write_watched.Goals as goal

pub recorder-requires-clause-channel : goal.recorder-requires-clause-channel
recorder-requires-clause-channel g c =
    film_served (length c.args.self.config.now.channels) c.args.self.journal.now.events c.requires.found.0 c.args.self.film.now c.requires.found.1 c.requires.served

pub write-recorded-requires-clause-channel : goal.write-recorded-requires-clause-channel
write-recorded-requires-clause-channel g c κs within =
    subst₂ (λ config film. IsConfigured (length config.channels) film.channel) (sym c.in-Ok.ensures.config) (sym c.in-Ok.ensures.film)
    (film_served (length c.args.self.config.now.channels) c.args.self.journal.now.events c.requires.found.0 c.args.self.film.now c.requires.found.1 c.requires.served)

pub returns-in-Ok : goal.returns-in-Ok
returns-in-Ok g c =
    subst (λ text. Records c.write-recorded.result text (g.K.Sink.state c.args.to.now) (g.K.Sink.state c.write-recorded.new.to))
    (ap (λ (j : JournalView). header_in c.in-Ok.recorder ++ recorded_after (setup_in c.in-Ok.recorder.replay) c.in-Ok.recorder.film.now [] j.events) c.in-Ok.ensures.journal
    ∙ film_text c.in-Ok.recorder c.args.self.config.now c.args.self.media.now c.args.self.film.now c.args.self.journal.now.events c.requires.found.0
    c.in-Ok.ensures.config c.in-Ok.ensures.media c.in-Ok.ensures.film c.requires.found.1)
    c.write-recorded.ensures
