use Rattle.std.proofs.Common.{sym, ap, ◌∙◌}
use Rattle.std.specs.ControlFlow.{continue_value}
use Rattle.history_model.specs.recordings.Film.{span_of}
use Rattle.play_recorder.specs.Finder.{FinderView}
use Rattle.play_recorder.proofs.Events.{film_none, film_some}
use Rattle.play_recorder.proofs.finder.FilmFinder.film.Goals as goal

pub returns : goal.returns
returns c events represents =
    c.film.ensures
    ∙ ap (λ (finder : FinderView). span_of finder.ticks c.in_ok-self.field-0) c.self.view_is
    ∙ film_some c.args.self.now events represents c.in_ok-self.field-0
    (ap (λ (finder : FinderView). finder.begun) (sym c.self.view_is) ∙ c.branch-self.ensures ∙ ap continue_value c.in_ok-self.is)

pub returns-in_err-self : goal.returns-in_err-self
returns-in_err-self c events represents =
    c.from_residual.ensures
    ∙ film_none c.args.self.now events represents
    (ap (λ (finder : FinderView). finder.begun) (sym c.self.view_is) ∙ c.branch-self.ensures ∙ ap continue_value c.in_err-self.is)
