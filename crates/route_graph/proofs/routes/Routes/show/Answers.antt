use Rattle.std.proofs.Common.{sym, subst}
use Rattle.route_graph.specs.Shown.{Picture}
use Rattle.route_graph.specs.Routes.{RoutesView}
use Rattle.route_graph.specs.Past.{Represents, with_show}
use Rattle.route_graph.specs.inner.Tick.{TickView}
use Rattle.route_graph.proofs.Past.{represents_show}
use Rattle.route_graph.proofs.routes.Routes.show.Goals as goal

pub returns-clause-past : goal.returns-clause-past
returns-clause-past c = λ ticks represents.
    let i = c.self.inside in
    let place = c.args.place in
    let picture : Picture = (c.args.spec, c.args.frame) in
    let before : RoutesView = record { channels = i.present.channels; past = i.past.shown; present = i.present.shown } in
    let after = represents_show before place picture ticks c.show.ensures.configured c.show.ensures.whole
    (subst (λ (routes : RoutesView). Represents routes ticks) (sym c.self.view_is) represents) in
    subst (λ (tick : TickView). Represents (record { channels = tick.channels; past = i.past.shown; present = tick.shown }) (with_show place picture ticks))
    (sym c.show.ensures.after) after
