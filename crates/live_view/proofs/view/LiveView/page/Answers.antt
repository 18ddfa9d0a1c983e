use Rattle.std.proofs.Common.{subst}
use Rattle.std.specs.Prelude.{IfOk, option_copied}
use Rattle.live_view.specs.Page.{IsPage, PageSource}
use Rattle.live_view.specs.View.{state_of}
use Rattle.live_view.proofs.Views.{source_of_view}
use Rattle.live_view.proofs.view.LiveView.page.Goals as goal

pub returns : goal.returns
returns g c = λ playout bytes is.
    subst (λ (source : PageSource). IfOk c.page.result (λ page. IsPage source c.args.path.now (option_copied c.args.query) page))
    (source_of_view playout bytes (state_of c.args.self.now) is) c.page.ensures
