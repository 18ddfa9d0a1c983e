use Rattle.std.proofs.Common.{List, ℕ, subst₂}
use Rattle.std.specs.Prelude.{Option}
use Rattle.live_view.specs.Page.{IsPage}
use Rattle.live_view.specs.View.{source_of, state_of}
use Rattle.play_viewer.proofs.viewing.answer.Goals as goal

pub returns-clause-answers : goal.returns-clause-answers
returns-clause-answers g c = λ playout bytes is. (
  c.in_ok-page.page,
  subst₂ (λ (path : List ℕ) (query : Option (List ℕ)). IsPage (source_of playout bytes (state_of c.args.view.now)) path query c.in_ok-page.page)
      c.as_str.ensures.value c.query_of.ensures (c.in_ok-page.ensures playout bytes is),
  c.answer.ensures.told,
)
