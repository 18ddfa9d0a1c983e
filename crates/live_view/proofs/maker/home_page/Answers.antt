use Rattle.std.proofs.Common.{◌≡◌, ℕ, List, IfOk, subst}
use Rattle.http_pages.specs.declared.content.ContentType.TheVariants.{Html}
use Rattle.http_pages.specs.declared.page.Status.TheVariants.{Shown}
use Rattle.live_view.specs.Page.{home_page, page_of}
use Rattle.live_view.proofs.maker.home_page.Goals as goal

pub returns : goal.returns
unfolding home_page
returns c = subst (λ (bytes : List ℕ). IfOk c.text_page.result (λ page. page ≡ page_of Shown Html bytes)) c.home_text.ensures c.text_page.ensures
