use Rattle.std.proofs.Common.{◌≡◌, ℕ, List, [], ◌++◌, All, ap, sym, subst, ◌∙◌}
use Rattle.std.specs.Io.KnownBytes.{Appends, Consumes}
use Rattle.http_server.specs.declared.state.Config.{Config}
use Rattle.http_server.specs.Connection.{config_of, history}
use Rattle.http_server.specs.Exchange.{Call}
use Rattle.http_server.specs.History.{History, IsServed}
use Rattle.http_server.proofs.Theorems.{always_served}
use Rattle.http_pages.specs.Answer.{AnswersRequest}
use Rattle.http_pages.specs.Conversation.{page_config}
use Rattle.http_pages.proofs.Chains.{all_answered}
use Rattle.http_pages.proofs.answering.answer_requests.Goals as goal

pub returns-clause-answered : goal.returns-clause-answered
returns-clause-answered g c =
    let h = history c.serve.new.connection in
    let begun = c.new-connection.ensures.history in
    let read = c.serve.ensures.read in
    let wrote = c.serve.ensures.written in
    let calls = c.serve.ensures.calls in
    let received : h.received ≡ read.0 = read.2 ∙ ap (λ (k : History). k.received ++ read.0) begun in
    let sent : h.sent ≡ wrote.0 = wrote.2 ∙ ap (λ (k : History). k.sent ++ wrote.0) begun in
    let called : h.calls ≡ calls.0 = calls.1 ∙ ap (λ (k : History). k.calls ++ calls.0) begun in
    let config : config_of c.serve.new.connection ≡ page_config =
    c.serve.ensures.config ∙ c.new-connection.ensures.config ∙ c.limits.ensures in
    let shows = g.P.Pages.shows c.args.site.now.pages in
    let reads : List ℕ → Type 0 = Consumes (g.R.Read.remaining c.args.reader.now) (g.R.Read.remaining c.serve.new.reader) in
    let writes : List ℕ → Type 0 = Appends (g.W.Write.contents c.args.writer.now) (g.W.Write.contents c.serve.new.writer) in
    let all = all_answered _ (λ q r. AnswersRequest shows q r) c.args.site.now (λ q r new x. x) calls.0 c.serve.new.service calls.2 in (
      h,
      c.serve.ensures.done,
      record {
        served = subst (λ (k : Config). ∥ IsServed k h ∥₁) config (always_served c.serve.new.connection);
        read = subst reads (sym received) read.1;
        wrote = subst writes (sym sent) wrote.1;
        answers = subst (λ (made : List Call). All (λ (call : Call). AnswersRequest shows call.0 call.1) made) (sym called) all.1;
      },
    )

pub returns-clause-same : goal.returns-clause-same
returns-clause-same g c =
    let calls = c.serve.ensures.calls in
    let shows = g.P.Pages.shows c.args.site.now.pages in
    (all_answered _ (λ q r. AnswersRequest shows q r) c.args.site.now (λ q r new x. x) calls.0 c.serve.new.service calls.2).0
