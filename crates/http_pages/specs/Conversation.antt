-- What was read from a client and written to it.
use Rattle.std.specs.Prelude.{ℕ, List, All, Option, Result, OnOk}
use Rattle.std.specs.Io.KnownBytes.{Appends, Consumes}
use Rattle.http_server.specs.declared.state.Config.{Config}
use Rattle.http_server.specs.Exchange.{Call}
use Rattle.http_server.specs.History.{History, IsServed, IsDone}
use Rattle.http_pages.specs.declared.answering.TheConstants.{MAX_HEAD, MAX_BODY, MAX_PENDING}
use Rattle.http_pages.specs.declared.page.Page.{Page}
use Rattle.http_pages.specs.Answer.{AnswersRequest}

-- the limits of a connection
abbrev pub page_config : Config
page_config = record {
  limits = record { max_head_len = MAX_HEAD; max_extensions_len = MAX_HEAD; max_trailers_len = MAX_HEAD };
  max_body_len = MAX_BODY;
  max_pending = MAX_PENDING;
  read_size = MAX_HEAD;
}

-- The history of a connection whose requests were answered by what is shown. Its bytes were read from one stream and written to
-- another, as far as these say what they hold.
pub record IsConversation (shows : List ℕ → Option (List ℕ) → Option Page → Type 0) (unread left written sent : Option (List ℕ))
    (h : History) : Type 0 where
  -- the answers are the text of HTTP/1.1 for the calls, in the order of the requests, and what follows is a refusal by its cause
  pub served : ∥ IsServed page_config h ∥₁
  pub read : Consumes unread left h.received
  pub wrote : Appends written sent h.sent
  pub answers : All (λ (call : Call). AnswersRequest shows call.0 call.1) h.calls
