-- What is answered to a request.
use Rattle.std.specs.Prelude.{ℕ, Bool, true, false, ◌||◌, List, [], ◌∷◌, codes, bytes_eq, Option, Some, None, ◌≡◌}
use Rattle.http.specs.declared.request.Request.{Request}
use Rattle.http.specs.Request.{head_of}
use Rattle.http1.specs.Fields.{Header}
use Rattle.http_uri.specs.Uri.{uri_path, uri_query}
use Rattle.http_server.specs.declared.response.Response.{Response}
use Rattle.http_server.specs.Response.{IsResponse}
use Rattle.http_pages.specs.declared.content.ContentType.{ContentType}
use Rattle.http_pages.specs.declared.content.ContentType.TheVariants.{Html, Script, Style, Json, Plain, Bitmap}
use Rattle.http_pages.specs.declared.page.Page.{Page}
use Rattle.http_pages.specs.declared.page.Status.{Status}
use Rattle.http_pages.specs.declared.page.Status.TheVariants.{Shown, BadRequest, Unavailable}

-- the value of the field Content-Type
abbrev pub content_text : ContentType → List ℕ
content_text Html = codes "text/html; charset=utf-8"
content_text Script = codes "text/javascript; charset=utf-8"
content_text Style = codes "text/css; charset=utf-8"
content_text Json = codes "application/json; charset=utf-8"
content_text Plain = codes "text/plain; charset=utf-8"
content_text Bitmap = codes "image/bmp"

-- the number of a status
abbrev pub status_code : Status → ℕ
status_code Shown = 200
status_code BadRequest = 400
status_code Unavailable = 503

-- an answer: the number of its status, its fields and its body
pub record Answer : Type 0 where
  pub status : ℕ
  pub fields : List Header
  pub body : List ℕ

-- the fields of every answer to a request that was read: what its body is, that no browser keeps it or takes its body for something else, and that a page runs
-- the script and the style with these SHA-256 sums alone (Content Security Policy Level 3), loads pictures and documents from this
-- server alone, is in no frame of another and sends no form
abbrev pub fields_for : ContentType → List Header
fields_for content =
    (codes "content-type", content_text content)
    ∷ (codes "cache-control", codes "no-store")
    ∷ (codes "x-content-type-options", codes "nosniff")
    ∷ (codes "content-security-policy", codes "default-src 'none'; script-src 'sha256-gEe6tNrdoCWCg9Nww8uoDAabtLMuLI7s9apYeF3xVSM='; style-src 'sha256-PD1FBd6N4jZliuRlmko7X0PXi7ykvQPCpICLkXAyc/s='; img-src 'self'; connect-src 'self'; base-uri 'none'; form-action 'none'; frame-ancestors 'none'")
    ∷ []

-- the answer if there is this page, or none
abbrev pub page_answer : Option Page → Answer
page_answer (Some page) = record { status = status_code page.status; fields = fields_for page.content; body = page.bytes }
page_answer None = record { status = 404; fields = fields_for Plain; body = codes "There is no such page.\n" }

-- the answer to another method than GET and HEAD
abbrev pub method_answer : Answer
method_answer = record {
  status = 405;
  fields = (codes "allow", codes "GET, HEAD") ∷ fields_for Plain;
  body = codes "Pages can only be read.\n";
}

-- whether a method asks for a page; to HEAD the body is left out when the answer is sent
abbrev pub asks : List ℕ → Bool
asks method = bytes_eq method (codes "GET") || bytes_eq method (codes "HEAD")

-- the response is this answer
abbrev pub IsAnswer : Answer → Response → Type 0
IsAnswer answer = IsResponse answer.status answer.fields answer.body

-- the response answers a request for a page with one that is shown, or else says that the method is wrong
abbrev pub AnswersIf : Bool → (Option Page → Type 0) → Response → Type 0
AnswersIf true shown response = (page : Option Page) × shown page × IsAnswer (page_answer page) response
AnswersIf false shown response = IsAnswer method_answer response

-- the response answers the request by what is shown at its path, for its query
abbrev pub AnswersRequest : (List ℕ → Option (List ℕ) → Option Page → Type 0) → Request (List ℕ) → Response → Type 0
AnswersRequest shows request response =
    AnswersIf (asks (head_of request).method) (shows (uri_path (head_of request).uri) (uri_query (head_of request).uri)) response
