-- Calls of a service that stays as it is.
use Rattle.std.proofs.Common.{◌≡◌, ℕ, List, [], ◌∷◌, All, subst}
use Rattle.std.proofs.lemmas.List.Elements.{All-nil, All-cons}
use Rattle.http.specs.declared.request.Request.{Request}
use Rattle.http_server.specs.declared.response.Response.{Response}
use Rattle.http_server.specs.Exchange.{Call, Chain}

-- what each call ensures holds of all calls of a chain, and the service is as it was
pub all_answered : {S : Type 0} (answers : S → Request (List ℕ) → Response → S → Type 0)
    → (R : Request (List ℕ) → Response → Type 0) (old : S)
    → ((q : Request (List ℕ)) (r : Response) (new : S) → answers old q r new → (new ≡ old) × R q r)
    → (calls : List Call) (new : S) → Chain answers old calls new → (new ≡ old) × All (λ (call : Call). R call.0 call.1) calls
all_answered answers R old each [] new x = (x, All-nil (λ (call : Call). R call.0 call.1))
all_answered {S} answers R old each (c ∷ calls) new x =
    let first = each c.0 c.1 x.0 x.1 in
    let later = all_answered answers R old each calls new (subst (λ (s : S). Chain answers s calls new) first.0 x.2) in
    (later.0, All-cons (λ (call : Call). R call.0 call.1) c calls first.1 later.1)
