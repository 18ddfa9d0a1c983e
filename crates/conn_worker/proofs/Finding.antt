-- What the reads of a connection found, and what was found of the stage's history.
use Rattle.std.proofs.Common.{◌≡◌, List, [], ◌∷◌, ◌++◌, sym, ap, subst, ◌∙◌, append_assoc, append-nil}
use Rattle.std.proofs.lemmas.Grind.{flat_map-append}
use Rattle.std.proofs.lemmas.List.{map-append}
use Rattle.std.proofs.lemmas.List.Elements.{All-push}
use Rattle.std.specs.Prelude.{All}
use mathlib.Core.List.{IsPrefix}
use Rattle.play_types.specs.declared.event.Event.{Event}
use Rattle.stage_lock.specs.Views.{PassView}
use Rattle.conn_worker.specs.Followed.{Service, Followed, stage_look}
use Rattle.conn_worker.specs.Rounds.{Look, Round, AreLeftOpen, LeavesOpen, finds_in, idle_round, looks_in, stage_looks}
use Rattle.conn_worker.specs.Explained.{AreInOrder}
use Rattle.conn_worker.specs.inner.Steps.{MakesStep}
use Rattle.conn_worker.proofs.Passes.{in_order_more}

-- the reads with one more
pub looks_in-more : (rounds : List Round) (round : Round) → looks_in (rounds ++ round ∷ []) ≡ looks_in rounds ++ round.look ∷ []
looks_in-more rounds round = map-append (λ (r : Round). r.look) rounds (round ∷ [])

-- one more read that leaves the connection open
pub open_more : (rounds : List Round) (round : Round) → AreLeftOpen rounds → LeavesOpen round.look → AreLeftOpen (rounds ++ round ∷ [])
open_more rounds round earlier now =
    subst (All LeavesOpen) (sym (looks_in-more rounds round)) (All-push LeavesOpen (looks_in rounds) round.look earlier now)

-- the steps after the last read do not close the connection
pub open_step : (rounds : List Round) (look : Look) (followed more : List Followed)
    → AreLeftOpen (rounds ++ record { look = look; followed = followed } ∷ []) → AreLeftOpen (rounds ++ record { look = look; followed = more } ∷ [])
open_step rounds look followed more earlier =
    subst (All LeavesOpen)
    (looks_in-more rounds (record { look = look; followed = followed }) ∙ sym (looks_in-more rounds (record { look = look; followed = more }))) earlier

-- all that was found, with one round more
finds_in-more : (rounds : List Round) (round : Round) → finds_in (rounds ++ round ∷ []) ≡ finds_in rounds ++ (stage_looks round.look ++ round.followed)
finds_in-more rounds round =
    flat_map-append (λ (r : Round). stage_looks r.look ++ r.followed) rounds (round ∷ [])
    ∙ ap (λ (fs : List Followed). finds_in rounds ++ fs) (append-nil (stage_looks round.look ++ round.followed))

-- a read after which the stage was not checked, and no step was executed yet
pub finds_in-none : (rounds : List Round) (look : Look) → stage_looks look ≡ [] → finds_in (rounds ++ record { look = look; followed = [] } ∷ []) ≡ finds_in rounds
finds_in-none rounds look none =
    finds_in-more rounds (record { look = look; followed = [] })
    ∙ ap (λ (fs : List Followed). finds_in rounds ++ (fs ++ [])) none ∙ append-nil (finds_in rounds)

-- the last round with one step more
finds_in-step : (rounds : List Round) (look : Look) (followed : List Followed) (one : Followed)
    → finds_in (rounds ++ record { look = look; followed = followed ++ one ∷ [] } ∷ []) ≡ finds_in (rounds ++ record { look = look; followed = followed } ∷ []) ++ one ∷ []
finds_in-step rounds look followed one =
    finds_in-more rounds (record { look = look; followed = followed ++ one ∷ [] })
    ∙ ap (λ (fs : List Followed). finds_in rounds ++ fs) (sym (append_assoc (stage_looks look) followed (one ∷ [])))
    ∙ sym (append_assoc (finds_in rounds) (stage_looks look ++ followed) (one ∷ []))
    ∙ ap (λ (fs : List Followed). fs ++ one ∷ []) (sym (finds_in-more rounds (record { look = look; followed = followed })))

-- a read found nothing yet, and a check of the stage then found a longer history
pub found_idle : (service : Service) (seen : List Event) (rounds : List Round) (between history : List Event)
    → AreInOrder service seen (finds_in rounds) between → IsPrefix between history → AreInOrder service seen (finds_in (rounds ++ idle_round history ∷ [])) history
found_idle service seen rounds between history order grows =
    subst (λ (fs : List Followed). AreInOrder service seen fs history) (sym (finds_in-more rounds (idle_round history)))
    (in_order_more service seen (finds_in rounds) (stage_look history) between history order grows (sym (append-nil history)))

-- one step more was executed
pub found_step : (service : Service) (seen : List Event) (rounds : List Round) (look : Look) (followed : List Followed) (one : Followed) (between after : PassView)
    → AreInOrder service seen (finds_in (rounds ++ record { look = look; followed = followed } ∷ [])) between.seen → MakesStep service one between after
    → AreInOrder service seen (finds_in (rounds ++ record { look = look; followed = followed ++ one ∷ [] } ∷ [])) after.seen
found_step service seen rounds look followed one between after order makes =
    subst (λ (fs : List Followed). AreInOrder service seen fs after.seen) (sym (finds_in-step rounds look followed one))
    (in_order_more service seen (finds_in (rounds ++ record { look = look; followed = followed } ∷ [])) one between.seen after.seen order makes.found makes.seen)
