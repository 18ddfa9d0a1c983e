-- The link of a connection, round by round.
use Rattle.std.proofs.Common.{◌≡◌, ℕ, ◌+◌, ◌<◌, List, [], ◌∷◌, ◌++◌, take, length, refl, sym, ap, subst, ◌∙◌, arith, append-nil, length-append, inl, inr}
use Rattle.std.proofs.lemmas.Grind.{flat_map-append}
use Rattle.std.proofs.lemmas.Bool.{cases_lt}
use Rattle.std.proofs.lemmas.List.{take-append-le, take_at}
use Rattle.play_outside.specs.SinkState.{SinkState, after_taking}
use Rattle.play_outside.proofs.Taking.{after_taking-after_taking, after_taking-nil}
use Rattle.conn_worker.specs.Followed.{Service, Followed, replies, sent_bytes}
use Rattle.conn_worker.specs.Rounds.{Look, Round, after_look, after_round, after_rounds}
use Rattle.conn_worker.specs.Explained.{IsCaughtUp}

-- one round more
after_rounds-more : (service : Service) (rounds : List Round) (round : Round) (link : SinkState)
    → after_rounds service (rounds ++ round ∷ []) link ≡ after_round service round (after_rounds service rounds link)
after_rounds-more service [] round link = refl
after_rounds-more service (first ∷ rounds) round link = after_rounds-more service rounds round (after_round service first link)

-- a read after which no step was executed yet
pub after_rounds-looked : (service : Service) (rounds : List Round) (look : Look) (link : SinkState)
    → after_rounds service (rounds ++ record { look = look; followed = [] } ∷ []) link ≡ after_look look (after_rounds service rounds link)
after_rounds-looked service rounds look link =
    after_rounds-more service rounds (record { look = look; followed = [] }) link
    ∙ after_taking-nil (after_look look (after_rounds service rounds link))

-- the reply to one step more
pub after_rounds-step : (service : Service) (rounds : List Round) (look : Look) (followed : List Followed) (one : Followed) (link : SinkState)
    → after_rounds service (rounds ++ record { look = look; followed = followed ++ one ∷ [] } ∷ []) link
    ≡ after_taking (after_rounds service (rounds ++ record { look = look; followed = followed } ∷ []) link) (sent_bytes service one)
after_rounds-step service rounds look followed one link =
    let before = after_look look (after_rounds service rounds link) in
    let bytes : Followed → List ℕ = sent_bytes service in
    after_rounds-more service rounds (record { look = look; followed = followed ++ one ∷ [] }) link
    ∙ ap (after_taking before) (flat_map-append bytes followed (one ∷ []) ∙ ap (λ (l : List ℕ). replies service followed ++ l) (append-nil (bytes one)))
    ∙ sym (after_taking-after_taking before (replies service followed) (bytes one))
    ∙ ap (λ (s : SinkState). after_taking s (bytes one)) (sym (after_rounds-more service rounds (record { look = look; followed = followed }) link))

-- before each read all steps were executed: with one more read
pub looks_more : (service : Service) (rounds : List Round) (round : Round)
    → ((k : ℕ) → k < length rounds → IsCaughtUp service (take k rounds)) → IsCaughtUp service rounds
    → (k : ℕ) → k < length (rounds ++ round ∷ []) → IsCaughtUp service (take k (rounds ++ round ∷ []))
looks_more service rounds round earlier now k within =
    let long : length (rounds ++ round ∷ []) ≡ length rounds + 1 = length-append rounds (round ∷ []) in
    elim (cases_lt k (length rounds)) [
      | inl less ↦ subst (IsCaughtUp service) (sym (take-append-le k rounds (round ∷ []) (omega arith))) (earlier k less)
      | inr same ↦ subst (IsCaughtUp service) (sym (take_at rounds (round ∷ []) k (omega arith))) now
    ]

-- the steps after the last read change nothing before it
pub looks_step : (service : Service) (rounds : List Round) (old new : Round)
    → ((k : ℕ) → k < length (rounds ++ old ∷ []) → IsCaughtUp service (take k (rounds ++ old ∷ [])))
    → (k : ℕ) → k < length (rounds ++ new ∷ []) → IsCaughtUp service (take k (rounds ++ new ∷ []))
looks_step service rounds old new earlier k within =
    let long : length (rounds ++ new ∷ []) ≡ length rounds + 1 = length-append rounds (new ∷ []) in
    let short : length (rounds ++ old ∷ []) ≡ length rounds + 1 = length-append rounds (old ∷ []) in
    let same : take k (rounds ++ old ∷ []) ≡ take k (rounds ++ new ∷ []) =
    take-append-le k rounds (old ∷ []) (omega arith) ∙ sym (take-append-le k rounds (new ∷ []) (omega arith)) in
    subst (IsCaughtUp service) same (earlier k (omega arith))
