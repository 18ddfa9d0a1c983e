-- Rounds and steps with one more at the end.
use Rattle.std.proofs.Common.{◌≡◌, ℕ, zero, suc, take, ◌+◌, Bool, true, false, List, [], ◌∷◌, ◌++◌, length, refl, sym, ap, ◌∙◌, append_assoc, append-nil}
use Rattle.std.specs.Prelude.{Option, Some, slice_get}
use Rattle.std.specs.List.{last_or, list_any}
use Rattle.std.proofs.Math.Bool.{or-true}
use Rattle.std.proofs.lemmas.Bool.{or_parts}
use Rattle.std.proofs.lemmas.Grind.{flat_map-append}
use Rattle.std.proofs.lemmas.List.{map-append}
use Rattle.std.proofs.lemmas.Option.{none-some, same_Some}
use Rattle.std.proofs.lemmas.List.Sums.{sum_by_push}
use Rattle.conn_worker.specs.Followed.{Followed, number_asked, steps_in, times_asked, tokens_in}
use Rattle.conn_worker.specs.Rounds.{Look, Round, bytes_in, followed_in, idle_looks, look_bytes, number_idle}

-- the last element of a list
pub last_or-snoc : {A : Type 0} (o : Option A) (xs : List A) (x : A) → last_or o (xs ++ x ∷ []) ≡ Some x
last_or-snoc o [] x = refl
last_or-snoc o (y ∷ ys) x = last_or-snoc (Some y) ys x

-- the first element of the second of two joined lists
pub slice_get-seam : {A : Type 0} (xs : List A) (x : A) (ys : List A) → slice_get (xs ++ x ∷ ys) (length xs) ≡ Some x
slice_get-seam [] x ys = refl
slice_get-seam (y ∷ xs) x ys = slice_get-seam xs x ys

pub slice_get-after : {A : Type 0} (xs ys : List A) (x : A) → slice_get (xs ++ ys) (length xs) ≡ Some x → slice_get ys 0 ≡ Some x
slice_get-after [] ys x h = h
slice_get-after (y ∷ xs) ys x h = slice_get-after xs ys x h

pub steps_in-more : (followed : List Followed) (one : Followed) → steps_in (followed ++ one ∷ []) ≡ steps_in followed ++ one.step ∷ []
steps_in-more followed one = map-append (λ (f : Followed). f.step) followed (one ∷ [])

pub tokens_in-more : (followed : List Followed) (one : Followed) → tokens_in (followed ++ one ∷ []) ≡ tokens_in followed ++ one.token ∷ []
tokens_in-more followed one = map-append (λ (f : Followed). f.token) followed (one ∷ [])

-- the first elements of a list with one more
pub take_next : {A : Type 0} (xs : List A) (n : ℕ) (x : A) → slice_get xs n ≡ Some x → take (suc n) xs ≡ take n xs ++ x ∷ []
take_next [] zero x h = absurd (none-some x h)
take_next [] (suc n) x h = absurd (none-some x h)
take_next (y ∷ ys) zero x h = ap (λ z. z ∷ []) (same_Some y x h)
take_next (y ∷ ys) (suc n) x h = ap (λ zs. y ∷ zs) (take_next ys n x h)

pub number_asked-more : (followed : List Followed) (one : Followed) → number_asked (followed ++ one ∷ []) ≡ number_asked followed + times_asked one.step
number_asked-more followed one = sum_by_push (λ (f : Followed). times_asked f.step) followed one

-- what all rounds have, with one round more
pub followed_in-more : (rounds : List Round) (round : Round) → followed_in (rounds ++ round ∷ []) ≡ followed_in rounds ++ round.followed
followed_in-more rounds round =
    flat_map-append (λ (r : Round). r.followed) rounds (round ∷ []) ∙ ap (λ (fs : List Followed). followed_in rounds ++ fs) (append-nil round.followed)

pub bytes_in-more : (rounds : List Round) (round : Round) → bytes_in (rounds ++ round ∷ []) ≡ bytes_in rounds ++ look_bytes round.look
bytes_in-more rounds round =
    flat_map-append (λ (r : Round). look_bytes r.look) rounds (round ∷ []) ∙ ap (λ (bs : List ℕ). bytes_in rounds ++ bs) (append-nil (look_bytes round.look))

pub number_idle-more : (rounds : List Round) (round : Round) → number_idle (rounds ++ round ∷ []) ≡ number_idle rounds + idle_looks round.look
number_idle-more rounds round = sum_by_push (λ (r : Round). idle_looks r.look) rounds round

-- a round in which no step was executed yet
pub followed_in-none : (rounds : List Round) (look : Look) → followed_in (rounds ++ record { look = look; followed = [] } ∷ []) ≡ followed_in rounds
followed_in-none rounds look = followed_in-more rounds (record { look = look; followed = [] }) ∙ append-nil (followed_in rounds)

-- the last round with one step more
pub followed_in-step : (rounds : List Round) (look : Look) (followed : List Followed) (one : Followed)
    → followed_in (rounds ++ record { look = look; followed = followed ++ one ∷ [] } ∷ [])
    ≡ followed_in (rounds ++ record { look = look; followed = followed } ∷ []) ++ one ∷ []
followed_in-step rounds look followed one =
    followed_in-more rounds (record { look = look; followed = followed ++ one ∷ [] })
    ∙ sym (append_assoc (followed_in rounds) followed (one ∷ []))
    ∙ ap (λ (fs : List Followed). fs ++ one ∷ []) (sym (followed_in-more rounds (record { look = look; followed = followed })))

pub bytes_in-step : (rounds : List Round) (look : Look) (followed more : List Followed)
    → bytes_in (rounds ++ record { look = look; followed = more } ∷ []) ≡ bytes_in (rounds ++ record { look = look; followed = followed } ∷ [])
bytes_in-step rounds look followed more =
    bytes_in-more rounds (record { look = look; followed = more }) ∙ sym (bytes_in-more rounds (record { look = look; followed = followed }))

pub number_idle-step : (rounds : List Round) (look : Look) (followed more : List Followed)
    → number_idle (rounds ++ record { look = look; followed = more } ∷ []) ≡ number_idle (rounds ++ record { look = look; followed = followed } ∷ [])
number_idle-step rounds look followed more =
    number_idle-more rounds (record { look = look; followed = more }) ∙ sym (number_idle-more rounds (record { look = look; followed = followed }))

-- whether an element of a list with one more passes
pub list_any-more : {A : Type 0} (p : A → Bool) (xs : List A) (x : A) → list_any p xs ≡ false → p x ≡ false → list_any p (xs ++ x ∷ []) ≡ false
list_any-more p [] x none fails = rw fails refl
list_any-more p (y ∷ ys) x none fails =
    let parts = or_parts (p y) (list_any p ys) none in
    rw (parts.0, list_any-more p ys x parts.1 fails) refl

pub list_any-last : {A : Type 0} (p : A → Bool) (xs : List A) (x : A) → p x ≡ true → list_any p (xs ++ x ∷ []) ≡ true
list_any-last p [] x passes = rw passes refl
list_any-last p (y ∷ ys) x passes = rw (list_any-last p ys x passes) (or-true (p y))
