-- The positions of own events, as a history grows.
use Rattle.std.proofs.Common.{◌≡◌, ◌≢◌, ℕ, zero, suc, ◌+◌, ◌<◌, ◌==◌, ◌||◌, ◌⊎◌, Bool, true, false, true≢false, cond, List, [], ◌∷◌, ◌++◌, length, ne_eqb, refl, sym, ap, ◌∙◌, subst, inl, inr, ⊎_elim, arith, length-append}
use mathlib.Core.Option.{some, some-ne-none, some-injective}
use mathlib.Core.List.{IsPrefix}
use lib.ListN.{get_elem?}
use Rattle.std.proofs.lemmas.Bool.Decides.{nat_tests}
use Rattle.std.proofs.lemmas.List.{append-nil}
use Rattle.play_types.specs.declared.event.Event.{Event}
use Rattle.stage_lock.specs.Own.{has_final, is_final, is_own, made_by, own_by, owner, positions}
use Rattle.stage_lock.specs.Seats.{ends_final}

pub positions-append : (p : Event → Bool) (k : ℕ) (xs ys : List Event) → positions p k (xs ++ ys) ≡ positions p k xs ++ positions p (k + length xs) ys
positions-append p k [] ys = let z : k ≡ k + 0 = omega arith in ap (λ m. positions p m ys) z
positions-append p k (x ∷ xs) ys =
    let n : suc k + length xs ≡ k + suc (length xs) = omega arith in
    let rec : positions p (suc k) (xs ++ ys) ≡ positions p (suc k) xs ++ positions p (k + suc (length xs)) ys = positions-append p (suc k) xs ys ∙ ap (λ m. positions p (suc k) xs ++ positions p m ys) n in
    elim (p x) as (λ b. cond b (k ∷ positions p (suc k) (xs ++ ys)) (positions p (suc k) (xs ++ ys)) ≡ cond b (k ∷ positions p (suc k) xs) (positions p (suc k) xs) ++ positions p (k + suc (length xs)) ys)
    [ true ↦ ap (λ l. k ∷ l) rec | false ↦ rec ]

pub made_by-append : (n : ℕ) (xs ys : List Event) → made_by n (xs ++ ys) ≡ made_by n xs ++ positions (is_own n) (length xs) ys
made_by-append n xs ys = let z : 0 + length xs ≡ length xs = omega arith in positions-append (is_own n) 0 xs ys ∙ ap (λ m. made_by n xs ++ positions (is_own n) m ys) z

pub made_by-own : (n : ℕ) (xs : List Event) (e : Event) → is_own n e ≡ true → made_by n (xs ++ e ∷ []) ≡ made_by n xs ++ length xs ∷ []
made_by-own n xs e own = made_by-append n xs (e ∷ []) ∙ ap (λ b. made_by n xs ++ cond b (length xs ∷ []) []) own

pub made_by-other : (n : ℕ) (xs : List Event) (e : Event) → is_own n e ≡ false → made_by n (xs ++ e ∷ []) ≡ made_by n xs
made_by-other n xs e own = made_by-append n xs (e ∷ []) ∙ (ap (λ b. made_by n xs ++ cond b (length xs ∷ []) []) own ∙ append-nil (made_by n xs))

append_none : {A : Type 0} (xs ys : List A) → length (xs ++ ys) ≡ length xs → ys ≡ []
append_none xs [] e = refl
append_none xs (y ∷ ys) e = absurd (omega (arith, length-append xs (y ∷ ys)))

-- what a history between two of the same own events has
pub made_by_between : (n : ℕ) (xs ys zs : List Event) → IsPrefix xs ys → IsPrefix ys zs → made_by n xs ≡ made_by n zs → made_by n ys ≡ made_by n zs
made_by_between n xs ys zs p q same =
    let a = positions (is_own n) (length xs) p.0 in
    let b = positions (is_own n) (length ys) q.0 in
    let y : made_by n ys ≡ made_by n xs ++ a = ap (made_by n) (sym p.1) ∙ made_by-append n xs p.0 in
    let z : made_by n zs ≡ made_by n ys ++ b = ap (made_by n) (sym q.1) ∙ made_by-append n ys q.0 in
    let la = length-append (made_by n xs) a in
    let lb = length-append (made_by n ys) b in
    let none : b ≡ [] = append_none (made_by n ys) b (omega (arith, ap length y, ap length z, ap length same)) in
    sym (z ∙ (ap (λ l. made_by n ys ++ l) none ∙ append-nil (made_by n ys)))

-- an event is one pass's own at most
pub not_own : (n m : ℕ) (e : Event) → m ≢ n → (is_own n e ≡ true) ⊎ (is_final e ≡ true) → is_own m e ≡ false
not_own n m e ne h = go (is_final e) h refl
  where
    go : (b : Bool) → (cond b false (owner e == n) ≡ true) ⊎ (b ≡ true) → is_final e ≡ b → cond b false (owner e == m) ≡ false
    go true h is = refl
    go false h is = ⊎_elim (λ own. let at : owner e ≡ n = grind (arith, nat_tests) in ne_eqb (owner e) m (λ same. ne (sym same ∙ at))) (λ f. absurd (true≢false (sym f))) h

pub own_owner : (n : ℕ) (e : Event) → (is_own n e ≡ true) ⊎ (is_final e ≡ true) → is_final e ≡ false → owner e ≡ n
own_owner n e h is = ⊎_elim (λ own. let t : (owner e == n) ≡ true = subst (λ b. cond b false (owner e == n) ≡ true) is own in grind (arith, nat_tests)) (λ f. absurd (true≢false (sym f ∙ is))) h

pub has_final-snoc : (xs : List Event) (e : Event) → has_final (xs ++ e ∷ []) ≡ true → (has_final xs ≡ true) ⊎ (is_final e ≡ true)
has_final-snoc [] e h = inr (or_false (is_final e) h)
  where
    or_false : (b : Bool) → (b || false) ≡ true → b ≡ true
    or_false true h = refl
    or_false false h = h
has_final-snoc (x ∷ xs) e h = go (is_final x) (λ l. has_final-snoc xs e l) h
  where
    go : (b : Bool) → (has_final (xs ++ e ∷ []) ≡ true → (has_final xs ≡ true) ⊎ (is_final e ≡ true)) → (b || has_final (xs ++ e ∷ [])) ≡ true → ((b || has_final xs) ≡ true) ⊎ (is_final e ≡ true)
    go true rec h = inl refl
    go false rec h = rec h

pub ends_final-snoc : (xs : List Event) (e : Event) → ends_final (xs ++ e ∷ []) ≡ is_final e
ends_final-snoc [] e = refl
ends_final-snoc (x ∷ []) e = refl
ends_final-snoc (x ∷ y ∷ xs) e = ends_final-snoc (y ∷ xs) e

-- no event of a pass that is not made yet
pub made_by_none : (n : ℕ) (xs : List Event) → ((i : ℕ) (e : Event) → get_elem? xs i ≡ some e → is_final e ≡ false → owner e < n) → (k : ℕ) → positions (is_own n) k xs ≡ []
made_by_none n [] h k = refl
made_by_none n (x ∷ xs) h k =
    let rec = made_by_none n xs (λ i e at. h (suc i) e at) (suc k) in
    let off : is_own n x ≡ false = go (is_final x) refl in
    ap (λ b. cond b (k ∷ positions (is_own n) (suc k) xs) (positions (is_own n) (suc k) xs)) off ∙ rec
  where
    go : (b : Bool) → is_final x ≡ b → cond b false (owner x == n) ≡ false
    go true is = refl
    go false is = let lt = h 0 x refl is in ne_eqb (owner x) n (λ same. omega arith)

pub positions-has : (p : Event → Bool) (k : ℕ) (xs : List Event) (i : ℕ) (e : Event) → get_elem? xs i ≡ some e → p e ≡ true → (j : ℕ) × (get_elem? (positions p k xs) j ≡ some (k + i))
positions-has p k [] i e at own_it = absurd (some-ne-none e (sym at))
positions-has p k (x ∷ xs) zero e at own_it =
    let own : p x ≡ true = ap p (some-injective x e at) ∙ own_it in
    let z : k ≡ k + 0 = omega arith in
    (0, ap (λ b. get_elem? (cond b (k ∷ positions p (suc k) xs) (positions p (suc k) xs)) 0) own ∙ ap (λ (n : ℕ). some n) z)
positions-has p k (x ∷ xs) (suc i) e at own_it =
    let t = positions-has p (suc k) xs i e at own_it in
    let n : suc k + i ≡ k + suc i = omega arith in
    let here = t.1 ∙ ap (λ (m : ℕ). some m) n in
    go (p x) t.0 here
  where
    go : (b : Bool) (j : ℕ) → get_elem? (positions p (suc k) xs) j ≡ some (k + suc i) → (j : ℕ) × (get_elem? (cond b (k ∷ positions p (suc k) xs) (positions p (suc k) xs)) j ≡ some (k + suc i))
    go true j here = (suc j, here)
    go false j here = (j, here)

pub positions-are : (p : Event → Bool) (k : ℕ) (xs : List Event) (j n : ℕ) → get_elem? (positions p k xs) j ≡ some n → (i : ℕ) × (e : Event) × (n ≡ k + i) × (get_elem? xs i ≡ some e) × (p e ≡ true)
positions-are p k [] j n at = absurd (some-ne-none n (sym at))
positions-are p k (x ∷ xs) j n at = go (p x) refl j at (λ j at. positions-are p (suc k) xs j n at)
  where
    go : (b : Bool) → p x ≡ b → (j : ℕ) → get_elem? (cond b (k ∷ positions p (suc k) xs) (positions p (suc k) xs)) j ≡ some n
        → ((j : ℕ) → get_elem? (positions p (suc k) xs) j ≡ some n → (i : ℕ) × (e : Event) × (n ≡ suc k + i) × (get_elem? xs i ≡ some e) × (p e ≡ true))
        → (i : ℕ) × (e : Event) × (n ≡ k + i) × (get_elem? (x ∷ xs) i ≡ some e) × (p e ≡ true)
    go true own zero at rec = let m : k ≡ n = some-injective k n at in (0, x, omega arith, refl, own)
    go true own (suc j) at rec = let t = rec j at in (suc t.0, t.1, (let q = t.2 in omega arith), t.3, t.4)
    go false own j at rec = let t = rec j at in (suc t.0, t.1, (let q = t.2 in omega arith), t.3, t.4)

pub own_by-append : (n : ℕ) (xs ys : List Event) → own_by n (xs ++ ys) ≡ own_by n xs ++ own_by n ys
own_by-append n [] ys = refl
own_by-append n (x ∷ xs) ys =
    let rec : own_by n (xs ++ ys) ≡ own_by n xs ++ own_by n ys = own_by-append n xs ys in
    elim (is_own n x) as (λ b. cond b (x ∷ own_by n (xs ++ ys)) (own_by n (xs ++ ys)) ≡ cond b (x ∷ own_by n xs) (own_by n xs) ++ own_by n ys)
    [ true ↦ ap (λ l. x ∷ l) rec | false ↦ rec ]

own_by_none : (n k : ℕ) (ys : List Event) → positions (is_own n) k ys ≡ [] → own_by n ys ≡ []
own_by_none n k [] h = refl
own_by_none n k (y ∷ ys) h = go (is_own n y) h (λ t. own_by_none n (suc k) ys t)
  where
    go : (b : Bool) → cond b (k ∷ positions (is_own n) (suc k) ys) (positions (is_own n) (suc k) ys) ≡ [] → (positions (is_own n) (suc k) ys ≡ [] → own_by n ys ≡ []) → cond b (y ∷ own_by n ys) (own_by n ys) ≡ []
    go true h rec = absurd cc
    go false h rec = rec h

-- a history with no more positions of a pass has no more of its events
pub own_by_same : (n : ℕ) (xs ys : List Event) → IsPrefix xs ys → made_by n xs ≡ made_by n ys → own_by n ys ≡ own_by n xs
own_by_same n xs ys p same =
    let a = positions (is_own n) (length xs) p.0 in
    let y : made_by n ys ≡ made_by n xs ++ a = ap (made_by n) (sym p.1) ∙ made_by-append n xs p.0 in
    let none : a ≡ [] = append_none (made_by n xs) a (omega (arith, ap length y, ap length same)) in
    ap (own_by n) (sym p.1) ∙ (own_by-append n xs p.0 ∙ (ap (λ l. own_by n xs ++ l) (own_by_none n (length xs) p.0 none) ∙ append-nil (own_by n xs)))
