-- The views of a table: which of them are passes, and what those keep, as views are set or added.
use Rattle.std.proofs.Common.{◌≡◌, ◌≢◌, ◌⊎◌, ℕ, zero, suc, ◌<◌, true, false, true≢false, List, [], ◌∷◌, ◌++◌, length, set, get_or, refl, sym, ap, ◌∙◌, subst, inl, inr, ⊎_elim, arith}
use mathlib.Core.Logic.{dite}
use mathlib.Core.Option.{some, some-ne-none, some-injective}
use native.Mathlib.Decide.{ℕ_discrete}
use lib.ListN.{get_elem?}
use Rattle.atomic_table.proofs.Lists.{at_set, at_longer, set_else}
use Rattle.stage_lock.specs.Seats.{KeptPass, SeatView}
use Rattle.stage_lock.specs.Rule.{AreApart, IsAt, Keeps, SomeoneEnded, by_kept, by_pass}

pub off : {A : Type 0} → false ≡ true → A
off e = absurd (true≢false (sym e))

pub set_at : {A : Type 0} (l : List A) (i : ℕ) (a b : A) → get_elem? l i ≡ some a → get_elem? (set l i b) i ≡ some b
set_at [] i a b e = absurd (some-ne-none a (sym e))
set_at (x ∷ xs) zero a b e = refl
set_at (x ∷ xs) (suc i) a b e = set_at xs i a b e

pub set_same : (ws : List ℕ) (i : ℕ) → set ws i (get_or ws i 0) ≡ ws
set_same [] i = refl
set_same (x ∷ xs) zero = refl
set_same (x ∷ xs) (suc i) = ap (λ l. x ∷ l) (set_same xs i)

pub one_home : {A : Type 0} (hs : List A) (a : A) → 0 < length hs → get_elem? (set hs 0 a) 0 ≡ some a
one_home [] a h = absurd (omega arith)
one_home (x ∷ xs) a h = refl

pub at_one : {A : Type 0} (l : List A) (i : ℕ) (a b : A) → get_elem? l i ≡ some a → get_elem? l i ≡ some b → a ≡ b
at_one l i a b p q = some-injective a b (sym p ∙ q)

-- the elements of a list with one more at its end
pub at_new : {A : Type 0} (l : List A) (a b : A) (j : ℕ) → get_elem? (l ++ a ∷ []) j ≡ some b → (get_elem? l j ≡ some b) ⊎ ((j ≡ length l) × (a ≡ b))
at_new [] a b zero e = inr (refl, some-injective a b e)
at_new [] a b (suc j) e = absurd (some-ne-none b (sym e))
at_new (x ∷ xs) a b zero e = inl e
at_new (x ∷ xs) a b (suc j) e = ⊎_elim (λ p. inl p) (λ (t : (j ≡ length xs) × (a ≡ b)). inr (ap suc t.0, t.1)) (at_new xs a b j e)

-- each pass of the views `now` was one of the views `before`, with its number and what it keeps
abbrev pub WasPass : List SeatView → List SeatView → Type 0
WasPass now before = (j : ℕ) (u : SeatView) → IsAt now j u → (x : SeatView) × IsAt before j x × (u.number ≡ x.number) × (u.kept ≡ x.kept)

-- each pass of the views `before` is one of the views `now`, with what it keeps, and has ended if it had
abbrev pub IsPassStill : List SeatView → List SeatView → Type 0
IsPassStill before now = (j : ℕ) (x : SeatView) → IsAt before j x → (u : SeatView) × IsAt now j u × (x.ends ≡ true → u.ends ≡ true) × (u.kept ≡ x.kept)

pub kept_before : (now before : List SeatView) → WasPass now before → (i a : ℕ) (k : KeptPass) → Keeps now i a k → Keeps before i a k
kept_before now before was i a k h =
    let t = was i h.v h.at in record { v = t.0; at = t.1; kept = subst (λ (l : List KeptPass). get_elem? l a ≡ some k) t.3 h.kept }

pub apart_still : (now before : List SeatView) → WasPass now before → AreApart before → AreApart now
apart_still now before was r = record {
  passes = λ i j v w x y n.
      let a = was i v x in
      let b = was j w y in
      r.passes i j a.0 b.0 a.1 b.1 (sym a.2 ∙ (n ∙ b.2));
  kept = λ i a j k w h y n. let b = was j w y in r.kept i a j k b.0 (kept_before now before was i a k h) b.1 (n ∙ b.2);
  both = λ i a j b k l h h' n. r.both i a j b k l (kept_before now before was i a k h) (kept_before now before was j b l h') n;
}

pub ended_still : (now before : List SeatView) → IsPassStill before now → SomeoneEnded before → SomeoneEnded now
ended_still now before still (by_pass j v at ends) = let t = still j v at in by_pass j t.0 t.1 (t.2 ends)
ended_still now before still (by_kept j i k h ends) =
    let t = still j h.v h.at in
    by_kept j i k (record { v = t.0; at = t.1; kept = subst (λ (l : List KeptPass). get_elem? l i ≡ some k) (sym t.3) h.kept }) ends

pub was_set : (views : List SeatView) (id : ℕ) (v w : SeatView) → get_elem? views id ≡ some v
    → (w.is_pass ≡ true → (v.is_pass ≡ true) × (w.number ≡ v.number) × (w.kept ≡ v.kept)) → WasPass (set views id w) views
was_set views id v w at pass j u a =
    ⊎_elim
    (λ (t : (j ≡ id) × (w ≡ u)).
    let q = pass (ap (λ (z : SeatView). z.is_pass) t.1 ∙ a.pass) in
    (v, record { at = subst (λ (k : ℕ). get_elem? views k ≡ some v) (sym t.0) at; pass = q.0 }, ap (λ (z : SeatView). z.number) (sym t.1) ∙ q.1, ap (λ (z : SeatView). z.kept) (sym t.1) ∙ q.2))
    (λ (t : (j ≢ id) × (get_elem? views j ≡ some u)). (u, record { at = t.1; pass = a.pass }, refl, refl))
    (at_set views id j w u a.at)

pub still_set : (views : List SeatView) (id : ℕ) (v w : SeatView) → get_elem? views id ≡ some v → w.is_pass ≡ v.is_pass → (v.ends ≡ true → w.ends ≡ true)
    → w.kept ≡ v.kept → IsPassStill views (set views id w)
still_set views id v w at pass ends kept j x a =
    dite (ℕ_discrete j id)
    (λ same.
    let is : v ≡ x = at_one views id v x at (subst (λ (k : ℕ). get_elem? views k ≡ some x) same a.at) in (
      w,
      record { at = subst (λ (k : ℕ). get_elem? (set views id w) k ≡ some w) (sym same) (set_at views id v w at); pass = pass ∙ (ap (λ (z : SeatView). z.is_pass) is ∙ a.pass) },
      (λ e. ends (ap (λ (z : SeatView). z.ends) is ∙ e)),
      kept ∙ ap (λ (z : SeatView). z.kept) is,
    ))
    (λ other. (x, record { at = set_else views id j w other ∙ a.at; pass = a.pass }, (λ e. e), refl))

-- a view that is no pass's is set
pub still_else : (views : List SeatView) (id : ℕ) (v w : SeatView) → get_elem? views id ≡ some v → v.is_pass ≡ false → IsPassStill views (set views id w)
still_else views id v w at note j x a =
    dite (ℕ_discrete j id)
    (λ same. let is : v ≡ x = at_one views id v x at (subst (λ (k : ℕ). get_elem? views k ≡ some x) same a.at) in off (sym note ∙ (ap (λ (z : SeatView). z.is_pass) is ∙ a.pass)))
    (λ other. (x, record { at = set_else views id j w other ∙ a.at; pass = a.pass }, (λ e. e), refl))

pub still_more : (views : List SeatView) (w : SeatView) → IsPassStill views (views ++ w ∷ [])
still_more views w j x a = (x, record { at = at_longer views (w ∷ []) j x a.at; pass = a.pass }, (λ e. e), refl)

-- a property of each view holds after one view is set
pub each_set : (P : ℕ → SeatView → Type 0) (views : List SeatView) (id : ℕ) (w : SeatView) → P id w → ((j : ℕ) (u : SeatView) → j ≢ id → get_elem? views j ≡ some u → P j u)
    → (j : ℕ) (u : SeatView) → get_elem? (set views id w) j ≡ some u → P j u
each_set P views id w mine others j u e =
    ⊎_elim
    (λ (t : (j ≡ id) × (w ≡ u)). subst (λ (z : ℕ × SeatView). P z.0 z.1) (λ i. (sym t.0 i, t.1 i)) mine)
    (λ (t : (j ≢ id) × (get_elem? views j ≡ some u)). others j u t.0 t.1)
    (at_set views id j w u e)
