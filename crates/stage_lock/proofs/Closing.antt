-- What the passes have seen and made is of one history, once all were taken in.
use Rattle.std.proofs.Common.{◌≡◌, ℕ, zero, suc, ◌+◌, ◌<◌, true, false, List, [], ◌∷◌, ◌++◌, length, map, refl, sym, ap, subst, ◌∙◌, arith, cond, eqb, eq-eqb, inl, ⊎_elim}
use mathlib.Core.List.{IsPrefix}
use mathlib.Core.Option.{some, some-injective, some-ne-none}
use lib.ListN.{get_elem?}
use Rattle.atomic_table.specs.Seated.{TableId}
use Rattle.atomic_table.proofs.Lists.{at_last, at_longer}
use Rattle.play_types.specs.declared.event.Event.{Event}
use Rattle.stage_core.specs.Stage.{StageView}
use Rattle.stage_lock.specs.Own.{is_final, is_own, made_by, owner}
use Rattle.stage_lock.specs.Views.{PassView, SharedView, Sizes, stage_of}
use Rattle.stage_lock.specs.Closing.{AreAll, Closes, IsLeft, IsOf, SomeEnds, StandsOnce}
use Rattle.stage_lock.specs.Seats.{KeptPass, SeatView, holding, kept_of, pass_view}
use Rattle.stage_lock.specs.Rule.{IsTold, Seat, WhoEnded, by_another, by_itself, by_one_kept}
use Rattle.stage_lock.specs.Steps.{HasTaken, HasWon}
use Rattle.stage_lock.proofs.Prefixes.{prefix_trans}
use Rattle.stage_lock.proofs.Positions.{own_owner, positions-are, positions-has}
use Rattle.stage_lock.proofs.Views.{at_new}
use Rattle.stage_lock.proofs.Counting.{all_below}

at_map : {A B : Type 0} (f : A → B) (l : List A) (i : ℕ) (a : A) → get_elem? l i ≡ some a → get_elem? (map f l) i ≡ some (f a)
at_map f [] i a e = absurd (some-ne-none a (sym e))
at_map f (x ∷ xs) zero a e = ap (λ y. some (f y)) (some-injective x a e)
at_map f (x ∷ xs) (suc i) a e = at_map f xs i a e

at_mapped : {A B : Type 0} (f : A → B) (l : List A) (i : ℕ) (b : B) → get_elem? (map f l) i ≡ some b → (a : A) × (get_elem? l i ≡ some a) × (f a ≡ b)
at_mapped f [] i b e = absurd (some-ne-none b (sym e))
at_mapped f (x ∷ xs) zero b e = (x, refl, some-injective (f x) b e)
at_mapped f (x ∷ xs) (suc i) b e = at_mapped f xs i b e

length_map : {A B : Type 0} (f : A → B) (l : List A) → length (map f l) ≡ length l
length_map f [] = refl
length_map f (x ∷ xs) = ap suc (length_map f xs)

-- what is left of the passes: the last one, with the others taken in, and the history that it found
pub record IsClosing (stage : SharedView) (qs : List PassView) (p : PassView) (v : SeatView) (log : List Event) : Type 0 where
  pub all : AreAll stage (qs ++ p ∷ [])
  pub own : kept_of p ≡ record { number = v.number; made = v.made; ends = v.ends }
  pub sizes : v.sizes ≡ stage.sizes
  pub kept : v.kept ≡ map kept_of qs
  pub seen : (i : ℕ) (q : PassView) → get_elem? (qs ++ p ∷ []) i ≡ some q → IsPrefix q.seen log
  pub told : IsTold (record v { seen = log })

module _ (stage : SharedView) (qs : List PassView) (p : PassView) (v : SeatView) (log : List Event) (c : IsClosing stage qs p v log) where
  abbrev passes : List PassView
  passes = qs ++ p ∷ []

  many : v.sizes.passes ≡ length passes
  many = ap (λ s. s.passes) c.sizes ∙ sym c.all.many

  number : p.number ≡ v.number
  number = ap (λ (k : KeptPass). k.number) c.own

  is_kept : (i : ℕ) (q : PassView) → get_elem? qs i ≡ some q → get_elem? v.kept i ≡ some (kept_of q)
  is_kept i q at = subst (λ (l : List KeptPass). get_elem? l i ≡ some (kept_of q)) (sym c.kept) (at_map kept_of qs i q at)

  each_is : (i : ℕ) (q : PassView) → get_elem? passes i ≡ some q → IsOf log (length passes) q
  each_is i q at =
      ⊎_elim
      (λ (old : get_elem? qs i ≡ some q).
      let k = c.told.kept i (kept_of q) (is_kept i q old) in
      record { seen = c.seen i q at; made = k.made; number = subst (λ (n : ℕ). q.number < n) many k.number })
      (λ (new : (i ≡ length qs) × (p ≡ q)).
      let is : kept_of q ≡ record { number = v.number; made = v.made; ends = v.ends } = ap kept_of (sym new.1) ∙ c.own in
      let n : q.number ≡ v.number = ap (λ (k : KeptPass). k.number) is in
      record {
        seen = c.seen i q at;
        made = ap (λ (k : KeptPass). k.made) is ∙ (c.told.made ∙ ap (λ (k : ℕ). made_by k log) (sym n));
        number = subst (λ (k : ℕ). k < length passes) (sym n) (subst (λ (m : ℕ). v.number < m) many c.told.number);
      })
      (at_new qs p q i at)

  apart : (i j : ℕ) (q r : PassView) → get_elem? passes i ≡ some q → get_elem? passes j ≡ some r → q.number ≡ r.number → i ≡ j
  apart i j q r at at' n =
      ⊎_elim
      (λ (old : get_elem? qs i ≡ some q). ⊎_elim
      (λ (old' : get_elem? qs j ≡ some r). c.told.both i j (kept_of q) (kept_of r) (is_kept i q old) (is_kept j r old') n)
      (λ (new' : (j ≡ length qs) × (p ≡ r)). absurd (c.told.apart i (kept_of q) (is_kept i q old) (n ∙ (ap (λ (x : PassView). x.number) (sym new'.1) ∙ number))))
      (at_new qs p r j at'))
      (λ (new : (i ≡ length qs) × (p ≡ q)). ⊎_elim
      (λ (old' : get_elem? qs j ≡ some r). absurd (c.told.apart j (kept_of r) (is_kept j r old') (sym n ∙ (ap (λ (x : PassView). x.number) (sym new.1) ∙ number))))
      (λ (new' : (j ≡ length qs) × (p ≡ r)). new.0 ∙ sym new'.0)
      (at_new qs p r j at'))
      (at_new qs p q i at)

  -- each number below that of the passes is that of a pass
  numbered : (n : ℕ) → n < length passes → (k : ℕ) × (q : PassView) × (get_elem? passes k ≡ some q) × (q.number ≡ n)
  numbered n lt =
      let num : PassView → ℕ = λ q. q.number in
      let long : length (map num passes) ≡ length passes = length_map num passes in
      let t = all_below (map num passes) n
      (λ i j x e e'.
      let a = at_mapped num passes i x e in
      let b = at_mapped num passes j x e' in
      apart i j a.0 b.0 a.1 b.1 (a.2 ∙ sym b.2))
      (λ i x e. let a = at_mapped num passes i x e in let lt' = (each_is i a.0 a.1).number in let same : a.0.number ≡ x = a.2 in omega (arith, long))
      (omega (arith, long)) in
      let a = at_mapped num passes t.0 n t.1 in (t.0, a.0, a.1, a.2)

  own_of : (e : Event) → is_final e ≡ false → is_own (owner e) e ≡ true
  own_of e is = ap (λ b. cond b false (eqb (owner e) (owner e))) is ∙ eq-eqb (owner e) (owner e) refl

  once : (i : ℕ) (e : Event) → get_elem? log i ≡ some e → is_final e ≡ false → StandsOnce i passes
  once i e at plain =
      let t = numbered (owner e) (subst (λ (n : ℕ). owner e < n) many (c.told.owned i e at plain)) in
      let made : t.1.made ≡ made_by (owner e) log = (each_is t.0 t.1 t.2).made ∙ ap (λ (k : ℕ). made_by k log) t.3 in
      let h = positions-has (is_own (owner e)) 0 log i e at (own_of e plain) in
      let n : 0 + i ≡ i = omega arith in
      record {
        k = t.0;
        stands = record { pass = t.1; at = t.2; place = h.0; made = subst (λ (l : List ℕ). get_elem? l h.0 ≡ some i) (sym made) (h.1 ∙ ap (λ (k : ℕ). some k) n) };
        only = λ other s.
            let made' = (each_is other s.pass s.at).made in
            let u = positions-are (is_own s.pass.number) 0 log s.place i (subst (λ (l : List ℕ). get_elem? l s.place ≡ some i) made' s.made) in
            let m : u.0 ≡ i = let x = u.2 in omega arith in
            let same : u.1 ≡ e = some-injective u.1 e (sym u.3 ∙ (ap (λ (k : ℕ). get_elem? log k) m ∙ at)) in
            let is : owner e ≡ s.pass.number = own_owner s.pass.number e (inl (ap (is_own s.pass.number) (sym same) ∙ u.4)) plain in
            apart other t.0 s.pass t.1 s.at t.2 (sym is ∙ sym t.3);
      }

  some_ends : WhoEnded (record v { seen = log }) → SomeEnds passes
  some_ends (by_itself e) = record { k = length qs; pass = p; at = at_last qs p (length qs) refl; ends = ap (λ (k : KeptPass). k.ends) c.own ∙ e }
  some_ends (by_one_kept i k at e) =
      let t = at_mapped kept_of qs i k (subst (λ (l : List KeptPass). get_elem? l i ≡ some k) c.kept at) in
      record { k = i; pass = t.0; at = at_longer qs (p ∷ []) i t.0 t.1; ends = ap (λ (x : KeptPass). x.ends) t.2 ∙ e }
  some_ends (by_another n h) =
      let t = numbered n (subst (λ (m : ℕ). n < m) many h.number) in
      absurd (⊎_elim
      (λ (old : get_elem? qs t.0 ≡ some t.1). h.not_kept t.0 (kept_of t.1) (is_kept t.0 t.1 old) t.3)
      (λ (new : (t.0 ≡ length qs) × (p ≡ t.1)). h.other (sym t.3 ∙ (ap (λ (x : PassView). x.number) (sym new.1) ∙ number)))
      (at_new qs p t.1 t.0 t.2))

  closing : Closes passes log
  closing = record { each = each_is; once = once; ends = λ f. some_ends (c.told.ended f) }

-- the passes are closed: the last one has taken in the others, has won the turn, and has read the length
pub closes : (stage : SharedView) (ps qs : List PassView) (p : PassView) (t : TableId) (v : SeatView) (m n : Seat) (c : StageView) → AreAll stage ps → ps ≡ qs ++ p ∷ [] → pass_view t v ≡ p
    → HasTaken qs v m.0 → HasWon m c n → IsTold n.0 → IsLeft stage ps c
closes stage ps qs p t v m n c all all_are is taken won told =
    let log : List Event = won.log in
    let told' : IsTold (holding m.0 log) = subst IsTold (ap (λ (x : Seat). x.0) won.after) told in
    let all' : AreAll stage (qs ++ p ∷ []) = subst (AreAll stage) all_are all in
    let w : SeatView = holding m.0 log in
    let own : kept_of p ≡ record { number = w.number; made = w.made; ends = w.ends } = ap kept_of (sym is) ∙ sym (λ i. record { number = (taken.after i).number; made = (taken.after i).made; ends = (taken.after i).ends }) in
    let first : p.stage ≡ stage = all'.each (length qs) p (at_last qs p (length qs) refl) in
    let sizes : w.sizes ≡ stage.sizes = ap (λ (x : SeatView). x.sizes) taken.after ∙ (ap (λ (x : PassView). x.stage.sizes) is ∙ ap (λ (s : SharedView). s.sizes) first) in
    let closed : Closes ps log =
    subst (λ (l : List PassView). Closes l log) (sym all_are)
    (closing stage qs p w log record {
      all = all';
      own = own;
      sizes = sizes;
      kept = ap (λ (x : SeatView). x.kept) taken.after;
      seen = λ i q at. ⊎_elim
          (λ (old : get_elem? qs i ≡ some q). prefix_trans q.seen m.0.seen log (taken.each i q old) won.seen)
          (λ (new : (i ≡ length qs) × (p ≡ q)). subst (λ (x : PassView). IsPrefix x.seen log) (is ∙ new.1) (prefix_trans v.seen m.0.seen log taken.seen won.seen))
          (at_new qs p q i at);
      told = told';
    }) in
    record { history = log; whole = won.whole ∙ ap (λ (s : Sizes). stage_of s log) sizes; closes = closed }
