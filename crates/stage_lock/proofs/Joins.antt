-- Seats are split and joined, and the rule is kept.
use Rattle.std.proofs.Common.{◌≡◌, ◌≢◌, ℕ, zero, suc, ◌+◌, ◌<◌, ◌≤◌, Bool, true, false, cond, nat_lt, List, [], ◌∷◌, ◌++◌, length, set, get_or, refl, sym, ap, ◌∙◌, subst, ⊎_elim, arith}
use mathlib.Core.Logic.{dite}
use mathlib.Core.Option.{some, some-ne-none, some-injective}
use mathlib.Core.List.{IsPrefix}
use native.Mathlib.Decide.{ℕ_discrete}
use lib.ListN.{get_elem?}
use Rattle.std.proofs.lemmas.Bool.Decides.{nat_tests}
use Rattle.atomic_table.specs.Table.{Joins, Splits}
use Rattle.atomic_table.proofs.Lists.{at_set, set_again, set_else}
use Rattle.play_types.specs.declared.event.Event.{Event}
use Rattle.stage_lock.specs.Own.{owner}
use Rattle.stage_lock.specs.Views.{Sizes}
use Rattle.stage_lock.specs.Calls.{longer}
use Rattle.stage_lock.specs.Seats.{KeptPass, SeatView, absorbed, enrolled, kept_seat, met, newcomer, noted, spent}
use Rattle.stage_lock.specs.Rule.{AreApart, Fits, IsAt, IsKept, Keeps, Moment, Ruled, SomeoneEnded, by_kept, by_pass}
use Rattle.stage_lock.proofs.Prefixes.{prefix_self, prefix_shorter}
use Rattle.stage_lock.proofs.Positions.{made_by_between, made_by_none}
use Rattle.stage_lock.proofs.Views.{WasPass, apart_still, at_new, at_one, each_set, ended_still, kept_before, off, set_at, still_else, still_more, still_set, was_set}
use Rattle.stage_lock.proofs.Keeps.{retold}

-- the numbers still differ if a pass with a greater number is added, which keeps none
apart_more : (views : List SeatView) (u : SeatView) → AreApart views → u.kept ≡ [] → ((j : ℕ) (x : SeatView) → IsAt views j x → x.number < u.number)
    → ((j i : ℕ) (k : KeptPass) → Keeps views j i k → k.number < u.number) → AreApart (views ++ u ∷ [])
apart_more views u r none_kept below kept_below = record {
  passes = λ i j v w x y n. ⊎_elim
      (λ (old : get_elem? views i ≡ some v). ⊎_elim
      (λ (old' : get_elem? views j ≡ some w). r.passes i j v w (record { at = old; pass = x.pass }) (record { at = old'; pass = y.pass }) n)
      (λ (new' : (j ≡ length views) × (u ≡ w)).
      let lt = below i v (record { at = old; pass = x.pass }) in
      let is : u.number ≡ w.number = ap (λ (z : SeatView). z.number) new'.1 in
      absurd (omega (arith, n)))
      (at_new views u w j y.at))
      (λ (new : (i ≡ length views) × (u ≡ v)). ⊎_elim
      (λ (old' : get_elem? views j ≡ some w).
      let lt = below j w (record { at = old'; pass = y.pass }) in
      let is : u.number ≡ v.number = ap (λ (z : SeatView). z.number) new.1 in
      absurd (omega (arith, n)))
      (λ (new' : (j ≡ length views) × (u ≡ w)). new.0 ∙ sym new'.0)
      (at_new views u w j y.at))
      (at_new views u v i x.at);
  kept = λ i a j k w h y n. ⊎_elim
      (λ (old : get_elem? views j ≡ some w). r.kept i a j k w (before i a k h) (record { at = old; pass = y.pass }) n)
      (λ (new : (j ≡ length views) × (u ≡ w)).
      let lt = kept_below i a k (before i a k h) in
      let is : u.number ≡ w.number = ap (λ (z : SeatView). z.number) new.1 in
      absurd (omega (arith, n)))
      (at_new views u w j y.at);
  both = λ i a j b k l h h' n. r.both i a j b k l (before i a k h) (before j b l h') n;
}
  where
    before : (i a : ℕ) (k : KeptPass) → Keeps (views ++ u ∷ []) i a k → Keeps views i a k
    before i a k h = ⊎_elim
        (λ (old : get_elem? views i ≡ some h.v). record { v = h.v; at = record { at = old; pass = h.at.pass }; kept = h.kept })
        (λ (new : (i ≡ length views) × (u ≡ h.v)). absurd (some-ne-none k (sym (subst (λ (l : List KeptPass). get_elem? l a ≡ some k) (sym (ap (λ (z : SeatView). z.kept) new.1) ∙ none_kept) h.kept))))
        (at_new views u h.v i h.at.at)

-- pass 0 makes one more pass
pub enrolls : (sizes : Sizes) (id : ℕ) (v : SeatView) → v.is_pass ≡ true → v.number ≡ 0 → v.count < v.sizes.passes
    → Splits (Ruled sizes) id v (enrolled v) (newcomer v.sizes v.count)
enrolls sizes id v pass zeroth more s r at =
    let w : SeatView = enrolled v in
    let u : SeatView = newcomer v.sizes v.count in
    let t : ℕ = get_or s.words 1 0 in
    let f = r.each id v at in
    let p = f.pass pass in
    let same : v.count ≡ r.count = p.count zeroth in
    let many : v.number < r.count = p.number in
    let few : v.sizes.passes ≡ sizes.passes = ap (λ (z : Sizes). z.passes) p.same in
    let first = set s.views id w in
    let now : Moment = record { log = r.log; turn = t; by = r.by; count = r.count + 1 } in
    let mine' : IsAt s.views id v = record { at = at; pass = pass } in
    let back : WasPass first s.views = was_set s.views id v w at (λ p. (pass, refl, refl)) in
    let wider : (k : KeptPass) → IsKept r.log r.count k → IsKept r.log (r.count + 1) k = λ k q. record { made = q.made; number = let lt = q.number in omega arith } in
    let mine : Fits sizes now id w = record {
      seen = f.seen;
      olds = f.olds;
      pass = λ _. record { same = p.same; made = p.made; made_seen = p.made_seen; number = omega arith; count = λ _. ap (λ n. n + 1) same; kept = λ i k e. wider k (p.kept i k e) };
      holds = λ x. let h = f.holds x in record { turn = h.turn; by = h.by; seen = h.seen; pass = h.pass };
    } in
    let others : (j : ℕ) (x : SeatView) → j ≢ id → get_elem? s.views j ≡ some x → Fits sizes now j x = λ j x ne e. let g = r.each j x e in record {
      seen = g.seen;
      olds = g.olds;
      pass = λ y.
          let q = g.pass y in
          let a : IsAt s.views j x = record { at = e; pass = y } in
          record { same = q.same; made = q.made; made_seen = q.made_seen; number = let lt = q.number in omega arith; count = λ z. absurd (ne (r.apart.passes j id x v a mine' (z ∙ sym zeroth))); kept = λ i k e'. wider k (q.kept i k e') };
      holds = λ y. let h = g.holds y in record { turn = h.turn; by = h.by; seen = h.seen; pass = h.pass };
    } in
    let entering : (j : ℕ) → Fits sizes now j u = λ j. record {
      seen = (r.log, refl);
      olds = λ i o e. absurd (some-ne-none o (sym e));
      pass = λ _. record {
        same = p.same;
        made = sym (made_by_none v.count r.log (λ i e a is. subst (λ (n : ℕ). owner e < n) (sym same) (r.owned i e a is)) 0);
        made_seen = refl;
        number = omega arith;
        count = λ z. absurd (let z' : v.count ≡ 0 = z in omega arith);
        kept = λ i k e. absurd (some-ne-none k (sym e));
      };
      holds = λ e. off e;
    } in
    record {
      log = r.log;
      by = r.by;
      count = r.count + 1;
      wide = r.wide;
      counted = r.counted;
      few = omega arith;
      each = λ j x e. ⊎_elim
          (λ (old : get_elem? first j ≡ some x). each_set (Fits sizes now) s.views id w mine others j x old)
          (λ (new : (j ≡ length first) × (u ≡ x)). subst (Fits sizes now j) new.1 (entering j))
          (at_new first u x j e);
      apart = apart_more first u (apart_still first s.views back r.apart) refl
          (λ j x a. let b = back j x a in let lt = ((r.each j b.0 b.1.at).pass b.1.pass).number in let n : x.number ≡ b.0.number = b.2 in omega arith)
          (λ j i k h. let b = kept_before first s.views back j i k h in let lt = (((r.each j b.v b.at.at).pass b.at.pass).kept i k b.kept).number in omega arith);
      owned = λ i e x is. let lt = r.owned i e x is in omega arith;
      ended = λ l. ended_still (first ++ u ∷ []) first (still_more first u) (ended_still first s.views (still_set s.views id v w at refl (λ y. y) refl) (r.ended l));
      home = r.home;
    }

-- a note of what was seen is made
pub notes : (sizes : Sizes) (id : ℕ) (v : SeatView) → Splits (Ruled sizes) id v v (noted v.sizes v.seen)
notes sizes id v s r at =
    let u : SeatView = noted v.sizes v.seen in
    let t : ℕ = get_or s.words 1 0 in
    let now : Moment = record { log = r.log; turn = t; by = r.by; count = r.count } in
    let same : set s.views id v ≡ s.views = set_again s.views id v at in
    let entering : (j : ℕ) → Fits sizes now j u = λ j. record {
      seen = (r.each id v at).seen;
      olds = λ i o e. absurd (some-ne-none o (sym e));
      pass = λ e. off e;
      holds = λ e. off e;
    } in
    let R : List SeatView → Type 0 = λ vs. Ruled sizes record { words = s.words; homes = s.homes; views = vs ++ u ∷ [] } in
    let back : WasPass (s.views ++ u ∷ []) s.views = λ j x a. ⊎_elim
    (λ (old : get_elem? s.views j ≡ some x). (x, record { at = old; pass = a.pass }, refl, refl))
    (λ (new : (j ≡ length s.views) × (u ≡ x)). off (ap (λ (z : SeatView). z.is_pass) new.1 ∙ a.pass))
    (at_new s.views u x j a.at) in
    subst R (sym same) (
    retold sizes s r (s.views ++ u ∷ []) back s.words s.homes r.log r.by r.wide r.counted
    (λ j x e. ⊎_elim (λ (old : get_elem? s.views j ≡ some x). r.each j x old) (λ (new : (j ≡ length s.views) × (u ≡ x)). subst (Fits sizes now j) new.1 (entering j)) (at_new s.views u x j e))
    r.owned (λ l. ended_still (s.views ++ u ∷ []) s.views (still_more s.views u) (r.ended l)) r.home)

-- of two prefixes of one history the longer is one too, and each is a prefix of the longer
pub longer_of : (xs ys log : List Event) → IsPrefix xs log → IsPrefix ys log → IsPrefix xs (longer xs ys) × IsPrefix ys (longer xs ys) × IsPrefix (longer xs ys) log
longer_of xs ys log p q = go (nat_lt (length xs) (length ys)) refl
  where
    go : (b : Bool) → nat_lt (length xs) (length ys) ≡ b → IsPrefix xs (cond b ys xs) × IsPrefix ys (cond b ys xs) × IsPrefix (cond b ys xs) log
    go true is = let lt : length xs < length ys = grind (arith, nat_tests) in (prefix_shorter xs ys log p q (omega arith), prefix_self ys, q)
    go false is = let le : length ys ≤ length xs = grind (arith, nat_tests) in (prefix_self xs, prefix_shorter ys xs log q p le, p)

-- what the rule says of a seat that another was joined to
joined_fits : (sizes : Sizes) (now : Moment) (id : ℕ) (v w : SeatView) (kept : List KeptPass) → Fits sizes now id v → IsPrefix w.seen now.log → v.holds ≡ false
    → (v.is_pass ≡ true → (i : ℕ) (k : KeptPass) → get_elem? kept i ≡ some k → IsKept now.log now.count k)
    → Fits sizes now id (record v { seen = longer v.seen w.seen; olds = v.seen ∷ w.seen ∷ []; kept = kept })
joined_fits sizes now id v w kept f q rests keeps =
    let m = longer_of v.seen w.seen now.log f.seen q in
    record {
      seen = m.2;
      olds = olds (longer v.seen w.seen) v.seen w.seen m.0 m.1;
      pass = λ p. let k = f.pass p in record {
        same = k.same;
        made = k.made;
        made_seen = k.made ∙ sym (made_by_between v.number v.seen (longer v.seen w.seen) now.log m.0 m.2 (sym k.made_seen ∙ k.made));
        number = k.number;
        count = k.count;
        kept = keeps p;
      };
      holds = λ e. off (sym rests ∙ e);
    }
  where
    olds : (all xs ys : List Event) → IsPrefix xs all → IsPrefix ys all → (i : ℕ) (o : List Event) → get_elem? (xs ∷ ys ∷ []) i ≡ some o → IsPrefix o all
    olds all xs ys p q zero o e = subst (λ (l : List Event). IsPrefix l all) (some-injective xs o e) p
    olds all xs ys p q (suc zero) o e = subst (λ (l : List Event). IsPrefix l all) (some-injective ys o e) q
    olds all xs ys p q (suc (suc i)) o e = absurd (some-ne-none o (sym e))

-- what the rule says of a seat that was joined to another
spent_fits : (sizes : Sizes) (now : Moment) (j : ℕ) → Fits sizes now j spent
spent_fits sizes now j = record {
  seen = (now.log, refl);
  olds = λ i o e. absurd (some-ne-none o (sym e));
  pass = λ e. off e;
  holds = λ e. off e;
}

-- a pass takes in a note
pub meets : (sizes : Sizes) (id : ℕ) (v : SeatView) (other : ℕ) (w : SeatView) → v.holds ≡ false → w.is_pass ≡ false → Joins (Ruled sizes) id v other w (met v w) spent
meets sizes id v other w rests note s r at apart there =
    let now : Moment = record { log = r.log; turn = get_or s.words 1 0; by = r.by; count = r.count } in
    let both : SeatView = met v w in
    let one = set s.views id both in
    let two = set one other spent in
    let F = Fits sizes now in
    let f = r.each id v at in
    let at_other : get_elem? s.views other ≡ some w = ⊎_elim (λ (x : (other ≡ id) × (both ≡ w)). absurd (apart x.0)) (λ (x : (other ≢ id) × (get_elem? s.views other ≡ some w)). x.1) (at_set s.views id other both w there) in
    let g = r.each other w at_other in
    let each_one = each_set F s.views id both (joined_fits sizes now id v w v.kept f g.seen rests (λ p. (f.pass p).kept)) (λ j x _ e. r.each j x e) in
    let back_one = was_set s.views id v both at (λ p. (p, refl, refl)) in
    let back_two = was_set one other w spent there (λ e. off e) in
    let back : WasPass two s.views = λ j u a. let b = back_two j u a in let c = back_one j b.0 b.1 in (c.0, c.1, b.2 ∙ c.2, b.3 ∙ c.3) in
    retold sizes s r two back s.words s.homes r.log r.by r.wide r.counted
    (each_set F one other spent (spent_fits sizes now other) (λ j x _ e. each_one j x e))
    r.owned
    (λ l. ended_still two one (still_else one other w spent there note) (ended_still one s.views (still_set s.views id v both at refl (λ y. y) refl) (r.ended l)))
    r.home

-- where a pass that is kept after a join was before: it was joined just now, or it was kept before
data KeptFrom (views : List SeatView) (id : ℕ) (w : SeatView) (i a : ℕ) (k : KeptPass) : Type 0 where
  joined : i ≡ id → a ≡ 0 → k.number ≡ w.number → KeptFrom views id w i a k
  moved : (b : ℕ) → i ≡ id → a ≡ suc b → Keeps views i b k → KeptFrom views id w i a k
  stayed : i ≢ id → Keeps views i a k → KeptFrom views id w i a k

-- a pass takes in another
pub absorbs : (sizes : Sizes) (id : ℕ) (v : SeatView) (other : ℕ) (w : SeatView) → v.is_pass ≡ true → v.holds ≡ false → w.is_pass ≡ true → w.kept ≡ [] → Joins (Ruled sizes) id v other w (absorbed v w) spent
absorbs sizes id v other w pass rests pass_too none_kept s r at apart there =
    record {
      log = r.log;
      by = r.by;
      count = r.count;
      wide = r.wide;
      counted = r.counted;
      few = r.few;
      each = each_set F one other spent (spent_fits sizes now other) (λ j x _ e. each_set F s.views id both mine (λ j x _ e. r.each j x e) j x e);
      apart = record {
        passes = λ i j x y a b n.
            let x' = back i x a in
            let y' = back j y b in
            r.apart.passes i j x'.0 y'.0 x'.1 y'.1 (sym x'.2 ∙ (n ∙ y'.2));
        kept = λ i a j k y h b n. let y' = back j y b in kept_apart i a j k y'.0 (from i a k h) y'.1 (not_other j y b) (n ∙ y'.2);
        both = λ i a j b k l h h' n. both_apart i a j b k l (from i a k h) (from j b l h') n;
      };
      owned = r.owned;
      ended = λ l. ended_two (r.ended l);
      home = r.home;
    }
  where
    now : Moment
    now = record { log = r.log; turn = get_or s.words 1 0; by = r.by; count = r.count }

    both : SeatView
    both = absorbed v w

    one : List SeatView
    one = set s.views id both

    two : List SeatView
    two = set one other spent

    F : ℕ → SeatView → Type 0
    F = Fits sizes now

    at_other : get_elem? s.views other ≡ some w
    at_other = ⊎_elim (λ (x : (other ≡ id) × (both ≡ w)). absurd (apart x.0)) (λ (x : (other ≢ id) × (get_elem? s.views other ≡ some w)). x.1) (at_set s.views id other both w there)

    is_other : IsAt s.views other w
    is_other = record { at = at_other; pass = pass_too }

    is_mine : IsAt s.views id v
    is_mine = record { at = at; pass = pass }

    kept_first : (p : v.is_pass ≡ true) (i : ℕ) (k : KeptPass) → get_elem? (kept_seat w ∷ v.kept) i ≡ some k → IsKept r.log r.count k
    kept_first p zero k e = let q = (r.each other w at_other).pass pass_too in subst (IsKept r.log r.count) (some-injective (kept_seat w) k e) (record { made = q.made; number = q.number })
    kept_first p (suc i) k e = ((r.each id v at).pass p).kept i k e

    mine : F id both
    mine = joined_fits sizes now id v w (kept_seat w ∷ v.kept) (r.each id v at) (r.each other w at_other).seen rests kept_first

    -- the passes that are left, as they were
    back : (j : ℕ) (u : SeatView) → IsAt two j u → (x : SeatView) × IsAt s.views j x × (u.number ≡ x.number)
    back j u a = ⊎_elim
        (λ (t : (j ≡ other) × (spent ≡ u)). off (ap (λ (z : SeatView). z.is_pass) t.1 ∙ a.pass))
        (λ (t : (j ≢ other) × (get_elem? one j ≡ some u)). ⊎_elim
        (λ (q : (j ≡ id) × (both ≡ u)). (v, record { at = subst (λ (n : ℕ). get_elem? s.views n ≡ some v) (sym q.0) at; pass = pass }, sym (ap (λ (z : SeatView). z.number) q.1)))
        (λ (q : (j ≢ id) × (get_elem? s.views j ≡ some u)). (u, record { at = q.1; pass = a.pass }, refl))
        (at_set s.views id j both u t.1))
        (at_set one other j spent u a.at)

    not_other : (j : ℕ) (u : SeatView) → IsAt two j u → j ≢ other
    not_other j u a = ⊎_elim (λ (t : (j ≡ other) × (spent ≡ u)). off (ap (λ (z : SeatView). z.is_pass) t.1 ∙ a.pass)) (λ (t : (j ≢ other) × (get_elem? one j ≡ some u)). t.0) (at_set one other j spent u a.at)

    from_mine : (i a : ℕ) (k : KeptPass) → i ≡ id → get_elem? (kept_seat w ∷ v.kept) a ≡ some k → KeptFrom s.views id w i a k
    from_mine i zero k same e = joined same refl (sym (ap (λ (z : KeptPass). z.number) (some-injective (kept_seat w) k e)))
    from_mine i (suc a) k same e = moved a same refl (record { v = v; at = record { at = subst (λ (n : ℕ). get_elem? s.views n ≡ some v) (sym same) at; pass = pass }; kept = e })

    from : (i a : ℕ) (k : KeptPass) → Keeps two i a k → KeptFrom s.views id w i a k
    from i a k h = ⊎_elim
        (λ (t : (i ≡ other) × (spent ≡ h.v)). off (ap (λ (z : SeatView). z.is_pass) t.1 ∙ h.at.pass))
        (λ (t : (i ≢ other) × (get_elem? one i ≡ some h.v)). ⊎_elim
        (λ (q : (i ≡ id) × (both ≡ h.v)). from_mine i a k q.0 (subst (λ (z : SeatView). get_elem? z.kept a ≡ some k) (sym q.1) h.kept))
        (λ (q : (i ≢ id) × (get_elem? s.views i ≡ some h.v)). stayed q.0 (record { v = h.v; at = record { at = q.1; pass = h.at.pass }; kept = h.kept }))
        (at_set s.views id i both h.v t.1))
        (at_set one other i spent h.v h.at.at)

    kept_apart : (i a j : ℕ) (k : KeptPass) (x : SeatView) → KeptFrom s.views id w i a k → IsAt s.views j x → j ≢ other → k.number ≢ x.number
    kept_apart i a j k x (joined same first is) y ne n = ne (r.apart.passes j other x w y is_other (sym n ∙ is))
    kept_apart i a j k x (moved b same next h) y ne n = r.apart.kept i b j k x h y n
    kept_apart i a j k x (stayed differs h) y ne n = r.apart.kept i a j k x h y n

    both_apart : (i a j b : ℕ) (k l : KeptPass) → KeptFrom s.views id w i a k → KeptFrom s.views id w j b l → k.number ≡ l.number → (i ≡ j) × (a ≡ b)
    both_apart i a j b k l (joined same first is) (joined same' first' is') n = (same ∙ sym same', first ∙ sym first')
    both_apart i a j b k l (joined same first is) (moved c same' next' h') n = absurd (r.apart.kept j c other l w h' is_other (sym n ∙ is))
    both_apart i a j b k l (joined same first is) (stayed differs h') n = absurd (r.apart.kept j b other l w h' is_other (sym n ∙ is))
    both_apart i a j b k l (moved c same next h) (joined same' first' is') n = absurd (r.apart.kept i c other k w h is_other (n ∙ is'))
    both_apart i a j b k l (moved c same next h) (moved d same' next' h') n = (same ∙ sym same', next ∙ (ap suc (r.apart.both i c j d k l h h' n).1 ∙ sym next'))
    both_apart i a j b k l (moved c same next h) (stayed differs h') n = absurd (differs (sym (r.apart.both i c j b k l h h' n).0 ∙ same))
    both_apart i a j b k l (stayed differs h) (joined same' first' is') n = absurd (r.apart.kept i a other k w h is_other (n ∙ is'))
    both_apart i a j b k l (stayed differs h) (moved d same' next' h') n = absurd (differs ((r.apart.both i a j d k l h h' n).0 ∙ same'))
    both_apart i a j b k l (stayed differs h) (stayed differs' h') n = r.apart.both i a j b k l h h' n

    is_both : IsAt two id both
    is_both = record { at = set_else one other id spent (λ e. apart (sym e)) ∙ set_at s.views id v both at; pass = pass }

    stays : (j : ℕ) (x : SeatView) → j ≢ other → j ≢ id → IsAt s.views j x → IsAt two j x
    stays j x ne ne' a = record { at = set_else one other j spent ne ∙ (set_else s.views id j both ne' ∙ a.at); pass = a.pass }

    ended_two : SomeoneEnded s.views → SomeoneEnded two
    ended_two (by_pass j x a e) =
        dite (ℕ_discrete j other)
        (λ same.
        let is : w ≡ x = at_one s.views other w x at_other (subst (λ (n : ℕ). get_elem? s.views n ≡ some x) same a.at) in
        by_kept id 0 (kept_seat w) (record { v = both; at = is_both; kept = refl }) (ap (λ (z : SeatView). z.ends) is ∙ e))
        (λ not_it. dite (ℕ_discrete j id)
        (λ same.
        let is : v ≡ x = at_one s.views id v x at (subst (λ (n : ℕ). get_elem? s.views n ≡ some x) same a.at) in
        by_pass id both is_both (ap (λ (z : SeatView). z.ends) is ∙ e))
        (λ not_mine. by_pass j x (stays j x not_it not_mine a) e))
    ended_two (by_kept j i k h e) =
        dite (ℕ_discrete j other)
        (λ same.
        let is : w ≡ h.v = at_one s.views other w h.v at_other (subst (λ (n : ℕ). get_elem? s.views n ≡ some h.v) same h.at.at) in
        absurd (some-ne-none k (sym (subst (λ (l : List KeptPass). get_elem? l i ≡ some k) (sym (ap (λ (z : SeatView). z.kept) is) ∙ none_kept) h.kept))))
        (λ not_it. dite (ℕ_discrete j id)
        (λ same.
        let is : v ≡ h.v = at_one s.views id v h.v at (subst (λ (n : ℕ). get_elem? s.views n ≡ some h.v) same h.at.at) in
        by_kept id (suc i) k (record { v = both; at = is_both; kept = subst (λ (z : SeatView). get_elem? z.kept i ≡ some k) (sym is) h.kept }) e)
        (λ not_mine. by_kept j i k (record { v = h.v; at = stays j h.v not_it not_mine h.at; kept = h.kept }) e))
