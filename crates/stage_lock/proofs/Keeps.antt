-- Each step on a word keeps the rule.
use Rattle.std.proofs.Common.{◌≡◌, ◌≢◌, ◌⊎◌, ℕ, zero, suc, ◌+◌, ◌%◌, ◌^◌, ◌<◌, ◌==◌, ◌||◌, Bool, true, false, List, [], ◌∷◌, ◌++◌, length, set, get_or, eq-eqb, ne_eqb, Option, Some, refl, sym, ap, ◌∙◌, subst, ⊎_elim, arith, length-append, length-set, get_or-set_same, get_or-set_other}
use mathlib.Core.Logic.{dite}
use mathlib.Core.Option.{some, none, some-ne-none, some-injective}
use mathlib.Core.List.{IsPrefix}
use native.Mathlib.Decide.{ℕ_discrete}
use prog.Atomic.{either}
use lib.ListN.{get_elem?}
use Rattle.atomic_table.specs.Table.{step, stepped, keeps, takes, gives, Allows, opening}
use Rattle.atomic_table.proofs.Lists.{at_snoc}
use Rattle.play_types.specs.declared.event.Event.{Event}
use Rattle.stage_core.specs.Stage.{StageView}
use Rattle.stage_lock.specs.Own.{has_final, is_final, is_own, made_by, owner}
use Rattle.stage_lock.specs.Views.{Sizes, sizes_of, stage_of, whole}
use Rattle.stage_lock.specs.Seats.{KeptPass, SeatView, ends_final, first_view, grown, holding, released, settled}
use Rattle.stage_lock.specs.Rule.{Counts, EntersEvent, Fits, GivesTurn, IsAt, IsKept, Keeps, Ruled, Seat, Settles, SomeoneEnded, Table, TakesTurn, WhoEnded, by_another, by_itself, by_kept, by_one_kept, by_pass, journal_in}
use Rattle.std.proofs.lemmas.List.{append-nil}
use Rattle.stage_lock.proofs.Prefixes.{prefix_self, prefix_trans}
use Rattle.stage_lock.proofs.Positions.{made_by-other, not_own, own_owner, has_final-snoc, ends_final-snoc}
use Rattle.stage_lock.proofs.Views.{WasPass, apart_still, at_one, each_set, ended_still, off, one_home, set_at, set_same, still_set, was_set}

module _ (sizes : Sizes) where
  -- the rule after views, words and slots have changed, if each pass was one before
  pub retold : (s : Table) (r : Ruled sizes s) (views : List SeatView) → WasPass views s.views
      → (ws : List ℕ) (hs : List (mathlib.Core.Option.Option (Option StageView))) (log : List Event) (by : ℕ)
      → length ws ≡ 2 → get_or ws 0 0 ≡ length log
      → ((j : ℕ) (u : SeatView) → get_elem? views j ≡ some u → Fits sizes (record { log = log; turn = get_or ws 1 0; by = by; count = r.count }) j u)
      → ((i : ℕ) (e : Event) → get_elem? log i ≡ some e → is_final e ≡ false → owner e < r.count)
      → (has_final log ≡ true → SomeoneEnded views)
      → (get_or ws 1 0 ≡ 0 → get_elem? hs 0 ≡ some (some (Some (stage_of sizes log))))
      → Ruled sizes record { words = ws; homes = hs; views = views }
  retold s r views was ws hs log by wide counted each owned ended home = record {
    log = log;
    by = by;
    count = r.count;
    wide = wide;
    counted = counted;
    few = r.few;
    each = each;
    apart = apart_still views s.views was r.apart;
    owned = owned;
    ended = ended;
    home = home;
  }

  -- the rule after one seat's view, the words and the slots have changed
  pub rebuilt : (s : Table) (r : Ruled sizes s) (id : ℕ) (v w : SeatView) → get_elem? s.views id ≡ some v → w.is_pass ≡ v.is_pass → w.number ≡ v.number → w.kept ≡ v.kept
      → (ws : List ℕ) (hs : List (mathlib.Core.Option.Option (Option StageView))) (log : List Event) (by : ℕ)
      → length ws ≡ 2 → get_or ws 0 0 ≡ length log
      → Fits sizes (record { log = log; turn = get_or ws 1 0; by = by; count = r.count }) id w
      → ((j : ℕ) (u : SeatView) → j ≢ id → get_elem? s.views j ≡ some u → Fits sizes (record { log = log; turn = get_or ws 1 0; by = by; count = r.count }) j u)
      → ((i : ℕ) (e : Event) → get_elem? log i ≡ some e → is_final e ≡ false → owner e < r.count)
      → (has_final log ≡ true → SomeoneEnded (set s.views id w))
      → (get_or ws 1 0 ≡ 0 → get_elem? hs 0 ≡ some (some (Some (stage_of sizes log))))
      → Ruled sizes record { words = ws; homes = hs; views = set s.views id w }
  rebuilt s r id v w at pass number kept ws hs log by wide counted mine others owned ended home =
      retold s r (set s.views id w) (was_set s.views id v w at (λ p. (sym pass ∙ p, number, kept))) ws hs log by wide counted
      (each_set (Fits sizes (record { log = log; turn = get_or ws 1 0; by = by; count = r.count })) s.views id w mine others) owned ended home

  -- the rule after one view has changed to one that knows no more
  pub unmoved : (s : Table) (r : Ruled sizes s) (id : ℕ) (v w : SeatView) → get_elem? s.views id ≡ some v → w.is_pass ≡ v.is_pass → w.number ≡ v.number → w.kept ≡ v.kept → (v.ends ≡ true → w.ends ≡ true)
      → Fits sizes (record { log = r.log; turn = get_or s.words 1 0; by = r.by; count = r.count }) id w
      → (i : ℕ) (c : List (ℕ × Option StageView)) → Ruled sizes (stepped s i (get_or s.words i 0) id c w keeps)
  unmoved s r id v w at pass number kept ends mine i c =
      subst (λ (ws : List ℕ). Ruled sizes record { words = ws; homes = s.homes; views = set s.views id w }) (sym (set_same s.words i))
      (rebuilt s r id v w at pass number kept s.words s.homes r.log r.by r.wide r.counted mine (λ j u _ e. r.each j u e) r.owned
      (λ f. ended_still (set s.views id w) s.views (still_set s.views id v w at pass ends kept) (r.ended f)) r.home)

  -- the turn is taken
  pub takes_turn : (slots id : ℕ) (m : Seat) → m.0.is_pass ≡ true → Allows (Ruled sizes) slots id m 1 (λ n. either (n == 0) 1 n) (TakesTurn (step slots 1 0 1 none) m)
  takes_turn slots id m pass s r _ at _ =
      let v : SeatView = m.0 in
      let t : ℕ = get_or s.words 1 0 in
      let f = r.each id v at in
      let p = f.pass pass in
      let wide = r.wide in
      dite (ℕ_discrete t 0)
      (λ free.
      let w : SeatView = holding v r.log in
      let c : Option StageView = Some (stage_of v.sizes r.log) in
      let here : get_elem? s.homes 0 ≡ some (some c) = subst (λ (k : Sizes). get_elem? s.homes 0 ≡ some (some (Some (stage_of k r.log)))) (sym p.same) (r.home free) in
      let one : get_or (set s.words 1 1) 1 0 ≡ 1 = get_or-set_same s.words 1 1 0 (omega arith) in
      let zeroth : get_or (set s.words 1 1) 0 0 ≡ get_or s.words 0 0 = get_or-set_other s.words 1 0 1 0 (λ e. omega arith) in (
        w,
        takes 0 c,
        here,
        subst (λ b. Ruled sizes (stepped s 1 (either b 1 t) id m.1 w (takes 0 c))) (sym (eq-eqb t 0 free))
            (rebuilt s r id v w at refl refl refl (set s.words 1 1) (set s.homes 0 none) r.log id (length-set s.words 1 1 ∙ wide) (zeroth ∙ r.counted)
            (record {
              seen = prefix_self r.log;
              olds = λ i o e. prefix_trans o v.seen r.log (f.olds i o e) f.seen;
              pass = λ _. record { same = p.same; made = p.made; made_seen = p.made; number = p.number; count = p.count; kept = p.kept };
              holds = λ _. record { turn = one; by = refl; seen = refl; pass = pass };
            })
            (λ j u other e. let g = r.each j u e in record {
              seen = g.seen;
              olds = g.olds;
              pass = g.pass;
              holds = λ h. let k = g.holds h in let no : t ≡ 1 = k.turn in absurd (omega arith);
            })
            r.owned
            (λ l. ended_still (set s.views id w) s.views (still_set s.views id v w at refl (λ e. e) refl) (r.ended l))
            (λ z. absurd (omega arith))),
        (
          (λ _. record { log = r.log; seen = f.seen; made = sym p.made; made_seen = sym p.made_seen; after = refl }),
          λ taken. absurd (taken free),
        ),
      ))
      (λ taken. (
        v,
        keeps,
        tt,
        subst (λ b. Ruled sizes (stepped s 1 (either b 1 t) id m.1 v keeps)) (sym (ne_eqb t 0 taken)) (unmoved s r id v v at refl refl refl (λ e. e) f 1 m.1),
        ((λ free. absurd (taken free)), λ _. refl),
      ))

  -- who ended the history, as the holder of the turn learns it from the rule
  who_ended : (s : Table) (r : Ruled sizes s) (id : ℕ) (v : SeatView) → IsAt s.views id v → SomeoneEnded s.views → WhoEnded v
  who_ended s r id v mine (by_pass j x a e) =
      let p = (r.each id v mine.at).pass mine.pass in
      let few = r.few in
      let same_sizes : v.sizes.passes ≡ sizes.passes = ap (λ (z : Sizes). z.passes) p.same in
      let keep : (i : ℕ) (k : KeptPass) → get_elem? v.kept i ≡ some k → Keeps s.views id i k = λ i k h. record { v = v; at = mine; kept = h } in
      dite (ℕ_discrete j id)
      (λ same. by_itself (ap (λ (z : SeatView). z.ends) (at_one s.views id v x mine.at (subst (λ (n : ℕ). get_elem? s.views n ≡ some x) same a.at)) ∙ e))
      (λ other. by_another x.number record {
        number = let lt = ((r.each j x a.at).pass a.pass).number in omega arith;
        other = λ same. other (r.apart.passes j id x v a mine same);
        not_kept = λ i k h. r.apart.kept id i j k x (keep i k h) a;
      })
  who_ended s r id v mine (by_kept j i k h e) =
      let p = (r.each id v mine.at).pass mine.pass in
      let few = r.few in
      let same_sizes : v.sizes.passes ≡ sizes.passes = ap (λ (z : Sizes). z.passes) p.same in
      dite (ℕ_discrete j id)
      (λ same.
      let is : v ≡ h.v = at_one s.views id v h.v mine.at (subst (λ (n : ℕ). get_elem? s.views n ≡ some h.v) same h.at.at) in
      by_one_kept i k (subst (λ (z : SeatView). get_elem? z.kept i ≡ some k) (sym is) h.kept) e)
      (λ other. by_another k.number record {
        number = let lt = (((r.each j h.v h.at.at).pass h.at.pass).kept i k h.kept).number in omega arith;
        other = λ same. r.apart.kept j i id k v h mine same;
        not_kept = λ b l x n. other (sym (r.apart.both id b j i l k (record { v = v; at = mine; kept = x }) h n).0);
      })

  -- the length is read by the holder of the turn
  pub counts : (slots id : ℕ) (m : Seat) → m.0.is_pass ≡ true → m.0.holds ≡ true → Allows (Ruled sizes) slots id m 0 (λ n. n) (Counts (step slots 0 0 0 none) m)
  counts slots id m pass holds s r _ at _ =
      let v : SeatView = m.0 in
      let f = r.each id v at in
      let h = f.holds holds in
      let p = f.pass pass in
      let few = r.few in
      let log : v.seen ≡ r.log = h.seen in
      let mine : IsAt s.views id v = record { at = at; pass = pass } in
      let same_sizes : v.sizes.passes ≡ sizes.passes = ap (λ (z : Sizes). z.passes) p.same in
      let below : (n : ℕ) → n < r.count → n < v.sizes.passes = λ n lt. omega arith in
      let keep : (i : ℕ) (k : KeptPass) → get_elem? v.kept i ≡ some k → Keeps s.views id i k = λ i k e. record { v = v; at = mine; kept = e } in (
        v,
        keeps,
        tt,
        unmoved s r id v v at refl refl refl (λ e. e) f 0 m.1,
        (
          refl,
          r.counted ∙ ap length (sym log),
          record {
            made = p.made_seen;
            number = below v.number p.number;
            kept = λ i k e. let q = p.kept i k e in record { made = q.made ∙ ap (made_by k.number) (sym log); number = below k.number q.number };
            apart = λ i k e. r.apart.kept id i id k v (keep i k e) mine;
            both = λ i j k l e e' n. (r.apart.both id i id j k l (keep i k e) (keep j l e') n).1;
            owned = λ i x e is. below (owner x) (r.owned i x (subst (λ (l : List Event). get_elem? l i ≡ some x) log e) is);
            ended = λ l. who_ended s r id v mine (r.ended (ap has_final (sym log) ∙ l));
          },
        ),
      )

  -- the length is read after a join
  pub settles : (slots id : ℕ) (m : Seat) → Allows (Ruled sizes) slots id m 0 (λ n. n) (Settles (step slots 0 0 0 none) m)
  settles slots id m s r _ at _ =
      let v : SeatView = m.0 in
      let f = r.each id v at in
      let w : SeatView = settled v in (
        w,
        keeps,
        tt,
        unmoved s r id v w at refl refl refl (λ e. e)
            (record {
              seen = f.seen;
              olds = λ i o e. absurd (some-ne-none o (sym e));
              pass = λ x. let p = f.pass x in record { same = p.same; made = p.made; made_seen = p.made_seen; number = p.number; count = p.count; kept = p.kept };
              holds = λ x. let h = f.holds x in record { turn = h.turn; by = h.by; seen = h.seen; pass = h.pass };
            })
            0 m.1,
        (refl, f.olds),
      )

  -- the turn is given up
  pub gives_turn : (slots id : ℕ) (m : Seat) → 0 < slots → m.0.is_pass ≡ true → m.0.holds ≡ true → m.1 ≡ (0, Some (stage_of m.0.sizes m.0.seen)) ∷ [] → Allows (Ruled sizes) slots id m 1 (λ _. 0) (λ _. GivesTurn (step slots 1 0 0 none) m 0)
  gives_turn slots id m some_slot pass holds has s r one at _ =
      let v : SeatView = m.0 in
      let w : SeatView = released v in
      let t : ℕ = get_or s.words 1 0 in
      let f = r.each id v at in
      let p = f.pass pass in
      let h = f.holds holds in
      let wide = r.wide in
      let c : Option StageView = Some (stage_of v.sizes v.seen) in
      let c' : Option StageView = Some (stage_of sizes r.log) in
      let is : c ≡ c' = λ i. Some (stage_of (p.same i) (h.seen i)) in
      let turn : get_or (set s.words 1 0) 1 0 ≡ 0 = get_or-set_same s.words 1 0 0 (omega arith) in
      let zeroth : get_or (set s.words 1 0) 0 0 ≡ get_or s.words 0 0 = get_or-set_other s.words 1 0 0 0 (λ e. omega arith) in (
        w,
        gives,
        tt,
        subst (λ (xs : List (ℕ × Option StageView)). Ruled sizes (stepped s 1 0 id xs w gives)) (sym has)
            (rebuilt s r id v w at refl refl refl (set s.words 1 0) (set s.homes 0 (some c)) r.log id (length-set s.words 1 0 ∙ wide) (zeroth ∙ r.counted)
            (record {
              seen = f.seen;
              olds = f.olds;
              pass = λ _. record { same = p.same; made = p.made; made_seen = p.made_seen; number = p.number; count = p.count; kept = p.kept };
              holds = λ e. off e;
            })
            (λ j u other e. let g = r.each j u e in record {
              seen = g.seen;
              olds = g.olds;
              pass = g.pass;
              holds = λ x. let k = g.holds x in absurd (other (sym k.by ∙ h.by));
            })
            r.owned
            (λ l. ended_still (set s.views id w) s.views (still_set s.views id v w at refl (λ e. e) refl) (r.ended l))
            (λ _. one_home s.homes (some c) (omega arith) ∙ ap (λ (x : Option StageView). some (some x)) is)),
        refl,
      )

  -- an event enters the history
  pub enters : (slots id : ℕ) (m : Seat) (e : Event) → m.0.is_pass ≡ true → m.0.holds ≡ true → journal_in m.1 ≡ whole m.0.sizes (m.0.seen ++ e ∷ []) → length m.0.seen + 1 < 18446744073709551616
      → (is_own m.0.number e ≡ true) ⊎ (is_final e ≡ true) → Allows (Ruled sizes) slots id m 0 (λ n. (n + 1) % 2 ^ 64) (EntersEvent (step slots 0 1 0 none) m)
  enters slots id m e pass holds has small own s r _ at _ =
      let v : SeatView = m.0 in
      let es : List Event = v.seen ++ e ∷ [] in
      let t : ℕ = get_or s.words 1 0 in
      let n : ℕ = get_or s.words 0 0 in
      let f = r.each id v at in
      let h = f.holds holds in
      let p = f.pass pass in
      let log : v.seen ≡ r.log = h.seen in
      let wide = r.wide in
      let w : SeatView = grown v es in
      let counted : n ≡ length v.seen = r.counted ∙ ap length (sym log) in
      let next : (n + 1) % 18446744073709551616 ≡ length es = omega (arith, length-append v.seen (e ∷ [])) in
      let ws : List ℕ = set s.words 0 ((n + 1) % 18446744073709551616) in
      let first : get_or ws 0 0 ≡ length es = get_or-set_same s.words 0 ((n + 1) % 18446744073709551616) 0 (omega arith) ∙ next in
      let second : get_or ws 1 0 ≡ t = get_or-set_other s.words 0 1 ((n + 1) % 18446744073709551616) 0 (λ e. omega arith) in
      let more : IsPrefix r.log es = (e ∷ [], ap (λ (l : List Event). l ++ e ∷ []) (sym log)) in
      let before : IsPrefix v.seen es = (e ∷ [], refl) in
      let mine : IsAt s.views id v = record { at = at; pass = pass } in
      let stays : (k : ℕ) (l : List ℕ) → k ≢ v.number → l ≡ made_by k r.log → l ≡ made_by k es = λ k l ne is. is ∙ (ap (made_by k) (sym log) ∙ sym (made_by-other k v.seen e (not_own v.number k e ne own))) in
      let keeps_on : (j : ℕ) (u : SeatView) → IsAt s.views j u → (i : ℕ) (k : KeptPass) → get_elem? u.kept i ≡ some k → IsKept r.log r.count k → IsKept es r.count k = λ j u a i k x q. record { made = stays k.number k.made (r.apart.kept j i id k v (record { v = u; at = a; kept = x }) mine) q.made; number = q.number } in (
        w,
        keeps,
        tt,
        rebuilt s r id v w at refl refl refl ws s.homes es id (length-set s.words 0 ((n + 1) % 18446744073709551616) ∙ wide) first
            (record {
              seen = prefix_self es;
              olds = λ i o x. prefix_trans o v.seen es (f.olds i o x) before;
              pass = λ _. record { same = p.same; made = refl; made_seen = refl; number = p.number; count = p.count; kept = λ i k x. keeps_on id v mine i k x (p.kept i k x) };
              holds = λ _. record { turn = second ∙ h.turn; by = refl; seen = refl; pass = pass };
            })
            (λ j u other x. let g = r.each j u x in record {
              seen = prefix_trans u.seen r.log es g.seen more;
              olds = g.olds;
              pass = λ y.
                  let q = g.pass y in
                  let a : IsAt s.views j u = record { at = x; pass = y } in
                  record { same = q.same; made = stays u.number u.made (λ same. other (r.apart.passes j id u v a mine same)) q.made; made_seen = q.made_seen; number = q.number; count = q.count; kept = λ i k z. keeps_on j u a i k z (q.kept i k z) };
              holds = λ y. let k = g.holds y in absurd (other (sym k.by ∙ h.by));
            })
            (λ i x y is. ⊎_elim
            (λ (old : get_elem? v.seen i ≡ some x). r.owned i x (subst (λ (l : List Event). get_elem? l i ≡ some x) log old) is)
            (λ (new : e ≡ x). let q : is_final e ≡ false = ap is_final new ∙ is in let o : owner e ≡ v.number = own_owner v.number e own q in subst (λ (z : Event). owner z < r.count) new (subst (λ (k : ℕ). k < r.count) (sym o) p.number))
            (at_snoc v.seen e x i y))
            (λ l. ⊎_elim
            (λ (old : has_final v.seen ≡ true). ended_still (set s.views id w) s.views (still_set s.views id v w at refl (λ y. ap (λ b. b || ends_final es) y) refl) (r.ended (ap has_final (sym log) ∙ old)))
            (λ (new : is_final e ≡ true). by_pass id w (record { at = set_at s.views id v w at; pass = pass }) (or_true v.ends (ends_final es) (ends_final-snoc v.seen e ∙ new)))
            (has_final-snoc v.seen e l))
            (λ z. let one : t ≡ 1 = h.turn in absurd (omega arith)),
        record { log = es; journal = has; after = refl },
      )
    where
      or_true : (a b : Bool) → b ≡ true → (a || b) ≡ true
      or_true true b h = refl
      or_true false b h = h

-- the table at the start
pub opens : (stage : StageView) (passes : ℕ) → 0 < passes
    → Ruled (sizes_of stage passes) (opening (0 ∷ 0 ∷ []) (Some stage ∷ []) (first_view (sizes_of stage passes)))
opens stage passes many = record {
  log = [];
  by = 0;
  count = 1;
  wide = refl;
  counted = refl;
  few = omega arith;
  each = each;
  apart = record {
    passes = λ i j v w x y n. zeroth i v x.at ∙ sym (zeroth j w y.at);
    kept = λ i a j k w h y n. none_kept i a k h;
    both = λ i a j b k l h h' n. none_kept i a k h;
  };
  owned = λ i e at _. absurd (some-ne-none e (sym at));
  ended = λ e. off e;
  home = λ _.
      let events : List Event = stage.journal.events in
      let same : events ≡ whole sizes [] = sym (append-nil events) in
      λ i. some (some (Some (record { journal = record { limit = stage.journal.limit; events = same i }; channels = stage.channels })));
}
  where
    sizes : Sizes
    sizes = sizes_of stage passes

    zeroth : (j : ℕ) (v : SeatView) → get_elem? (first_view sizes ∷ []) j ≡ some v → j ≡ 0
    zeroth zero v e = refl
    zeroth (suc j) v e = absurd (some-ne-none v (sym e))

    none_kept : {A : Type 0} (i a : ℕ) (k : KeptPass) → Keeps (first_view sizes ∷ []) i a k → A
    none_kept i a k h = go i h.v h.at.at h.kept
      where
        go : {A : Type 0} (i : ℕ) (v : SeatView) → get_elem? (first_view sizes ∷ []) i ≡ some v → get_elem? v.kept a ≡ some k → A
        go zero v at e = absurd (some-ne-none k (sym (subst (λ (z : SeatView). get_elem? z.kept a ≡ some k) (sym (some-injective (first_view sizes) v at)) e)))
        go (suc i) v at e = absurd (some-ne-none v (sym at))

    one : Fits sizes (record { log = []; turn = 0; by = 0; count = 1 }) 0 (first_view sizes)
    one = record {
      seen = ([], refl);
      olds = λ i o e. absurd (some-ne-none o (sym e));
      pass = λ _. record { same = refl; made = refl; made_seen = refl; number = omega arith; count = λ _. refl; kept = λ i k e. absurd (some-ne-none k (sym e)) };
      holds = λ e. off e;
    }

    each : (j : ℕ) (v : SeatView) → get_elem? (first_view sizes ∷ []) j ≡ some v → Fits sizes (record { log = []; turn = 0; by = 0; count = 1 }) j v
    each zero v e = subst (Fits sizes (record { log = []; turn = 0; by = 0; count = 1 }) 0) (some-injective (first_view sizes) v e) one
    each (suc j) v e = absurd (some-ne-none v (sym e))
