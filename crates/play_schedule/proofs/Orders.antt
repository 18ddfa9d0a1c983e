-- Copies are put in order.
use Rattle.std.proofs.Common.{◌≡◌, ℕ, zero, suc, ◌+◌, ◌*◌, ◌<◌, ◌≤◌, Bool, true, false, cond, List, [], ◌∷◌, ◌++◌, take, refl, sym, ap, ap₂, ◌∙◌, subst, arith, append-nil, append_assoc, zero-add, add-zero}
use Rattle.std.specs.Prelude.{Option, Some, ◌==◌, ◌||◌, nat_lt, if◌then◌else◌, slice_get, flat_map, map, count_by, sum_by}
use Rattle.std.specs.List.{AllByRecursion, range_with_len}
use Rattle.std.specs.Option.{option_map_or}
use Rattle.std.specs.Ordering.{MatchOrdering, match_ordering, nat_cmp, ordering_then}
use Rattle.std.specs.declared.cmp.Ordering.{Ordering}
use Rattle.std.specs.declared.cmp.Ordering.TheVariants.{Less, Equal, Greater}
use Rattle.std.specs.BTreeMap.{insert_entry}
use Rattle.std.proofs.lemmas.Cmp.{ranked}
use Rattle.std.proofs.lemmas.Bool.{ltb-false}
use Rattle.std.proofs.lemmas.List.{map-append, replicate-append-replicate}
use Rattle.std.proofs.lemmas.List.Sums.{sum_by-append, sum_by-cons}
use Rattle.std.proofs.lemmas.Grind.{flat_map-append}
use borrow.Author.Tests.{eqb-true}
use Rattle.history_model.specs.scripts.Line.{ScriptLine, Said}
use Rattle.play_schedule.specs.declared.cue.Cue.{Cue}
use Rattle.play_schedule.specs.Due.{is_due_after, last_moment}
use Rattle.play_schedule.specs.Unfolding.{cue_lines}
use Rattle.play_schedule.specs.Order.{AreAscending, AreOf, Entry, IsOrderOf, Precedes, copied_lines, due_in, entry_lines, key_cmp}

-- what holds of each entry by one fact holds by another that follows
pub all-map : {P Q : Entry → Type 0} → ((e : Entry) → P e → Q e) → (es : List Entry) → AllByRecursion P es → AllByRecursion Q es
all-map f [] h = tt
all-map f (e ∷ es) h = (f e h.0, all-map f es h.1)

pub all-map₂ : {P Q R : Entry → Type 0} → ((e : Entry) → P e → Q e → R e) → (es : List Entry) → AllByRecursion P es → AllByRecursion Q es → AllByRecursion R es
all-map₂ f [] h k = tt
all-map₂ f (e ∷ es) h k = (f e h.0 k.0, all-map₂ f es h.1 k.1)

-- the order of two keys, as numbers
key_cases : (a b : ℕ × ℕ) → MatchOrdering (key_cmp a b) (Precedes a b) ((a.0 ≡ b.0) × (a.1 ≡ b.1)) (Precedes b a)
key_cases a b = by (nat_cmp a.0 b.0) (nat_cmp a.1 b.1) (ranked a.0 b.0 _ refl) (ranked a.1 b.1 _ refl)
  where
    by : (r s : Ordering) → MatchOrdering r (a.0 < b.0) (a.0 ≡ b.0) (b.0 < a.0) → MatchOrdering s (a.1 < b.1) (a.1 ≡ b.1) (b.1 < a.1)
        → MatchOrdering (ordering_then r s) (Precedes a b) ((a.0 ≡ b.0) × (a.1 ≡ b.1)) (Precedes b a)
    by Less s l m = (omega arith, λ h. absurd (omega arith))
    by Equal Less e m = (omega arith, λ h. m)
    by Equal Equal e m = (e, m)
    by Equal Greater e m = (omega arith, λ h. m)
    by Greater s l m = (omega arith, λ h. absurd (omega arith))

-- what holds of entries and of one more holds after it is put in
pub insert_all : {P : Entry → Type 0} (k : ℕ × ℕ) (v : ℕ) → ((e : Entry) → P e → P (e.0, v)) → P (k, v) → (es : List Entry) → AllByRecursion P es
    → AllByRecursion P (insert_entry key_cmp es k v)
insert_all k v same here [] h = (here, tt)
insert_all {P} k v same here (e ∷ es) h = by (key_cmp k e.0) (insert_all k v same here es h.1)
  where
    by : (r : Ordering) → AllByRecursion P (insert_entry key_cmp es k v)
        → AllByRecursion P (match_ordering r ((k, v) ∷ e ∷ es) ((e.0, v) ∷ es) (e ∷ insert_entry key_cmp es k v))
    by Less later = (here, h)
    by Equal later = (same e h.0, h.1)
    by Greater later = (h.0, later)

-- keys ascend after one is put in
pub insert_ascending : (k : ℕ × ℕ) (v : ℕ) (es : List Entry) → AreAscending es → AreAscending (insert_entry key_cmp es k v)
insert_ascending k v [] h = (tt, tt)
insert_ascending k v (e ∷ es) h = by (key_cmp k e.0) (key_cases k e.0) (insert_ascending k v es h.1)
  where
    later : Precedes k e.0 → AllByRecursion (λ (f : Entry). Precedes k f.0) es
    later l = all-map (λ f m. (omega arith, λ n. omega arith)) es h.0

    by : (r : Ordering) → MatchOrdering r (Precedes k e.0) ((k.0 ≡ e.0.0) × (k.1 ≡ e.0.1)) (Precedes e.0 k)
        → AreAscending (insert_entry key_cmp es k v)
        → AreAscending (match_ordering r ((k, v) ∷ e ∷ es) ((e.0, v) ∷ es) (e ∷ insert_entry key_cmp es k v))
    by Less l rest = ((l, later l), h)
    by Equal l rest = h
    by Greater l rest = (insert_all {P = λ (f : Entry). Precedes e.0 f.0} k v (λ f m. m) l es h.0, rest)

-- no entry of a moment has a line that is due then
pub none-due : (cues : List Cue) (moment : ℕ) (es : List Entry) → AllByRecursion (λ (e : Entry). e.0.0 ≡ moment → ⊥) es → due_in cues moment es ≡ []
none-due cues moment [] h = refl
none-due cues moment (e ∷ es) h =
    let other : (e.0.0 == moment) ≡ false = grind (arith, h.0) in
    rw other (none-due cues moment es h.1)

-- the lines of an entry at a moment
abbrev lines_then : List Cue → ℕ → Entry → List ScriptLine
lines_then cues moment entry = if entry.0.0 == moment then entry_lines cues entry else []

-- an entry that is put in after all of its moment adds its lines at the end of those that are due then
pub insert_due : (cues : List Cue) (moment : ℕ) (k : ℕ × ℕ) (v : ℕ) (es : List Entry) → AreAscending es → AllByRecursion (λ (e : Entry). e.0.0 ≡ k.0 → e.0.1 < k.1) es
    → due_in cues moment (insert_entry key_cmp es k v) ≡ due_in cues moment es ++ lines_then cues moment (k, v)
insert_due cues moment k v [] h b = append-nil (lines_then cues moment (k, v))
insert_due cues moment k v (e ∷ es) h b = by (key_cmp k e.0) (key_cases k e.0) (insert_due cues moment k v es h.1 b.1)
  where
    others : Precedes k e.0 → AllByRecursion (λ (f : Entry). f.0.0 ≡ k.0 → ⊥) (e ∷ es)
    others l = (
      λ s. let low : e.0.1 < k.1 = b.0 s in let high : k.1 < e.0.1 = l.1 (omega arith) in omega arith,
      all-map₂
          (λ f m n s.
          let low : f.0.1 < k.1 = n s in
          let first : e.0.0 ≡ f.0.0 = omega arith in
          let second : k.1 < e.0.1 = l.1 (omega arith) in
          let third : e.0.1 < f.0.1 = m.1 (omega arith) in
          omega arith)
          es h.0 b.1,
    )

    before : Precedes k e.0 → (here : Bool) → (k.0 == moment) ≡ here
        → (if here then entry_lines cues (k, v) else []) ++ due_in cues moment (e ∷ es) ≡ due_in cues moment (e ∷ es) ++ (if here then entry_lines cues (k, v) else [])
    before l false s = sym (append-nil (due_in cues moment (e ∷ es)))
    before l true s =
        let none : due_in cues moment (e ∷ es) ≡ [] = subst (λ (m : ℕ). due_in cues m (e ∷ es) ≡ []) (eqb-true _ _ s) (none-due cues k.0 (e ∷ es) (others l)) in
        ap (λ l. entry_lines cues (k, v) ++ l) none ∙ (append-nil (entry_lines cues (k, v)) ∙ ap (λ l. l ++ entry_lines cues (k, v)) (sym none))

    by : (r : Ordering) → MatchOrdering r (Precedes k e.0) ((k.0 ≡ e.0.0) × (k.1 ≡ e.0.1)) (Precedes e.0 k)
        → due_in cues moment (insert_entry key_cmp es k v) ≡ due_in cues moment es ++ lines_then cues moment (k, v)
        → due_in cues moment (match_ordering r ((k, v) ∷ e ∷ es) ((e.0, v) ∷ es) (e ∷ insert_entry key_cmp es k v))
        ≡ due_in cues moment (e ∷ es) ++ lines_then cues moment (k, v)
    by Less l rest = before l (k.0 == moment) refl
    by Equal l rest = absurd (omega (arith, b.0))
    by Greater l rest =
        ap (λ l. lines_then cues moment e ++ l) rest
        ∙ sym (append_assoc (lines_then cues moment e) (due_in cues moment es) (lines_then cues moment (k, v)))

-- a cue has no copy after its last moment
pub not_after : (ticks : ℕ) (cues : List Cue) (at : ℕ) (cue : Cue) → is_due_after ticks cues ≡ false → slice_get cues at ≡ Some cue → last_moment cue ≤ ticks
not_after ticks [] at cue h e = absurd (cc)
not_after ticks (first ∷ cues) zero cue h e =
    by (nat_lt ticks (last_moment first)) (is_due_after ticks cues) refl h
  where
    by : (a b : Bool) → nat_lt ticks (last_moment first) ≡ a → (a || b) ≡ false → last_moment cue ≤ ticks
    by true b s t = absurd (cc)
    by false b s t =
        let same : first ≡ cue = cc in
        subst (λ (one : Cue). last_moment one ≤ ticks) same (ltb-false _ _ s)
not_after ticks (first ∷ cues) (suc at) cue h e =
    not_after ticks cues at cue (by (nat_lt ticks (last_moment first)) (is_due_after ticks cues) h) e
  where
    by : (a b : Bool) → (a || b) ≡ false → b ≡ false
    by true b t = absurd (cc)
    by false b t = t

-- the first elements and the next are the first, one more
take-next : (cues : List Cue) (at : ℕ) (cue : Cue) → slice_get cues at ≡ Some cue → take (suc at) cues ≡ take at cues ++ cue ∷ []
take-next [] at cue e = absurd (cc)
take-next (first ∷ cues) zero cue e = let same : first ≡ cue = cc in ap (λ (one : Cue). one ∷ []) same
take-next (first ∷ cues) (suc at) cue e = ap (λ l. first ∷ l) (take-next cues at cue e)

range-snoc : (a n : ℕ) → range_with_len a (suc n) ≡ range_with_len a n ++ (a + n) ∷ []
range-snoc a zero = ap (λ m. m ∷ []) (omega arith)
range-snoc a (suc n) = ap (λ l. a ∷ l) (range-snoc (a + 1) n ∙ ap (λ m. range_with_len (a + 1) n ++ m ∷ []) (omega arith))

-- the moments of the first copies of a cue
abbrev pub first_moments : Cue → ℕ → List ℕ
first_moments cue copies = map (λ k. cue.moment + k * cue.copies.interval) (range_with_len 0 copies)

-- how many of the first copies of a cue are due at a moment
abbrev pub copies_due : Cue → ℕ → ℕ → ℕ
copies_due cue copies moment = count_by (λ m. m == moment) (first_moments cue copies)

-- one more copy is due at its moment
copies_due-suc : (cue : Cue) (copies moment : ℕ)
    → copies_due cue (suc copies) moment ≡ copies_due cue copies moment + (if cue.moment + copies * cue.copies.interval == moment then 1 else 0)
copies_due-suc cue copies moment =
    let due : ℕ → ℕ = λ k. cue.moment + k * cue.copies.interval in
    let test : ℕ → ℕ = λ m. cond (m == moment) 1 0 in
    let last : range_with_len 0 (suc copies) ≡ range_with_len 0 copies ++ copies ∷ [] = range-snoc 0 copies ∙ ap (λ n. range_with_len 0 copies ++ n ∷ []) (zero-add copies) in
    ap (λ l. sum_by test (map due l)) last
    ∙ (ap (sum_by test) (map-append due (range_with_len 0 copies) (copies ∷ []))
    ∙ (sum_by-append test (map due (range_with_len 0 copies)) (due copies ∷ [])
    ∙ ap (λ n. sum_by test (map due (range_with_len 0 copies)) + n) (sum_by-cons test (due copies) [] ∙ add-zero (test (due copies)))))

-- some first copies of the next cue were put in, each of which has a moment of its own
pub record HasAdded (cues : List Cue) (ticks at copies : ℕ) (cue : Cue) (old new : List Entry) : Type 0 where
  pub ascending : AreAscending new
  pub each : AreOf ticks (at + 1) new
  pub earlier : AllByRecursion (λ (e : Entry). cue.moment + copies * cue.copies.interval ≤ e.0.0 → e.0.1 < at) new
  pub due : (moment : ℕ) → due_in cues moment new ≡ due_in cues moment old ++ copied_lines (copies_due cue copies moment) cue

-- before the first
pub added_none : (cues : List Cue) (ticks at : ℕ) (cue : Cue) (old : List Entry) → IsOrderOf cues ticks at old → HasAdded cues ticks at 0 cue old old
added_none cues ticks at cue old order = record {
  ascending = order.ascending;
  each = all-map (λ e h. (omega arith, h.1)) old order.each;
  earlier = all-map (λ e h l. h.0) old order.each;
  due = λ moment. sym (append-nil (due_in cues moment old));
}

-- the lines of copies, and of one more or of none
copied_more : (cue : Cue) (copies more : ℕ) (due : Bool)
    → copied_lines copies cue ++ (if due then copied_lines more cue else []) ≡ copied_lines (copies + (if due then more else 0)) cue
copied_more cue copies more true = replicate-append-replicate copies more (Said cue.tag cue.text)
copied_more cue copies more false = append-nil (copied_lines copies cue) ∙ ap (λ n. copied_lines n cue) (sym (add-zero copies))

-- the lines of an entry are those of its cue
then_copied : (cues : List Cue) (moment first at copies : ℕ) (cue : Cue) → slice_get cues at ≡ Some cue
    → lines_then cues moment ((first, at), copies) ≡ (if first == moment then copied_lines copies cue else [])
then_copied cues moment first at copies cue found = ap (λ (o : Option Cue). if first == moment then option_map_or (copied_lines copies) o [] else []) found

-- with one more
pub added_next : (cues : List Cue) (ticks at copies : ℕ) (cue : Cue) (old new : List Entry) → slice_get cues at ≡ Some cue → 0 < cue.copies.interval
    → cue.moment + copies * cue.copies.interval ≤ ticks → HasAdded cues ticks at copies cue old new
    → HasAdded cues ticks at (copies + 1) cue old (insert_entry key_cmp new (cue.moment + copies * cue.copies.interval, at) 1)
added_next cues ticks at copies cue old new found late fits added =
    let now : ℕ = cue.moment + copies * cue.copies.interval in
    let next : cue.moment + (copies + 1) * cue.copies.interval ≡ now + cue.copies.interval = omega arith in
    let before : AllByRecursion (λ (e : Entry). e.0.0 ≡ now → e.0.1 < at) new = all-map (λ e h s. h (omega arith)) new added.earlier in
    let one : copies + 1 ≡ suc copies = omega arith in
    record {
      ascending = insert_ascending (now, at) 1 new added.ascending;
      each = insert_all (now, at) 1 (λ e h. (h.0, (omega arith, h.1.1))) (omega arith, (omega arith, fits)) new added.each;
      earlier = insert_all (now, at) 1 (λ e h. h) (λ l. absurd (omega arith)) new (all-map (λ e h l. h (omega arith)) new added.earlier);
      due = λ moment.
          insert_due cues moment (now, at) 1 new added.ascending before
          ∙ (ap₂ (λ (l k : List ScriptLine). l ++ k) (added.due moment) (then_copied cues moment now at 1 cue found)
          ∙ (append_assoc (due_in cues moment old) (copied_lines (copies_due cue copies moment) cue) (if now == moment then copied_lines 1 cue else [])
          ∙ ap (λ l. due_in cues moment old ++ l)
          (copied_more cue (copies_due cue copies moment) 1 (now == moment)
          ∙ ap (λ n. copied_lines n cue) (sym (copies_due-suc cue copies moment) ∙ ap (λ n. copies_due cue n moment) (sym one)))));
    }

-- entries to which those of the next cue were added
order_more : (cues : List Cue) (ticks at : ℕ) (cue : Cue) (old new : List Entry) → slice_get cues at ≡ Some cue → IsOrderOf cues ticks at old → AreAscending new
    → AreOf ticks (at + 1) new → ((moment : ℕ) → due_in cues moment new ≡ due_in cues moment old ++ cue_lines moment cue) → IsOrderOf cues ticks (at + 1) new
order_more cues ticks at cue old new found order ascending each due = record {
  ascending = ascending;
  each = each;
  due = λ moment.
      let lines : Cue → List ScriptLine = cue_lines moment in
      let one : at + 1 ≡ suc at = omega arith in
      let next : take (at + 1) cues ≡ take at cues ++ cue ∷ [] = ap (λ n. take n cues) one ∙ take-next cues at cue found in
      due moment
      ∙ (ap (λ l. l ++ lines cue) (order.due moment)
      ∙ (ap (λ l. flat_map lines (take at cues) ++ l) (sym (append-nil (lines cue)))
      ∙ (sym (flat_map-append lines (take at cues) (cue ∷ [])) ∙ ap (flat_map lines) (sym next))));
}

-- after the last copy
pub added_all : (cues : List Cue) (ticks at : ℕ) (cue : Cue) (old new : List Entry) → slice_get cues at ≡ Some cue → IsOrderOf cues ticks at old
    → HasAdded cues ticks at cue.copies.count cue old new → IsOrderOf cues ticks (at + 1) new
added_all cues ticks at cue old new found order added = order_more cues ticks at cue old new found order added.ascending added.each added.due

-- copies without ticks between them are due at one moment
copies_due-same : (cue : Cue) → cue.copies.interval ≡ 0 → (copies moment : ℕ) → copies_due cue copies moment ≡ (if cue.moment == moment then copies else 0)
copies_due-same cue none zero moment = by (cue.moment == moment)
  where
    by : (due : Bool) → copies_due cue 0 moment ≡ (if due then 0 else 0)
    by true = refl
    by false = refl
copies_due-same cue none (suc copies) moment =
    let still : cue.moment + copies * cue.copies.interval ≡ cue.moment = rw none (omega arith) in
    copies_due-suc cue copies moment
    ∙ (ap₂ (λ (m n : ℕ). m + n) (copies_due-same cue none copies moment) (ap (λ (m : ℕ). if m == moment then 1 else 0) still) ∙ by (cue.moment == moment))
  where
    by : (due : Bool) → (if due then copies else 0) + (if due then 1 else 0) ≡ (if due then suc copies else 0)
    by true = omega arith
    by false = refl

-- copies that are all due at the moment of the first were put in together
pub added_together : (cues : List Cue) (ticks at : ℕ) (cue : Cue) (old : List Entry) → slice_get cues at ≡ Some cue → cue.copies.interval ≡ 0 → 0 < cue.copies.count
    → cue.moment ≤ ticks → IsOrderOf cues ticks at old → IsOrderOf cues ticks (at + 1) (insert_entry key_cmp old (cue.moment, at) cue.copies.count)
added_together cues ticks at cue old found none some fits order =
    let k : ℕ × ℕ = (cue.moment, at) in
    let count : ℕ = cue.copies.count in
    order_more cues ticks at cue old _ found order (insert_ascending k count old order.ascending)
    (insert_all k count (λ e h. (h.0, (some, h.1.1))) (omega arith, (some, fits)) old (all-map (λ e h. (omega arith, h.1)) old order.each))
    (λ moment.
    insert_due cues moment k count old order.ascending (all-map (λ e h s. h.0) old order.each)
    ∙ ap (λ l. due_in cues moment old ++ l)
    (then_copied cues moment cue.moment at count cue found
    ∙ (copied_more cue 0 count (cue.moment == moment) ∙ ap (λ n. copied_lines n cue) (zero-add _ ∙ sym (copies_due-same cue none count moment)))))

-- a cue without copies adds nothing
pub added_no_copy : (cues : List Cue) (ticks at : ℕ) (cue : Cue) (old : List Entry) → slice_get cues at ≡ Some cue → cue.copies.count ≡ 0 → IsOrderOf cues ticks at old
    → IsOrderOf cues ticks (at + 1) old
added_no_copy cues ticks at cue old found none order =
    order_more cues ticks at cue old old found order order.ascending (all-map (λ e h. (omega arith, h.1)) old order.each)
    (λ moment. sym (append-nil (due_in cues moment old)) ∙ ap (λ n. due_in cues moment old ++ copied_lines (copies_due cue n moment) cue) (sym none))

-- each copy is due at the last moment or before
pub due_before_last : (cue : Cue) (k ticks : ℕ) → k < cue.copies.count → last_moment cue ≤ ticks → cue.moment + k * cue.copies.interval ≤ ticks
due_before_last cue k ticks l m = grind arith
