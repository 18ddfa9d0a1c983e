-- Files in order: a list has one order.
use Rattle.std.proofs.Common.{◌≡◌, ℕ, suc, ◌+◌, ◌<◌, ◌&&◌, Bool, true, false, cond, List, [], ◌∷◌, map, inl, inr, refl, sym, ap, ap₂, subst, ◌∙◌, All, get_or, arith}
use Rattle.std.specs.declared.cmp.Ordering.{Ordering}
use Rattle.std.specs.declared.cmp.Ordering.TheVariants.{Less, Equal, Greater}
use Rattle.std.specs.Ordering.{ordering_then, nat_cmp, is_lt, is_gt, is_eq, ordering_reverse}
use Rattle.std.specs.List.{sum_by}
use Rattle.std.specs.List.Sorted.{IsPermutation, IsSorted}
use Rattle.std.specs.Cmp.{IsTotalOrder}
use Rattle.std.specs.Cmp.Lexicographic.{slice_cmp, texts_ties}
use Rattle.std.specs.Str.{bytes_eq}
use Rattle.std.proofs.lemmas.Bool.{cases_Bool, and_parts}
use Rattle.std.proofs.lemmas.Cmp.{nat_list_cmp_total, then_total, on_total, tied_itself, upto}
use Rattle.std.proofs.lemmas.List.Elements.{All-nil, All-cons, All-map}
use Rattle.std.proofs.lemmas.List.Sorted.{ranks_by, sorted_far, sum_by-IsPermutation, IsPermutation-map}
use Rattle.std.proofs.lemmas.List.Sums.{sum_by-cons}
use Rattle.std.proofs.lemmas.Slice.Eq.{bytes_eq-Decides}
use Rattle.clip_store.specs.Listing.{Found, compared, placed, sorted}

-- the order of files is a total one
pub compared_total : IsTotalOrder compared
compared_total = then_total (on_total (λ (x : Found). x.name) nat_list_cmp_total) (on_total (λ (x : Found). x.file) nat_list_cmp_total)

-- no item is above one that comes after it
abbrev pub IsRisingBy : {X : Type 0} → (X → X → Ordering) → List X → Type 0
IsRisingBy cmp [] = Unit {0}
IsRisingBy cmp (x ∷ xs) = All (λ y. is_gt (cmp x y) ≡ false) xs × IsRisingBy cmp xs

gt_from_reverse : (o : Ordering) → is_lt o ≡ false → is_gt (ordering_reverse o) ≡ false
gt_from_reverse Less e = cc
gt_from_reverse Equal e = refl
gt_from_reverse Greater e = refl

reverse_of_gt : (o : Ordering) → is_gt o ≡ true → is_gt (ordering_reverse o) ≡ false
reverse_of_gt Less e = cc
reverse_of_gt Equal e = cc
reverse_of_gt Greater e = refl

equal_from_both : (o p : Ordering) → o ≡ ordering_reverse p → is_gt o ≡ false → is_gt p ≡ false → o ≡ Equal
equal_from_both o Less h a b = let above : is_gt o ≡ true = ap is_gt h in cc
equal_from_both o Equal h a b = h
equal_from_both o Greater h a b = cc

shifted : (k : ℕ) → suc k + 1 ≡ suc (k + 1)
shifted k = omega arith

-- a sorted list is rising
from_sort : {X : Type 0} (R : X → X → Ordering) (o : IsTotalOrder R) (xs : List X) → IsSorted R xs → IsRisingBy R xs
from_sort R o [] h = tt
from_sort R o (x ∷ xs) h = (
  λ i d lt. subst (λ c. is_gt c ≡ false) (sym (o.antisymm x (get_or xs i d)))
      (gt_from_reverse (R (get_or xs i d) x) (sorted_far (λ a b. is_lt (R a b)) (ranks_by o (λ a. a)) (x ∷ xs) h 0 (suc i) d (omega arith) (omega arith))),
  from_sort R o xs (λ k d low high. subst (λ n. is_lt (R (get_or (x ∷ xs) n d) (get_or xs k d)) ≡ false) (shifted k) (h (suc k) d (omega arith) (omega arith))),
)

IsRisingBy-map : {X Y : Type 0} (R : Y → Y → Ordering) (f : X → Y) (xs : List X) → IsRisingBy (λ a b. R (f a) (f b)) xs → IsRisingBy R (map f xs)
IsRisingBy-map R f [] h = tt
IsRisingBy-map R f (x ∷ xs) h = (All-map (λ y. is_gt (R (f x) y) ≡ false) f xs h.0, IsRisingBy-map R f xs h.1)

all_placed : (P : Found → Type 0) (x : Found) (ys : List Found) → P x → All P ys → All P (placed x ys)
all_placed P x [] p all = All-cons P x [] p (All-nil P)
all_placed P x (y ∷ ys) p all =
    elim (cases_Bool (is_gt (compared x y))) [
      | inl t ↦ rw t (All-cons P y (placed x ys) (all 0 y (omega arith)) (all_placed P x ys p (λ i d lt. all (suc i) d (omega arith))))
      | inr f ↦ rw f (All-cons P x (y ∷ ys) p all)
    ]

IsRisingBy-placed : (x : Found) (ys : List Found) → IsRisingBy compared ys → IsRisingBy compared (placed x ys)
IsRisingBy-placed x [] h = (All-nil (λ z. is_gt (compared x z) ≡ false), tt)
IsRisingBy-placed x (y ∷ ys) h =
    elim (cases_Bool (is_gt (compared x y))) [
      | inl t ↦
          let flip : is_gt (compared y x) ≡ false = subst (λ c. is_gt c ≡ false) (sym (compared_total.antisymm y x)) (reverse_of_gt (compared x y) t) in
          let both : IsRisingBy compared (y ∷ placed x ys) = (all_placed (λ z. is_gt (compared y z) ≡ false) x ys flip h.0, IsRisingBy-placed x ys h.1) in
          rw t both
      | inr f ↦
          let both : IsRisingBy compared (x ∷ y ∷ ys) = (All-cons (λ z. is_gt (compared x z) ≡ false) y ys f (λ i d lt. upto compared_total x y (get_or ys i d) f (h.0 i d lt)), h) in
          rw f both
    ]

-- files in order rise
pub IsRisingBy-sorted : (xs : List Found) → IsRisingBy compared (sorted xs)
IsRisingBy-sorted [] = tt
IsRisingBy-sorted (x ∷ xs) = IsRisingBy-placed x (sorted xs) (IsRisingBy-sorted xs)

sum_by-placed : (f : Found → ℕ) (x : Found) (ys : List Found) → sum_by f (placed x ys) ≡ f x + sum_by f ys
sum_by-placed f x [] = sum_by-cons f x []
sum_by-placed f x (y ∷ ys) =
    elim (cases_Bool (is_gt (compared x y))) [
      | inl t ↦ rw t (omega (arith, sum_by-cons f y (placed x ys), sum_by-placed f x ys, sum_by-cons f y ys))
      | inr e ↦ rw e (sum_by-cons f x (y ∷ ys))
    ]

sum_by-sorted : (f : Found → ℕ) (xs : List Found) → sum_by f (sorted xs) ≡ sum_by f xs
sum_by-sorted f [] = refl
sum_by-sorted f (x ∷ xs) = sum_by-placed f x (sorted xs) ∙ ap (λ n. f x + n) (sum_by-sorted f xs) ∙ sym (sum_by-cons f x xs)

abbrev is_file : Found → Found → Bool
is_file x z = bytes_eq x.name z.name && bytes_eq x.file z.file

abbrev one : Found → Found → ℕ
one x z = cond (is_file x z) 1 0

is_file-same : (x z : Found) → is_file x z ≡ true → x ≡ z
is_file-same x z e =
    let parts = and_parts (bytes_eq x.name z.name) (bytes_eq x.file z.file) e in
    let name : x.name ≡ z.name = (bytes_eq-Decides x.name z.name).0 parts.0 in
    let file : x.file ≡ z.file = (bytes_eq-Decides x.file z.file).0 parts.1 in
    λ i. record { name = name i; file = file i }

is_file-refl : (x : Found) → is_file x x ≡ true
is_file-refl x = rw ((bytes_eq-Decides x.name x.name).1 refl, (bytes_eq-Decides x.file x.file).1 refl) refl

one-refl : (x : Found) → one x x ≡ 1
one-refl x = rw (is_file-refl x) refl

-- what holds of all files holds of one that is counted among them
held_of_counted : (P : Found → Type 0) (x : Found) (zs : List Found) → All P zs → 0 < sum_by (one x) zs → P x
held_of_counted P x [] all h = absurd (omega arith)
held_of_counted P x (z ∷ zs) all h =
    elim (cases_Bool (is_file x z)) [
      | inl t ↦ subst P (sym (is_file-same x z t)) (all 0 z (omega arith))
      | inr f ↦
          let none : one x z ≡ 0 = rw f refl in
          held_of_counted P x zs (λ i d lt. all (suc i) d (omega arith)) (omega (arith, sum_by-cons (one x) z zs, none))
    ]

then_equal : (o p : Ordering) → ordering_then o p ≡ Equal → (o ≡ Equal) × (p ≡ Equal)
then_equal Less p e = cc
then_equal Equal p e = (refl, e)
then_equal Greater p e = cc

text_same : (xs ys : List ℕ) → slice_cmp nat_cmp xs ys ≡ Equal → xs ≡ ys
text_same xs ys e = (bytes_eq-Decides xs ys).0 (texts_ties xs ys ∙ ap is_eq e)

compared-same : (x z : Found) → compared x z ≡ Equal → x ≡ z
compared-same x z e =
    let both = then_equal (slice_cmp nat_cmp x.name z.name) (slice_cmp nat_cmp x.file z.file) e in
    let name : x.name ≡ z.name = text_same x.name z.name both.0 in
    let file : x.file ≡ z.file = text_same x.file z.file both.1 in
    λ i. record { name = name i; file = file i }

not_above_itself : (x : Found) → is_gt (compared x x) ≡ false
not_above_itself x = ap is_gt (tied_itself compared_total x)

-- two rising lists of equal files are one
one_order : (xs ys : List Found) → IsRisingBy compared xs → IsRisingBy compared ys → ((f : Found → ℕ) → sum_by f xs ≡ sum_by f ys) → xs ≡ ys
one_order [] [] ra rb h = refl
one_order [] (b ∷ ys) ra rb h = absurd (omega (arith, h (λ z. 1), sum_by-cons (λ (z : Found). 1) b ys))
one_order (a ∷ xs) [] ra rb h = absurd (omega (arith, h (λ z. 1), sum_by-cons (λ (z : Found). 1) a xs))
one_order (a ∷ xs) (b ∷ ys) ra rb h =
    let above_b = held_of_counted (λ z. is_gt (compared b z) ≡ false) a (b ∷ ys) (All-cons (λ z. is_gt (compared b z) ≡ false) b ys (not_above_itself b) rb.0)
    (omega (arith, h (one a), sum_by-cons (one a) a xs, one-refl a)) in
    let above_a = held_of_counted (λ z. is_gt (compared a z) ≡ false) b (a ∷ xs) (All-cons (λ z. is_gt (compared a z) ≡ false) a xs (not_above_itself a) ra.0)
    (omega (arith, h (one b), sum_by-cons (one b) b ys, one-refl b)) in
    let same : a ≡ b = compared-same a b (equal_from_both (compared a b) (compared b a) (compared_total.antisymm a b) above_a above_b) in
    let rest : xs ≡ ys = one_order xs ys ra.1 rb.1 (λ f. omega (arith, h f, sum_by-cons f a xs, sum_by-cons f b ys, ap f same)) in
    ap₂ (λ (x : Found) (zs : List Found). x ∷ zs) same rest

-- a rising permutation of files is the files in order
pub sorted-unique : (xs ys : List Found) → IsPermutation xs ys → IsRisingBy compared ys → ys ≡ sorted xs
sorted-unique xs ys moved rising =
    one_order ys (sorted xs) rising (IsRisingBy-sorted xs) (λ f. sum_by-IsPermutation f xs ys moved ∙ sym (sum_by-sorted f xs))

-- files that std sorted are the files in order
pub sorted-views : {X : Type 0} (view : X → Found) (xs ys : List X) → IsPermutation xs ys → IsSorted (λ a b. compared (view a) (view b)) ys → map view ys ≡ sorted (map view xs)
sorted-views view xs ys moved sorts =
    sorted-unique (map view xs) (map view ys) (IsPermutation-map view xs ys moved)
    (IsRisingBy-map compared view ys (from_sort (λ a b. compared (view a) (view b)) (on_total view compared_total) ys sorts))
