-- Names that two files have.
use Rattle.std.proofs.Common.{◌≡◌, ℕ, ◌<◌, Bool, true, false, cond, List, [], ◌∷◌, length, get_or, refl, sym, ap, ◌∙◌, arith}
use Rattle.std.specs.Prelude.{Option, Some, None}
use Rattle.std.specs.declared.cmp.Ordering.{Ordering}
use Rattle.std.specs.declared.cmp.Ordering.TheVariants.{Less, Equal, Greater}
use Rattle.std.specs.Ordering.{ordering_then, nat_cmp, is_lt, is_gt, is_eq}
use Rattle.std.specs.Cmp.Lexicographic.{slice_cmp, texts_ties}
use Rattle.std.specs.Str.{bytes_eq}
use Rattle.std.proofs.lemmas.Cmp.{nat_list_cmp_total}
use Rattle.std.proofs.lemmas.List.Elements.{All-nil, All-cons}
use Rattle.clip_store.specs.Listing.{Found, compared, first_twice}
use Rattle.clip_store.specs.inner.Orders.{IsStrict}
use Rattle.clip_store.proofs.Sorting.{IsRisingBy}

first_below : (o p : Ordering) → is_gt (ordering_then o p) ≡ false → is_eq o ≡ false → is_lt o ≡ true
first_below Less p a b = refl
first_below Equal p a b = cc
first_below Greater p a b = cc

is_less : (o : Ordering) → is_lt o ≡ true → o ≡ Less
is_less Less e = refl
is_less Equal e = cc
is_less Greater e = cc

none_second : (same : Bool) (name : List ℕ) (rest : Option (List ℕ)) → cond same (Some name) rest ≡ None → (same ≡ false) × (rest ≡ None)
none_second true name rest e = cc
none_second false name rest e = (refl, e)

abbrev IsBelowIn : Found → Found → Type 0
IsBelowIn x y = is_lt (slice_cmp nat_cmp x.name y.name) ≡ true

below_then : (x y z : Found) → IsBelowIn x y → IsBelowIn y z → IsBelowIn x z
below_then x y z p q =
    ap is_lt (nat_list_cmp_total.trans x.name y.name z.name (is_less (slice_cmp nat_cmp x.name y.name) p) (is_less (slice_cmp nat_cmp y.name z.name) q))

-- ordered files of which no two have one name have strictly rising names
pub IsStrict-from : (xs : List Found) → IsRisingBy compared xs → first_twice xs ≡ None → IsStrict xs
IsStrict-from [] rises once = tt
IsStrict-from (x ∷ []) rises once = (All-nil (λ later. is_lt (slice_cmp nat_cmp x.name later.name) ≡ true), tt)
IsStrict-from (x ∷ y ∷ ys) rises once =
    let parts = none_second (bytes_eq x.name y.name) x.name (first_twice (y ∷ ys)) once in
    let rest = IsStrict-from (y ∷ ys) rises.1 parts.1 in
    let first : IsBelowIn x y = first_below (slice_cmp nat_cmp x.name y.name) (slice_cmp nat_cmp x.file y.file) (rises.0 0 y (omega arith)) (sym (texts_ties x.name y.name) ∙ parts.0) in
    (All-cons (λ later. is_lt (slice_cmp nat_cmp x.name later.name) ≡ true) y ys first (λ i d lt. below_then x y (get_or ys i d) first (rest.0 i d lt)), rest)

-- of fewer than two files no two have one name
pub first_twice-short : (xs : List Found) → length xs < 2 → first_twice xs ≡ None
first_twice-short [] short = refl
first_twice-short (x ∷ []) short = refl
first_twice-short (x ∷ y ∷ ys) short = absurd (omega arith)
